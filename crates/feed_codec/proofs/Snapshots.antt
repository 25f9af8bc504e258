-- What follows for a whole snapshot where nothing is wrong with its parts.
use Rattle.std.proofs.Common.{◌≡◌, ℕ, Bool, true, false, cond, eqb, List, [], ◌∷◌, length, Option, Some, None, Result, Ok, Err, refl, ap, ◌∙◌}
use Rattle.std.specs.Option.{option_or, option_map}
use Rattle.std.specs.List.{flat_map}
use Rattle.std.proofs.lemmas.Bool.{eqb-true}
use Rattle.rt_wire.specs.declared.fault.WireFault.{WireFault}
use Rattle.rt_wire.specs.Placed.{PlacedField, placed_fields}
use Rattle.feed_values.specs.declared.required.Required.{Required}
use Rattle.feed_values.specs.declared.required.Required.TheVariants as required
use Rattle.feed_values.specs.Schema.{Needed}
use Rattle.feed_values.specs.Messages.{feed_header, entity}
use Rattle.feed_values.specs.Meaning.{fields, whole_fields, given, in_slot, payload_in, option_case}
use Rattle.feed_values.specs.Accepted.{missing, missing_message, first_missing, header_fields, is_differential}
use Rattle.feed_codec.specs.declared.refusal.Reason.TheVariants.{MissingField, Differential}
use Rattle.feed_codec.specs.Paths.{holds, has_payload, is_payload}
use Rattle.feed_codec.specs.Refusal.{refused, shifted, first_in, in_payload, first_fault, entity_fault, part_fault, missing_at, end_fault}
use Rattle.feed_codec.proofs.ValidTexts.{nothing, neither, unmapped}
use Rattle.feed_codec.proofs.Headers.{header_missing}
use Rattle.feed_codec.proofs.RequiredSlots.{is_given, any_given}

-- ---- entities

pub complete_entity : (p : List ℕ) → entity_fault p ≡ nothing → (first_fault entity p ≡ nothing) × (missing entity (fields p) ≡ None)
unfolding entity_fault
complete_entity p e =
    let n = neither (first_fault entity p) (missing_at (length p) (missing entity (fields p))) e in
    (n.0, none_missing (length p) (missing entity (fields p)) n.1)
  where
    none_missing : (at : ℕ) (o : Option Required) → missing_at at o ≡ nothing → o ≡ None
    none_missing at None e = refl
    none_missing at (Some which) e = absurd cc

-- a payload of slot 2 is an entity
entity_part : (number : ℕ) (p : List ℕ) → number ≡ 2 → part_fault number p ≡ nothing → entity_fault p ≡ nothing
entity_part number p e h = rw e at h

complete_part : (number : ℕ) (p : List ℕ) (b : Bool) → eqb number 2 ≡ b → part_fault number p ≡ nothing → (rest : List (List ℕ)) → first_missing (missing entity) rest ≡ None
    → first_missing (missing entity) (option_case (cond b (Some p) None) rest (λ x. x ∷ rest)) ≡ None
complete_part number p false e h rest k = k
complete_part number p true e h rest k = rw ((complete_entity p (entity_part number p (eqb-true number 2 e) h)).1, k) refl

no_part : (b : Bool) (rest : List (List ℕ)) → first_missing (missing entity) rest ≡ None → first_missing (missing entity) (option_case (cond b None None) rest (λ x. x ∷ rest)) ≡ None
no_part true rest k = k
no_part false rest k = k

complete_field : (number body : ℕ) (o : Option (List ℕ)) → option_case o nothing (λ p. option_map (shifted body) (part_fault number p)) ≡ nothing
    → (rest : List (List ℕ)) → first_missing (missing entity) rest ≡ None
    → first_missing (missing entity) (option_case (cond (eqb number 2) o None) rest (λ p. p ∷ rest)) ≡ None
complete_field number body None e rest k = no_part (eqb number 2) rest k
complete_field number body (Some p) e rest k = complete_part number p (eqb number 2) refl (unmapped body (part_fault number p) e) rest k

pub complete_entities : (parts : List (Result PlacedField WireFault)) → first_in (in_payload part_fault) parts ≡ nothing → first_missing (missing entity) (given (in_slot payload_in 2) (whole_fields parts)) ≡ None
complete_entities [] e = refl
complete_entities (Ok f ∷ rest) e =
    let n = neither (in_payload part_fault f) (first_in (in_payload part_fault) rest) e in
    complete_field f.field.number f.body (payload_in f.field.value) n.0 (given (in_slot payload_in 2) (whole_fields rest)) (complete_entities rest n.1)
complete_entities (Err fault ∷ rest) e = refl

-- ---- the snapshot's end

header_case : (ps : List (List ℕ)) → missing_message (Needed required.Header) (missing feed_header) ps
    ≡ cond (is_given ps) (cond (has_payload 1 (flat_map fields ps)) None (Some required.Version)) (Some required.Header)
header_case [] = refl
header_case (p ∷ ps) = header_missing (flat_map fields (p ∷ ps))

at_end : (at : ℕ) (a b d : Bool) → option_or (missing_at at (option_or (cond a (cond b None (Some required.Version)) (Some required.Header)) None)) (cond d (Some (refused at Differential)) None)
    ≡ cond a (cond b (cond d (Some (refused at Differential)) None) (Some (refused at (MissingField required.Version)))) (Some (refused at (MissingField required.Header)))
at_end at false b d = refl
at_end at true false d = refl
at_end at true true d = refl

pub end_at : (at : ℕ) (bytes : List ℕ) → first_in (in_payload part_fault) (placed_fields bytes) ≡ nothing → end_fault at (fields bytes)
    ≡ cond (has_payload 1 (fields bytes))
    (cond (holds (1 ∷ []) (is_payload 1) (fields bytes))
    (cond (is_differential (header_fields (fields bytes))) (Some (refused at Differential)) None)
    (Some (refused at (MissingField required.Version)))) (Some (refused at (MissingField required.Header)))
unfolding fields holds
end_at at bytes e =
    let l = fields bytes in
    let ps = given (in_slot payload_in 1) l in
    let d = is_differential (header_fields l) in
    rw (complete_entities (placed_fields bytes) e, header_case ps)
    (at_end at (is_given ps) (has_payload 1 (flat_map fields ps)) d
    ∙ ap (λ b. cond b (cond (has_payload 1 (flat_map fields ps)) (cond d (Some (refused at Differential)) None) (Some (refused at (MissingField required.Version)))) (Some (refused at (MissingField required.Header))))
    (any_given (in_slot payload_in 1) l))
