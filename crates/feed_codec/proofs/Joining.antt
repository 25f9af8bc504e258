-- Payloads that pass by themselves, taken together.
use Rattle.std.proofs.Common.{◌≡◌, ℕ, ◌≤◌, Bool, true, false, cond, eqb, List, [], ◌∷◌, ◌++◌, append_assoc, length, Option, Some, None, Result, Ok, Err, refl, sym, ap, subst, ◌∙◌, rules}
use Rattle.std.specs.Option.{option_map, option_or}
use Rattle.std.specs.List.{flat_map, AllByRecursion, concat}
use Rattle.std.specs.Prelude.{IfOk}
use Rattle.std.specs.declared.alloc.AllocError.{AllocError}
use Rattle.std.proofs.lemmas.Bool.{le-ltb, eqb-true}
use Rattle.rt_wire.specs.declared.fault.WireFault.{WireFault}
use Rattle.rt_wire.specs.Fields.{IsBytes, WireField, Joins, Spells}
use Rattle.rt_wire.specs.Placed.{PlacedField, placed_fields}
use Rattle.feed_values.specs.declared.required.Required.{Required}
use Rattle.feed_values.specs.declared.required.Required.TheVariants as required
use Rattle.feed_values.specs.declared.feed_header.FeedHeader.{FeedHeader}
use Rattle.feed_values.specs.Schema.{Needed, Value, Rises}
use Rattle.feed_values.specs.Messages.{feed_header, entity}
use Rattle.feed_values.specs.Meaning.{fields, whole_fields, given, in_slot, payload_in, option_case, meaning}
use Rattle.feed_values.specs.Views.{feed_header_value}
use Rattle.feed_values.specs.WellFormed.{IsWellFormed}
use Rattle.feed_values.specs.Accepted.{IsWhole, IsMessage, missing, missing_message, first_missing, is_differential, snapshot_limit}
use Rattle.feed_codec.specs.declared.refusal.Refusal.{Refusal}
use Rattle.feed_codec.specs.declared.refusal.Reason.TheVariants.{Differential}
use Rattle.feed_codec.specs.Refusal.{refused, shifted, first_in, in_payload, first_fault, part_fault, missing_at, end_fault, refusal}
use Rattle.feed_codec.specs.Parts.{Passed, IsJoined, header_end, PartsDecide}
use Rattle.feed_codec.proofs.Bytes.{bytes_left, bytes_right, bytes_concat, given_bytes, fields_bytes}
use Rattle.feed_codec.proofs.Firsts.{none_faultless}
use Rattle.feed_codec.proofs.ValidTexts.{nothing, neither, unmapped}
use Rattle.feed_codec.proofs.SnapshotFaults.{bytes_agree, parts_agree}
use Rattle.feed_values.specs.Joined.{IsFieldList}
use Rattle.feed_values.proofs.JoinedFields as joining
use Rattle.feed_values.proofs.SnapshotFields.{fields_are}
use Rattle.feed_codec.proofs.Snapshots.{complete_entities}
use Rattle.feed_codec.proofs.WellFormedValues.{DefaultsFit, meaning_fits}

-- ---- the fields of a join

field_lists : (ps : List (List ℕ)) → IsBytes (concat ps) → Passed ps → AllByRecursion IsFieldList ps
field_lists [] ok h = tt
field_lists (p ∷ ps) ok h =
    let m = (bytes_agree feed_header).none p (bytes_left p (concat ps) ok) h.0 in
    ((m.0, m.1), field_lists ps (bytes_right p (concat ps) ok) h.1)

pub fields_joined : (ps : List (List ℕ)) → IsBytes (concat ps) → Passed ps → fields (concat ps) ≡ flat_map fields ps
fields_joined ps ok h = joining.fields_joined ps (field_lists ps ok h)

-- ---- what a header's payloads mean together

all_append : {A : Type 0} (P : A → Type 0) (xs ys : List A) → AllByRecursion P xs → AllByRecursion P ys → AllByRecursion P (xs ++ ys)
all_append P [] ys h k = k
all_append P (x ∷ xs) ys h k = (h.0, all_append P xs ys h.1 k)

joins_append : (l m : List WireField) (a b : List ℕ) → Joins (Spells 100) l a → Joins (Spells 100) m b → Joins (Spells 100) (l ++ m) (a ++ b)
joins_append [] m a b j k = rw j k
joins_append (r ∷ l) m a b j k = (j.0, j.1 ++ b, ap (λ (t : List ℕ). t ++ b) j.2 ∙ append_assoc j.0 j.1 b, j.3, joins_append l m j.1 b j.4 k)

joined_message : (ps : List (List ℕ)) → IsBytes (concat ps) → Passed ps → IsMessage feed_header (concat ps)
joined_message [] ok h = ([], refl, tt)
joined_message (p ∷ ps) ok h =
    let m = (bytes_agree feed_header).none p (bytes_left p (concat ps) ok) h.0 in
    let n = joined_message ps (bytes_right p (concat ps) ok) h.1 in
    (m.0 ++ n.0, joins_append m.0 n.0 p (concat ps) m.1 n.1, all_append (IsWhole feed_header) m.0 n.0 m.2 n.2)

header_rises : Rises 0 feed_header
header_rises = search rules

header_defaults : DefaultsFit feed_header
header_defaults = search rules

pub header_fits : (parts : List ℕ) (answer : Result FeedHeader AllocError) → IsBytes parts → IsJoined parts → IfOk answer (λ header. feed_header_value header ≡ meaning feed_header (fields parts))
    → IfOk answer (λ header. IsWellFormed feed_header (feed_header_value header))
header_fits parts (Err a) ok j is = tt
header_fits parts (Ok header) ok j is = subst (λ (v : Value feed_header). IsWellFormed feed_header v) (sym is) (meaning_fits feed_header parts header_rises header_defaults ok (rw j.2 (joined_message j.0 (rw j.2 at ok) j.1)))

-- ---- a snapshot by its parts

-- a payload of slot 1 is one of the header
header_part : (number : ℕ) (p : List ℕ) → number ≡ 1 → part_fault number p ≡ nothing → first_fault feed_header p ≡ nothing
header_part number p e h = rw e at h

passed_part : (number : ℕ) (p : List ℕ) (b : Bool) → eqb number 1 ≡ b → part_fault number p ≡ nothing → (rest : List (List ℕ)) → Passed rest → Passed (option_case (cond b (Some p) None) rest (λ x. x ∷ rest))
passed_part number p false e h rest k = k
passed_part number p true e h rest k = (header_part number p (eqb-true number 1 e) h, k)

no_part : (b : Bool) (rest : List (List ℕ)) → Passed rest → Passed (option_case (cond b None None) rest (λ x. x ∷ rest))
no_part true rest k = k
no_part false rest k = k

passed_field : (number body : ℕ) (o : Option (List ℕ)) → option_case o nothing (λ p. option_map (shifted body) (part_fault number p)) ≡ nothing → (rest : List (List ℕ)) → Passed rest
    → Passed (option_case (cond (eqb number 1) o None) rest (λ p. p ∷ rest))
passed_field number body None e rest k = no_part (eqb number 1) rest k
passed_field number body (Some p) e rest k = passed_part number p (eqb number 1) refl (unmapped body (part_fault number p) e) rest k

passed_parts : (parts : List (Result PlacedField WireFault)) → first_in (in_payload part_fault) parts ≡ nothing → Passed (given (in_slot payload_in 1) (whole_fields parts))
passed_parts [] e = tt
passed_parts (Ok f ∷ rest) e =
    let n = neither (in_payload part_fault f) (first_in (in_payload part_fault) rest) e in
    passed_field f.field.number f.body (payload_in f.field.value) n.0 (given (in_slot payload_in 1) (whole_fields rest)) (passed_parts rest n.1)
passed_parts (Err fault ∷ rest) e = tt

end_case : (at : ℕ) (ps : List (List ℕ)) (lacks : Option Required) → lacks ≡ None → fields (concat ps) ≡ flat_map fields ps
    → option_or (missing_at at (option_or (missing_message (Needed required.Header) (missing feed_header) ps) (option_or lacks None))) (cond (is_differential (flat_map fields ps)) (Some (refused at Differential)) None) ≡ header_end at ps
end_case at [] lacks e f = refl
end_case at (p ∷ ps) lacks e f = rw (e, f) (ap (λ o. option_or (missing_at at o) (cond (is_differential (flat_map fields (p ∷ ps))) (Some (refused at Differential)) None)) (nothing_more (missing feed_header (flat_map fields (p ∷ ps)))))
  where
    nothing_more : (o : Option Required) → option_or o None ≡ o
    nothing_more None = refl
    nothing_more (Some x) = refl

entities_lack : (bytes : List ℕ) → first_in (in_payload part_fault) (placed_fields bytes) ≡ nothing → first_missing (missing entity) (given (in_slot payload_in 2) (fields bytes)) ≡ None
unfolding fields
entities_lack bytes e = complete_entities (placed_fields bytes) e

passed_all : (bytes : List ℕ) → first_in (in_payload part_fault) (placed_fields bytes) ≡ nothing → Passed (given (in_slot payload_in 1) (fields bytes))
unfolding fields
passed_all bytes e = passed_parts (placed_fields bytes) e

by_parts : (bytes : List ℕ) → IsBytes bytes → (o : Option Refusal) → first_in (in_payload part_fault) (placed_fields bytes) ≡ o
    → option_or o (end_fault (length bytes) (fields bytes)) ≡ option_or o (header_end (length bytes) (given (in_slot payload_in 1) (fields bytes)))
by_parts bytes ok (Some r) e = refl
by_parts bytes ok None e =
    let m = none_faultless parts_agree bytes ok e in
    let same : fields bytes ≡ m.0 = fields_are m.0 bytes m.1 in
    let each : AllByRecursion IsBytes (given (in_slot payload_in 1) (fields bytes)) = rw same (given_bytes 1 m.0 (fields_bytes m.0 bytes m.1 ok)) in
    let ps = given (in_slot payload_in 1) (fields bytes) in
    end_case (length bytes) ps (first_missing (missing entity) (given (in_slot payload_in 2) (fields bytes))) (entities_lack bytes e) (fields_joined ps (bytes_concat ps each) (passed_all bytes e))

refused_by_parts : (bytes : List ℕ) → IsBytes bytes → length bytes ≤ snapshot_limit
    → refusal bytes ≡ option_or (first_in (in_payload part_fault) (placed_fields bytes)) (header_end (length bytes) (given (in_slot payload_in 1) (fields bytes)))
unfolding refusal
refused_by_parts bytes ok le = rw (le-ltb snapshot_limit (length bytes) le) (by_parts bytes ok (first_in (in_payload part_fault) (placed_fields bytes)) refl)

pub parts_decide : PartsDecide
parts_decide = record { joined = fields_joined; refused = refused_by_parts }
