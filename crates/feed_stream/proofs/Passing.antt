-- In an accepted snapshot nothing is wrong with any payload.
use Rattle.std.proofs.Common.{◌≡◌, ℕ, Bool, true, false, cond, eqb, List, [], ◌∷◌, Option, Some, None, Result, Ok, Err, refl, subst, nat_lt, length}
use Rattle.std.proofs.lemmas.Bool.{eqb-true}
use Rattle.std.specs.Option.{option_map, option_or}
use Rattle.std.specs.List.{AllByRecursion}
use Rattle.rt_wire.specs.declared.fault.WireFault.{WireFault}
use Rattle.rt_wire.specs.Placed.{PlacedField, placed_fields}
use Rattle.feed_values.specs.Meaning.{fields, whole_fields, given, in_slot, payload_in, option_case}
use Rattle.feed_values.specs.Accepted.{snapshot_limit}
use Rattle.feed_codec.specs.declared.refusal.Reason.TheVariants.{TooLarge}
use Rattle.feed_codec.specs.declared.refusal.Refusal.{Refusal}
use Rattle.feed_codec.specs.Refusal.{refused, shifted, first_in, in_payload, part_fault, end_fault, refusal}
use Rattle.feed_codec.proofs.ValidTexts.{unmapped, neither}

abbrev pub nothing : Option Refusal
nothing = None

abbrev pub Passes : ℕ → List ℕ → Type 0
Passes n p = part_fault n p ≡ nothing

passes_as : (n number : ℕ) (p : List ℕ) → number ≡ n → Passes number p → Passes n p
passes_as n number p e h = subst (λ k. Passes k p) e h

passes_here : (n number : ℕ) (p : List ℕ) (b : Bool) → eqb number n ≡ b → Passes number p → (rest : List (List ℕ)) → AllByRecursion (Passes n) rest
    → AllByRecursion (Passes n) (option_case (cond b (Some p) None) rest (λ x. x ∷ rest))
passes_here n number p false e h rest k = k
passes_here n number p true e h rest k = (passes_as n number p (eqb-true number n e) h, k)

passes_by : (n : ℕ) (b : Bool) (rest : List (List ℕ)) → AllByRecursion (Passes n) rest → AllByRecursion (Passes n) (option_case (cond b None None) rest (λ x. x ∷ rest))
passes_by n true rest k = k
passes_by n false rest k = k

passes_field : (n number body : ℕ) (o : Option (List ℕ)) → option_case o nothing (λ p. option_map (shifted body) (part_fault number p)) ≡ nothing
    → (rest : List (List ℕ)) → AllByRecursion (Passes n) rest
    → AllByRecursion (Passes n) (option_case (cond (eqb number n) o None) rest (λ p. p ∷ rest))
passes_field n number body None e rest k = passes_by n (eqb number n) rest k
passes_field n number body (Some p) e rest k = passes_here n number p (eqb number n) refl (unmapped body (part_fault number p) e) rest k

passes_all : (n : ℕ) (parts : List (Result PlacedField WireFault)) → first_in (in_payload part_fault) parts ≡ nothing
    → AllByRecursion (Passes n) (given (in_slot payload_in n) (whole_fields parts))
passes_all n [] e = tt
passes_all n (Ok f ∷ rest) e =
    let h = neither (in_payload part_fault f) (first_in (in_payload part_fault) rest) e in
    passes_field n f.field.number f.body (payload_in f.field.value) h.0 (given (in_slot payload_in n) (whole_fields rest)) (passes_all n rest h.1)
passes_all n (Err fault ∷ rest) e = tt

no_fault : (large : Bool) (o q : Option Refusal) → cond large (Some (refused snapshot_limit TooLarge)) (option_or o q) ≡ nothing → o ≡ nothing
no_fault true o q e = absurd cc
no_fault false o q e = (neither o q e).0

no_part_fault : (bytes : List ℕ) → refusal bytes ≡ nothing → first_in (in_payload part_fault) (placed_fields bytes) ≡ nothing
unfolding refusal
no_part_fault bytes e = no_fault (nat_lt snapshot_limit (length bytes)) (first_in (in_payload part_fault) (placed_fields bytes)) (end_fault (length bytes) (fields bytes)) e

-- the payloads of slot n of an accepted snapshot pass
pub accepted_passes : (n : ℕ) (bytes : List ℕ) → refusal bytes ≡ nothing → AllByRecursion (Passes n) (given (in_slot payload_in n) (fields bytes))
unfolding fields
accepted_passes n bytes e = passes_all n (placed_fields bytes) (no_part_fault bytes e)
