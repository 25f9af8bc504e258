-- The entities of a kept snapshot.
use Rattle.std.proofs.Common.{◌≡◌, ◌<◌, ◌-◌, ℕ, zero, suc, List, [], ◌∷◌, map, length, take, drop, Option, Some, None, refl, sym, ap, subst, ◌∙◌, arith, get_or}
use Rattle.std.proofs.lemmas.List.{length-map, length-take-le, length-drop}
use Rattle.std.proofs.lemmas.Option.{slice_get-map, slice_get_read}
use Rattle.std.specs.Prelude.{IfSome, slice_get}
use Rattle.std.specs.Option.{option_map}
use Rattle.std.specs.List.{AllByRecursion}
use Rattle.rt_wire.specs.Placed.{placed_fields}
use Rattle.feed_values.specs.Snapshot.{entity_payloads}
use Rattle.feed_codec.specs.Refusal.{entity_fault, refusal}
use Rattle.feed_stream.specs.declared.part.Part.{Part}
use Rattle.feed_stream.specs.Payloads.{payloads_in, entity_bases}
use Rattle.feed_stream.specs.Parts.{IsWithin, part_bytes, payload_at}
use Rattle.feed_stream.proofs.Payloads.{ranges_give, ranges_begin}
use Rattle.feed_stream.proofs.Passing.{accepted_passes}

pub all_at : {A : Type 0} (P : A → Type 0) (xs : List A) (i : ℕ) (x : A) → AllByRecursion P xs → slice_get xs i ≡ Some x → P x
all_at P [] i x h e = absurd cc
all_at P (y ∷ ys) zero x h e = let same : y ≡ x = cc in subst P same h.0
all_at P (y ∷ ys) (suc i) x h e = all_at P ys i x h.1 e

-- the ranges of the entities are as many as the entities
pub entity_count : (bytes : List ℕ) (parts : List Part) → map (payload_at bytes) parts ≡ payloads_in 2 (placed_fields bytes)
    → length parts ≡ length (entity_payloads bytes)
entity_count bytes parts e = sym (length-map parts (part_bytes bytes)) ∙ ap (λ (l : List (List ℕ)). length l) (ranges_give bytes 2 parts e)

pub entity_there : (bytes : List ℕ) (parts : List Part) (i : ℕ) (p : Part) → map (payload_at bytes) parts ≡ payloads_in 2 (placed_fields bytes)
    → i < length (entity_payloads bytes) → p ≡ get_or parts i p → slice_get parts i ≡ Some p
entity_there bytes parts i p e lt read = slice_get_read parts (length parts) i p refl (subst (λ n. i < n) (sym (entity_count bytes parts e)) lt) read

-- and give their payloads, each in its turn
pub entity_at : (bytes : List ℕ) (parts : List Part) (i : ℕ) (p : Part) → map (payload_at bytes) parts ≡ payloads_in 2 (placed_fields bytes)
    → slice_get parts i ≡ Some p → Some (part_bytes bytes p) ≡ slice_get (entity_payloads bytes) i
entity_at bytes parts i p e h =
    sym (ap (λ (l : List (List ℕ)). slice_get l i) (sym (ranges_give bytes 2 parts e))
    ∙ slice_get-map (part_bytes bytes) parts i ∙ ap (option_map (part_bytes bytes)) h)

pub base_at : (bytes : List ℕ) (parts : List Part) (i : ℕ) (p : Part) → map (payload_at bytes) parts ≡ payloads_in 2 (placed_fields bytes)
    → slice_get parts i ≡ Some p → Some p.start ≡ slice_get (entity_bases bytes) i
base_at bytes parts i p e h =
    sym (ap (λ (l : List ℕ). slice_get l i) (sym (ranges_begin bytes 2 parts e))
    ∙ slice_get-map (λ (q : Part). q.start) parts i ∙ ap (option_map (λ (q : Part). q.start)) h)

part_begins : (bytes : List ℕ) (p : Part) → IsWithin bytes p → take (length (part_bytes bytes p)) (drop p.start bytes) ≡ part_bytes bytes p
part_begins bytes p w =
    let left : length (drop p.start bytes) ≡ length bytes - p.start = length-drop p.start bytes in
    let order = w.order in
    let within = w.within in
    let size : length (part_bytes bytes p) ≡ p.end - p.start = length-take-le (p.end - p.start) (drop p.start bytes) (omega (arith, left, order, within)) in
    ap (λ n. take n (drop p.start bytes)) size

-- the bytes from the beginning of a range on begin with what the range gives
pub begins_at : (bytes : List ℕ) (p : Part) (o : Option (List ℕ)) → IsWithin bytes p → Some (part_bytes bytes p) ≡ o
    → IfSome o (λ payload. take (length payload) (drop p.start bytes) ≡ payload)
begins_at bytes p o w e = subst (λ (o : Option (List ℕ)). IfSome o (λ payload. take (length payload) (drop p.start bytes) ≡ payload)) e (part_begins bytes p w)

-- an entity of an accepted snapshot passes
pub entity_passes : (bytes : List ℕ) (i : ℕ) (payload : List ℕ) → refusal bytes ≡ None → Some payload ≡ slice_get (entity_payloads bytes) i → entity_fault payload ≡ None
entity_passes bytes i payload accepted e = all_at (λ p. entity_fault p ≡ None) (entity_payloads bytes) i payload (accepted_passes 2 bytes accepted) (sym e)
