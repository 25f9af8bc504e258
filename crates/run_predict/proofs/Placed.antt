-- The entity that has a number in a snapshot.
use Rattle.std.specs.Prelude.{◌≡◌, ◌+◌, ℕ, List, [], ◌∷◌, ◌++◌, length, slice_get, take, Some, cond, bytes_eq}
use Rattle.std.specs.Option.{option_map}
use Rattle.std.proofs.Common.{sym, ap, ◌∙◌}
use Rattle.std.proofs.lemmas.List.{length-map, take_more}
use Rattle.std.proofs.lemmas.Option.{get_or_from_slice_get, slice_get-map, slice_get_within}
use Rattle.feed_values.specs.Schema.{Value}
use Rattle.feed_values.specs.Messages.{entity}
use Rattle.feed_values.specs.Snapshot.{entities_of, entity_of, entity_payloads}
use Rattle.feed_values.proofs.SnapshotFields.{snapshot_is_its_fields}
use Rattle.judging.specs.Seats.{count_id, id_of}
use Rattle.judging.proofs.Counted.{count_last}

pub as_many : (bytes : List ℕ) → length (entities_of bytes) ≡ length (entity_payloads bytes)
as_many bytes = ap length (snapshot_is_its_fields.entities bytes) ∙ length-map (entity_payloads bytes) entity_of

-- it is what its payload means
pub meant : (bytes : List ℕ) (i : ℕ) (p : List ℕ) → Some p ≡ slice_get (entity_payloads bytes) i → slice_get (entities_of bytes) i ≡ Some (entity_of p)
meant bytes i p is =
    ap (λ vs. slice_get vs i) (snapshot_is_its_fields.entities bytes) ∙ slice_get-map entity_of (entity_payloads bytes) i ∙ ap (option_map entity_of) (sym is)

-- ids are counted, one entity more
pub counted_next : (es : List (Value entity)) (i : ℕ) (v : Value entity) → slice_get es i ≡ Some v → (id : List ℕ) →
    count_id (take (i + 1) es) id ≡ cond (bytes_eq (id_of v) id) 1 0 + count_id (take i es) id
counted_next es i v at id =
    ap (λ xs. count_id xs id) (take_more es i v (slice_get_within es i v at) ∙ ap (λ y. take i es ++ y ∷ []) (get_or_from_slice_get es i v v at)) ∙ count_last (take i es) v id
