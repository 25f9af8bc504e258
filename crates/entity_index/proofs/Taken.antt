-- What is held of a feed once a snapshot was taken in.
use Rattle.std.specs.Prelude.{◌≡◌, ℕ, Bool, true, false, not, List, [], ◌∷◌, map, Some, None, bytes_eq, refl}
use Rattle.std.specs.Cmp.Lexicographic.{pointwise}
use Rattle.std.specs.List.{AllByRecursion}
use Rattle.std.specs.List.Sorted.{IsStrictlySortedBy}
use Rattle.std.specs.Map.{keys_of}
use Rattle.std.specs.declared.cmp.Ordering.TheVariants.{Less}
use Rattle.std.proofs.Common.{◌∙◌, ap, sym, subst}
use Rattle.feed_values.specs.Snapshot.{entity_payloads}
use Rattle.rule_table.specs.declared.key.EntityKey.{EntityKey}
use Rattle.rule_table.specs.Groups.{Each}
use Rattle.rule_table.specs.GroupLaws.{each_weaken}
use Rattle.rule_table.specs.Order.{key_cmp}
use Rattle.rule_table.specs.Rises.{Rising}
use Rattle.rule_history.specs.History.{id_of, entities_in}
use Rattle.entity_index.specs.declared.incoming.Incoming.{Incoming}
use Rattle.entity_index.specs.Held.{KeyedParts, at_key}
use Rattle.entity_index.specs.Changes.{AreIncoming, parts_then}
use Rattle.entity_index.specs.Seats.{Seats, AreSeats, IsSeat, occurrences_after, parts_in, placed_after}
use Rattle.entity_index.specs.Put.{put_all, seat_all, staying}
use Rattle.entity_index.proofs.Placed.{ids_equal, same_places, same_occurrences}
use Rattle.entity_index.proofs.Taking.{seats_hold, none_hold, seat-place, all_taken, taken_are, taken-parts, first_taken, other_taken, same_taken}

pub rising_sorted : {A : Type 0} (es : List (EntityKey × A)) → IsStrictlySortedBy key_cmp (keys_of es) → Rising es
unfolding IsStrictlySortedBy
rising_sorted [] h = tt
rising_sorted {A} (e ∷ es) h = (each es h.0, rising_sorted es h.1)
  where
    each : (ds : List (EntityKey × A)) → AllByRecursion (λ k. key_cmp e.0 k ≡ Less) (keys_of ds) → Each (λ d. key_cmp e.0 d.0 ≡ Less) ds
    each [] p = tt
    each (d ∷ ds) p = (p.0, each ds p.1)

-- the entities are seated, with the lists that came in or were held
pub record AreTaken (f : ℕ) (bytes : List ℕ) (phase : Bool) (came : List Incoming) (old : KeyedParts) (es : Seats) : Type 0 where
  pub seated : AreSeats f (entity_payloads bytes) phase es
  pub parts_are : parts_in es ≡ map (λ e. (e.0, parts_then came old e.0)) (entities_in f bytes)

module _ (f : ℕ) (bytes : List ℕ) (came : List Incoming) where
  pub first_in : (phase other : Bool) (new : Seats) → AreIncoming f None bytes came → IsStrictlySortedBy key_cmp (keys_of new) →
      ((k : EntityKey) → at_key k new ≡ seat_all phase (placed_after f [] 0 (entity_payloads bytes)) (put_all other came (λ q. at_key q [])) k) → AreTaken f bytes phase came [] new
  first_in phase other new inc sorted is =
      subst (AreTaken f bytes phase came []) (sym (first_taken f (entity_payloads bytes) [] [] came none_hold inc.keys_are inc.values_are phase other new refl (rising_sorted new sorted) is))
      record {
        seated = taken_are f (entity_payloads bytes) [] [] came none_hold inc.keys_are inc.values_are phase;
        parts_are = taken-parts f (entity_payloads bytes) [] [] came none_hold inc.keys_are inc.values_are phase;
      }

  module _ (old_bytes : List ℕ) (before : Bool) (old : Seats) (are : AreSeats f (entity_payloads old_bytes) before old) (inc : AreIncoming f (Some old_bytes) bytes came) where
    stay : Each (λ e. e.1.phase ≡ before) old
    stay = each_weaken (λ e. IsSeat (entity_payloads old_bytes) before e.1) (λ e. e.1.phase ≡ before) (λ e s. s.stays) old are.seats_are

    abbrev all : Bool → Seats
    all phase = all_taken f (entity_payloads bytes) (entities_in f old_bytes) old came (seats_hold f (entity_payloads old_bytes) before old are) inc.keys_are inc.values_are phase

    all_are : (phase : Bool) → AreTaken f bytes phase came (parts_in old) (all phase)
    all_are phase = record {
      seated = taken_are f (entity_payloads bytes) (entities_in f old_bytes) old came (seats_hold f (entity_payloads old_bytes) before old are) inc.keys_are inc.values_are phase;
      parts_are = taken-parts f (entity_payloads bytes) (entities_in f old_bytes) old came (seats_hold f (entity_payloads old_bytes) before old are) inc.keys_are inc.values_are phase;
    }

    -- with other ids, or another order
    pub other_in : (new : Seats) → IsStrictlySortedBy key_cmp (keys_of new) →
        ((k : EntityKey) → at_key k new ≡ staying (not before) (seat_all (not before) (placed_after f [] 0 (entity_payloads bytes)) (put_all before came (λ q. at_key q old)) k)) → AreTaken f bytes (not before) came (parts_in old) new
    other_in new sorted is =
        subst (AreTaken f bytes (not before) came (parts_in old))
        (sym (other_taken f (entity_payloads bytes) (entities_in f old_bytes) old came (seats_hold f (entity_payloads old_bytes) before old are) inc.keys_are inc.values_are (not before) new
        (each_weaken (λ e. e.1.phase ≡ before) (λ e. e.1.phase ≡ not (not before)) (λ e s. s ∙ sym (twice before)) old stay) (rising_sorted new sorted)
        (λ k. is k ∙ ap (λ b. staying (not before) (seat_all (not before) (placed_after f [] 0 (entity_payloads bytes)) (put_all b came (λ q. at_key q old)) k)) (sym (twice before)))))
        (all_are (not before))
      where
        twice : (b : Bool) → not (not b) ≡ b
        twice true = refl
        twice false = refl

    -- with the same ids in the same order
    pub same_in : (new : Seats) → pointwise bytes_eq (map id_of (entity_payloads old_bytes)) (map id_of (entity_payloads bytes)) ≡ true → IsStrictlySortedBy key_cmp (keys_of new) →
        ((k : EntityKey) → at_key k new ≡ put_all before came (λ q. at_key q old) k) → AreTaken f bytes before came (parts_in old) new
    same_in new ids sorted is =
        subst (AreTaken f bytes before came (parts_in old))
        (sym (same_taken f (entity_payloads bytes) (entities_in f old_bytes) old came (seats_hold f (entity_payloads old_bytes) before old are) inc.keys_are inc.values_are before new
        (λ k. seat-place f (entity_payloads old_bytes) before old are k ∙ ap (at_key k) (same_places f (entity_payloads old_bytes) (entity_payloads bytes) (ids_equal (entity_payloads old_bytes) (entity_payloads bytes) ids)))
        stay (rising_sorted new sorted) is))
        (all_are before)

pub still_occur : (old_bytes bytes : List ℕ) → pointwise bytes_eq (map id_of (entity_payloads old_bytes)) (map id_of (entity_payloads bytes)) ≡ true → (counts : List ℕ) →
    counts ≡ occurrences_after [] (entity_payloads old_bytes) → counts ≡ occurrences_after [] (entity_payloads bytes)
still_occur old_bytes bytes ids counts h = h ∙ same_occurrences (entity_payloads old_bytes) (entity_payloads bytes) (ids_equal (entity_payloads old_bytes) (entity_payloads bytes) ids)
