-- What is held of feeds, in their rooms.
use Rattle.std.specs.Prelude.{◌≡◌, ℕ, zero, suc, ◌<◌, ◌≤◌, ◌==◌, Bool, true, false, List, [], ◌∷◌, ◌++◌, map, length, get_or, Option, Some, None, option_map, IfSome, refl}
use Rattle.std.proofs.Common.{◌∙◌, ap, sym, subst, arith, eq-eqb, set}
use Rattle.std.proofs.lemmas.List.{get_or-set_same, get_or-set_other, length-set}
use borrow.Author.Tests.{eqb-true}
use Rattle.feed_values.specs.Snapshot.{entity_of, entity_payloads}
use Rattle.rule_table.specs.declared.key.EntityKey.{EntityKey}
use Rattle.rule_history.specs.History.{Keyed, entities_in, ordered_after}
use Rattle.rule_history.specs.Answered.{payload_under}
use Rattle.entity_index.specs.Held.{HeldEntities, KeyedValues, at_key, held_at, entities_before, parts_at, values_of}
use Rattle.entity_index.specs.Seats.{HeldSeat, Seats, AreSeated, AreSeats, parts_in, places_of, values_in}
use Rattle.entity_index.specs.Rooms.{HeldRoom, AreAtPlaces, in_room, in_rooms, room_of}
use Rattle.entity_index.proofs.AtKey.{at-mapped}
use Rattle.entity_index.proofs.Taking.{places, keyed, entities-are, payload-at, seat-place, seat_is}

pub held-room : (rooms : List (Option HeldRoom)) (f : ℕ) → held_at (in_rooms rooms) f ≡ in_room (room_of rooms f)
held-room [] f = refl
held-room (r ∷ rooms) zero = refl
held-room (r ∷ rooms) (suc f) = held-room rooms f

-- past the end there is none
pub none_past : (rooms : List (Option HeldRoom)) (f : ℕ) → length rooms ≤ f → room_of rooms f ≡ None
none_past [] f l = refl
none_past (r ∷ rooms) zero l = absurd (omega (arith, l))
none_past (r ∷ rooms) (suc f) l = none_past rooms f (omega (arith, l))

-- an empty place more changes nothing
pub one_more : (rooms : List (Option HeldRoom)) (f : ℕ) → room_of (rooms ++ None ∷ []) f ≡ room_of rooms f
one_more [] zero = refl
one_more [] (suc f) = refl
one_more (r ∷ rooms) zero = refl
one_more (r ∷ rooms) (suc f) = one_more rooms f

-- ---- a room in its place
module _ (rooms : List (Option HeldRoom)) (f : ℕ) (y : Option HeldRoom) (l : f < length rooms) where
  pub placed_here : room_of (set rooms f y) f ≡ y
  placed_here = get_or-set_same rooms f y None l

  pub placed_other : (g : ℕ) → (f == g) ≡ false → room_of (set rooms f y) g ≡ room_of rooms g
  placed_other g n = get_or-set_other rooms f g y None apart
    where
      apart : g ≡ f → ⊥
      apart e = let t : (f == g) ≡ true = eq-eqb f g (sym e) in cc

  pub placed_at : IfSome y (λ room. room.feed ≡ f) → AreAtPlaces rooms → AreAtPlaces (set rooms f y)
  placed_at is are g = either (f == g) refl
    where
      either : (b : Bool) → (f == g) ≡ b → IfSome (room_of (set rooms f y) g) (λ room. room.feed ≡ g)
      either true e =
          subst (λ n. IfSome (room_of (set rooms f y) n) (λ room. room.feed ≡ n)) (eqb-true f g e) (subst (λ o. IfSome o (λ room. room.feed ≡ f)) (sym placed_here) is)
      either false e = subst (λ o. IfSome o (λ room. room.feed ≡ g)) (sym (placed_other g e)) (are g)

-- places taken from one list are those of another with the same rooms
pub same_places_of : (rooms others : List (Option HeldRoom)) → ((g : ℕ) → room_of others g ≡ room_of rooms g) → AreAtPlaces rooms → AreAtPlaces others
same_places_of rooms others same are g = subst (λ o. IfSome o (λ room. room.feed ≡ g)) (sym (same g)) (are g)

-- one that was taken out and another put in
module _ (rooms : List (Option HeldRoom)) (f : ℕ) (room : HeldRoom) (l : f < length rooms) where
  within_too : f < length (set rooms f None)
  within_too = subst (λ n. f < n) (sym (length-set rooms f None)) l

  pub swapped_here : room_of (set (set rooms f None) f (Some room)) f ≡ Some room
  swapped_here = placed_here (set rooms f None) f (Some room) within_too

  pub swapped_other : (g : ℕ) → (f == g) ≡ false → room_of (set (set rooms f None) f (Some room)) g ≡ room_of rooms g
  swapped_other g n = placed_other (set rooms f None) f (Some room) within_too g n ∙ placed_other rooms f None l g n

  pub swapped_at : room.feed ≡ f → AreAtPlaces rooms → AreAtPlaces (set (set rooms f None) f (Some room))
  swapped_at is are = placed_at (set rooms f None) f (Some room) within_too is (placed_at rooms f None l tt are)

-- ---- what is found in a room
module _ (f : ℕ) (qs : List (List ℕ)) (phase : Bool) (es : Seats) (are : AreSeats f qs phase es) where
  -- the value under a key is what the byte string there means
  pub value-there : (k : EntityKey) → option_map (λ (s : HeldSeat). s.value) (at_key k es) ≡ option_map entity_of (payload_under k (ordered_after [] (keyed f qs)))
  value-there k = go (at_key k es) refl ∙ sym (ap (option_map entity_of) (payload-at f qs k ∙ ap (option_map (λ j. get_or qs j [])) (sym (seat-place f qs phase es are k))))
    where
      go : (o : Option HeldSeat) → at_key k es ≡ o → option_map (λ (s : HeldSeat). s.value) (at_key k es) ≡ option_map entity_of (option_map (λ j. get_or qs j []) (option_map (λ (s : HeldSeat). s.place) (at_key k es)))
      go None h = ap (option_map (λ (s : HeldSeat). s.value)) h ∙ sym (ap (λ o. option_map entity_of (option_map (λ j. get_or qs j []) (option_map (λ (s : HeldSeat). s.place) o))) h)
      go (Some s) h =
          ap (option_map (λ (x : HeldSeat). x.value)) h ∙ ap (λ v. Some v) (seat_is f qs phase es are k s h).value
          ∙ sym (ap (λ o. option_map entity_of (option_map (λ j. get_or qs j []) (option_map (λ (x : HeldSeat). x.place) o))) h)

  -- the keys are those of the byte strings
  pub keys-there : map (λ e. e.0) (parts_in es) ≡ map (λ e. e.0) (ordered_after [] (keyed f qs))
  keys-there = twice es ∙ ap (map (λ (e : EntityKey × ℕ). e.0)) are.places_are ∙ sym (ap (map (λ (e : Keyed). e.0)) (entities-are f qs) ∙ mapped (ordered_after [] (places f qs)))
    where
      twice : (ds : Seats) → map (λ e. e.0) (parts_in ds) ≡ map (λ (e : EntityKey × ℕ). e.0) (places_of ds)
      twice [] = refl
      twice (d ∷ ds) = ap (λ xs. d.0 ∷ xs) (twice ds)

      mapped : (ds : List (EntityKey × ℕ)) → map (λ (e : Keyed). e.0) (map {B = Keyed} (λ e. (e.0, get_or qs e.1 [])) ds) ≡ map (λ (e : EntityKey × ℕ). e.0) ds
      mapped [] = refl
      mapped (d ∷ ds) = ap (λ xs. d.0 ∷ xs) (mapped ds)

  -- the values are what these mean
  pub values-there : values_in es ≡ values_of (ordered_after [] (keyed f qs))
  values-there = each es are.seats_are ∙ ap meant are.places_are ∙ sym (ap values_of (entities-are f qs) ∙ mapped (ordered_after [] (places f qs)))
    where
      meant : List (EntityKey × ℕ) → KeyedValues
      meant [] = []
      meant (d ∷ ds) = (d.0, entity_of (get_or qs d.1 [])) ∷ meant ds

      each : (ds : Seats) → AreSeated qs phase ds → values_in ds ≡ meant (places_of ds)
      each [] h = refl
      each (d ∷ ds) h = ap (λ v. (d.0, v) ∷ values_in ds) h.0.value ∙ ap (λ xs. (d.0, entity_of (get_or qs d.1.place [])) ∷ xs) (each ds h.1)

      mapped : (ds : List (EntityKey × ℕ)) → values_of (map {B = Keyed} (λ e. (e.0, get_or qs e.1 [])) ds) ≡ meant ds
      mapped [] = refl
      mapped (d ∷ ds) = ap (λ xs. (d.0, entity_of (get_or qs d.1 [])) ∷ xs) (mapped ds)

pub keys-seats : (es : Seats) → map (λ e. e.0) es ≡ map (λ e. e.0) (parts_in es)
keys-seats [] = refl
keys-seats (e ∷ es) = ap (λ xs. e.0 ∷ xs) (keys-seats es)

-- ---- what is held of a feed by its room
module _ (index : List HeldEntities) (rooms : List (Option HeldRoom)) (f : ℕ) (room : HeldRoom) (view : in_rooms rooms ≡ index) (there : Some room ≡ room_of rooms f) where
  pub held-is : held_at index f ≡ in_room (Some room)
  held-is = ap (λ xs. held_at xs f) (sym view) ∙ held-room rooms f ∙ ap in_room (sym there)

  pub keys-under : map (λ e. e.0) room.seats ≡ map (λ c. c.0) (held_at index f).parts
  keys-under = keys-seats room.seats ∙ ap (λ (h : HeldEntities). map (λ c. c.0) h.parts) (sym held-is)

  pub parts-under : (k : EntityKey) (o : Option HeldSeat) → o ≡ at_key k room.seats → option_map (λ (s : HeldSeat). s.parts) o ≡ parts_at k (held_at index f).parts
  parts-under k o is =
      ap (option_map (λ (s : HeldSeat). s.parts)) is ∙ sym (at-mapped (λ _ (s : HeldSeat). s.parts) room.seats k) ∙ ap (λ (h : HeldEntities). parts_at k h.parts) (sym held-is)

  module _ (places : AreAtPlaces rooms) (are : AreSeats room.feed (entity_payloads room.bytes) room.phase room.seats) where
    feed-is : room.feed ≡ f
    feed-is = subst (λ o. IfSome o (λ (r : HeldRoom). r.feed ≡ f)) (sym there) (places f)

    entities-held : entities_in room.feed room.bytes ≡ entities_before f (held_at index f).bytes
    entities-held = ap (λ g. entities_in g room.bytes) feed-is ∙ ap (λ (h : HeldEntities). entities_before f h.bytes) (sym held-is)

    pub entities-under : map (λ c. c.0) (held_at index f).parts ≡ map (λ e. e.0) (entities_before f (held_at index f).bytes)
    entities-under =
        sym keys-under ∙ keys-seats room.seats ∙ keys-there room.feed (entity_payloads room.bytes) room.phase room.seats are ∙ ap (map (λ (e : Keyed). e.0)) entities-held

    pub value-under : (k : EntityKey) (o : Option HeldSeat) → o ≡ at_key k room.seats → option_map (λ (s : HeldSeat). s.value) o ≡ option_map entity_of (payload_under k (entities_before f (held_at index f).bytes))
    value-under k o is =
        ap (option_map (λ (s : HeldSeat). s.value)) is ∙ value-there room.feed (entity_payloads room.bytes) room.phase room.seats are k ∙ ap (λ es. option_map entity_of (payload_under k es)) entities-held

    pub values-under : values_in room.seats ≡ values_of (entities_before f (held_at index f).bytes)
    values-under = values-there room.feed (entity_payloads room.bytes) room.phase room.seats are ∙ ap values_of entities-held
