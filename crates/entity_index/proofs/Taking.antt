-- What is held once a snapshot was taken in.
use Rattle.std.specs.Prelude.{◌≡◌, ℕ, ◌+◌, Bool, true, false, not, cond, List, [], ◌∷◌, map, filter, get_or, Option, Some, None, option_map, is_some, unwrap_or, bytes_eq, refl}
use mathlib.Core.Bool.{beq}
use Rattle.std.specs.Option.{option_or}
use Rattle.std.proofs.Common.{◌∙◌, ap, sym, subst, arith}
use Rattle.std.proofs.lemmas.Slice.Eq.{bytes_eq-Decides}
use Rattle.feed_values.specs.Snapshot.{entity_of}
use Rattle.feed_values.specs.Views.{entity_value}
use Rattle.feed_values.specs.Schema.{Value}
use Rattle.feed_values.specs.Messages.{entity}
use Rattle.rule_table.specs.declared.key.EntityKey.{EntityKey}
use Rattle.rule_table.specs.Groups.{Each}
use Rattle.rule_table.specs.Rises.{Rising}
use Rattle.rule_history.specs.History.{Keyed, keyed_after, ordered_after}
use Rattle.rule_history.specs.Changed.{is_payload}
use Rattle.rule_history.specs.Answered.{payload_under}
use Rattle.rule_history.proofs.Keyed.{rising_after}
use Rattle.engine_laws.specs.HeldFeeds.{AreApart}
use Rattle.engine_laws.specs.Delta.{is_other}
use Rattle.entity_index.specs.Seats.{placed_after, HeldSeat, Seats, places_of, parts_in, IsSeat, AreSeats}
use Rattle.entity_index.specs.Held.{at_key, parts_at}
use Rattle.entity_index.specs.declared.incoming.Incoming.{Incoming}
use Rattle.entity_index.specs.Lists.{Lists, no_lists}
use Rattle.entity_index.specs.Changes.{parts_then}
use Rattle.entity_index.specs.Put.{come, put_all, seated, seat_all, staying}
use Rattle.entity_index.proofs.AtKey.{at-mapped, at-ordered, each_at, keys-some, keys-apart, apart-filter, at-filter, gone-filter, ordered-mapped, rising-mapped, same_entries}
use Rattle.entity_index.proofs.Placed.{placed_apart, placed-keys, keyed-placed}
use Rattle.entity_index.proofs.Coming.{keyed_came, find-keyed, come_key, put_found, seat_found, put-found, seat-found}

some_same : {A : Type 0} (x y : A) → Some x ≡ Some y → x ≡ y
some_same x y h = cc

-- ---- a snapshot by its byte strings
module _ (f : ℕ) (ps : List (List ℕ)) where
  abbrev pub places : List (EntityKey × ℕ)
  places = placed_after f [] 0 ps

  abbrev pub keyed : List Keyed
  keyed = keyed_after f [] ps

  keyed-is : keyed ≡ map {B = EntityKey × List ℕ} (λ e. (e.0, get_or ps e.1 [])) places
  keyed-is = keyed-placed f [] ps 0 ps (λ j. ap (λ n. get_or ps n []) (same j))
    where
      same : (j : ℕ) → j ≡ j + 0
      same j = omega arith

  -- its entities in order are those at the places in order
  pub entities-are : ordered_after [] keyed ≡ map {B = EntityKey × List ℕ} (λ e. (e.0, get_or ps e.1 [])) (ordered_after [] places)
  entities-are = ap (ordered_after []) keyed-is ∙ ordered-mapped (λ i. get_or ps i []) [] places

  pub at-places : (k : EntityKey) → at_key k (ordered_after [] places) ≡ at_key k places
  at-places k = at-ordered [] places k (placed_apart f [] 0 ps) ∙ or_none (at_key k places)
    where
      or_none : (o : Option ℕ) → option_or o None ≡ o
      or_none None = refl
      or_none (Some x) = refl

  pub at-keyed : (k : EntityKey) → at_key k keyed ≡ option_map (λ i. get_or ps i []) (at_key k places)
  at-keyed k = ap (at_key k) keyed-is ∙ at-mapped (λ _ i. get_or ps i []) places k

  pub payload-at : (k : EntityKey) → payload_under k (ordered_after [] keyed) ≡ option_map (λ i. get_or ps i []) (at_key k places)
  payload-at k = ap (at_key k) entities-are ∙ at-mapped (λ _ i. get_or ps i []) (ordered_after [] places) k ∙ ap (option_map (λ i. get_or ps i [])) (at-places k)

  pub keyed_apart : AreApart keyed
  keyed_apart = keys-apart places keyed (placed-keys f [] 0 ps) (placed_apart f [] 0 ps)

  -- seats by their places
  module _ (phase : Bool) (es : Seats) (are : AreSeats f ps phase es) where
    pub seat-place : (k : EntityKey) → option_map (λ (s : HeldSeat). s.place) (at_key k es) ≡ at_key k places
    seat-place k = sym (at-mapped (λ _ (s : HeldSeat). s.place) es k) ∙ ap (at_key k) are.places_are ∙ at-places k

    pub seat_is : (k : EntityKey) (s : HeldSeat) → at_key k es ≡ Some s → IsSeat ps phase s
    seat_is k s h = each_at (IsSeat ps phase) k es s are.seats_are h

-- ---- a seat that was found or put in
pub record Has (o : Option HeldSeat) (value : Value entity) (parts : Lists) : Type 0 where
  pub seat : HeldSeat
  pub is : o ≡ Some seat
  pub value_is : seat.value ≡ value
  pub parts_are : seat.parts ≡ parts

-- what is seated is what the byte strings under its keys mean
pub seats_hold : (f : ℕ) (qs : List (List ℕ)) (phase : Bool) (old : Seats) → AreSeats f qs phase old → (k : EntityKey) (q : List ℕ) → payload_under k (ordered_after [] (keyed f qs)) ≡ Some q →
    Has (at_key k old) (entity_of q) (unwrap_or (parts_at k (parts_in old)) no_lists)
seats_hold f qs phase old are k q h = go (at_key k old) refl (sym (payload-at f qs k ∙ ap (option_map (λ j. get_or qs j [])) (sym (seat-place f qs phase old are k))) ∙ h)
  where
    go : (o : Option HeldSeat) → at_key k old ≡ o → option_map (λ j. get_or qs j []) (option_map (λ (s : HeldSeat). s.place) o) ≡ Some q → Has (at_key k old) (entity_of q) (unwrap_or (parts_at k (parts_in old)) no_lists)
    go None m e = cc
    go (Some s) m e = record {
      seat = s;
      is = m;
      value_is = (seat_is f qs phase old are k s m).value ∙ ap entity_of (some_same (get_or qs s.place []) q e);
      parts_are = sym (ap (λ o. unwrap_or o no_lists) (at-mapped (λ _ (x : HeldSeat). x.parts) old k ∙ ap (option_map (λ (x : HeldSeat). x.parts)) m));
    }

pub none_hold : (k : EntityKey) (q : List ℕ) → payload_under k [] ≡ Some q → Has (at_key k []) (entity_of q) (unwrap_or (parts_at k (parts_in [])) no_lists)
none_hold k q h = cc

module _ (f : ℕ) (ps : List (List ℕ)) (before : List Keyed) (old : Seats) (came : List Incoming)
    (holds : (k : EntityKey) (q : List ℕ) → payload_under k before ≡ Some q → Has (at_key k old) (entity_of q) (unwrap_or (parts_at k (parts_in old)) no_lists))
    (keys_are : map (λ c. c.key) came ≡ map (λ e. e.0) (filter (is_other before) (keyed f ps)))
    (values_are : Each (λ c. Some (entity_value c.entity) ≡ option_map entity_of (payload_under c.key (ordered_after [] (keyed f ps)))) came) where
  came_keys : map (λ e. e.0) (keyed_came came) ≡ map (λ e. e.0) (filter (is_other before) (keyed f ps))
  came_keys = go came ∙ keys_are
    where
      go : (cs : List Incoming) → map (λ (e : EntityKey × Incoming). e.0) (keyed_came cs) ≡ map (λ (c : Incoming). c.key) cs
      go [] = refl
      go (c ∷ cs) = ap (λ xs. c.key ∷ xs) (go cs)

  came_apart : AreApart (keyed_came came)
  came_apart = keys-apart (filter (is_other before) (keyed f ps)) (keyed_came came) (sym came_keys) (apart-filter (is_other before) (keyed f ps) (keyed_apart f ps))

  -- what comes in is at a key of the snapshot
  none_comes : (k : EntityKey) → at_key k (places f ps) ≡ None → at_key k (keyed_came came) ≡ None
  none_comes k h = none (at_key k (keyed_came came)) (keys-some (keyed_came came) (filter (is_other before) (keyed f ps)) k came_keys ∙ ap is_some (gone-filter (is_other before) (keyed f ps) k (at-keyed f ps k ∙ ap (option_map (λ i. get_or ps i [])) h)))
    where
      none : (o : Option Incoming) → is_some o ≡ false → o ≡ None
      none None e = refl
      none (Some c) e = cc

  comes : (k : EntityKey) (i : ℕ) → at_key k (places f ps) ≡ Some i → is_some (at_key k (keyed_came came)) ≡ is_other before (k, get_or ps i [])
  comes k i h = keys-some (keyed_came came) (filter (is_other before) (keyed f ps)) k came_keys ∙ at-filter (is_other before) (keyed f ps) k (get_or ps i []) (keyed_apart f ps) (at-keyed f ps k ∙ ap (option_map (λ j. get_or ps j [])) h)

  each_came : (P : Incoming → Type 0) (cs : List Incoming) → Each P cs → Each (λ e. P e.1) (keyed_came cs)
  each_came P [] h = tt
  each_came P (c ∷ cs) h = (h.0, each_came P cs h.1)

  module _ (k : EntityKey) (i : ℕ) (h : at_key k (places f ps) ≡ Some i) where
    value_there : (c : Incoming) → at_key k (keyed_came came) ≡ Some c → entity_value c.entity ≡ entity_of (get_or ps i [])
    value_there c m = some_same (entity_value c.entity) (entity_of (get_or ps i []))
        (each_at (λ (d : Incoming). Some (entity_value d.entity) ≡ option_map entity_of (payload_under d.key (ordered_after [] (keyed f ps)))) k (keyed_came came) c (each_came _ came values_are) m
        ∙ ap (λ q. option_map entity_of (payload_under q (ordered_after [] (keyed f ps)))) (come_key came k c m)
        ∙ ap (option_map entity_of) (payload-at f ps k ∙ ap (option_map (λ j. get_or ps j [])) h))

    not_other : at_key k (keyed_came came) ≡ None → Has (at_key k old) (entity_of (get_or ps i [])) (unwrap_or (parts_at k (parts_in old)) no_lists)
    not_other none = go (payload_under k before) refl (sym (comes k i h) ∙ ap is_some none)
      where
        go : (o : Option (List ℕ)) → payload_under k before ≡ o → not (is_payload (get_or ps i []) o) ≡ false → Has (at_key k old) (entity_of (get_or ps i [])) (unwrap_or (parts_at k (parts_in old)) no_lists)
        go None e n = cc
        go (Some q) e n =
            let same : get_or ps i [] ≡ q = (bytes_eq-Decides (get_or ps i []) q).0 (true_then (bytes_eq (get_or ps i []) q) n) in
            subst (λ x. Has (at_key k old) (entity_of x) (unwrap_or (parts_at k (parts_in old)) no_lists)) (sym same) (holds k q e)
          where
            true_then : (b : Bool) → not b ≡ false → b ≡ true
            true_then true m = refl
            true_then false m = cc

    parts_by : (o : Option Incoming) → at_key k (keyed_came came) ≡ o → parts_then came (parts_in old) k ≡ unwrap_or (option_or (option_map (λ (c : Incoming). c.parts) o) (parts_at k (parts_in old))) no_lists
    parts_by o m = ap (λ x. unwrap_or (option_or (option_map (λ (c : Incoming). c.parts) x) (parts_at k (parts_in old))) no_lists) (find-keyed came k ∙ m)

    -- under a key of the snapshot is what came in there, and else what was there
    pub put_has : (phase : Bool) → Has (put_all phase came (λ q. at_key q old) k) (entity_of (get_or ps i [])) (parts_then came (parts_in old) k)
    put_has phase = subst (λ o. Has o (entity_of (get_or ps i [])) (parts_then came (parts_in old) k)) (sym (put-found phase came (λ q. at_key q old) k came_apart)) (go (at_key k (keyed_came came)) refl)
      where
        value_come : (c : Incoming) (o : Option HeldSeat) → (come phase c o).value ≡ entity_value c.entity
        value_come c None = refl
        value_come c (Some s) = refl

        parts_come_in : (c : Incoming) (o : Option HeldSeat) → (come phase c o).parts ≡ c.parts
        parts_come_in c None = refl
        parts_come_in c (Some s) = refl

        go : (o : Option Incoming) → at_key k (keyed_came came) ≡ o → Has (put_found phase o (at_key k old)) (entity_of (get_or ps i [])) (parts_then came (parts_in old) k)
        go None m =
            let r = not_other m in
            record { seat = r.seat; is = r.is; value_is = r.value_is; parts_are = r.parts_are ∙ sym (parts_by None m) }
        go (Some c) m = record {
          seat = come phase c (at_key k old);
          is = refl;
          value_is = value_come c (at_key k old) ∙ value_there c m;
          parts_are = parts_come_in c (at_key k old) ∙ sym (parts_by (Some c) m);
        }

  pub put_none : (phase : Bool) (k : EntityKey) → at_key k (places f ps) ≡ None → put_all phase came (λ q. at_key q old) k ≡ at_key k old
  put_none phase k h = put-found phase came (λ q. at_key q old) k came_apart ∙ ap (λ o. put_found phase o (at_key k old)) (none_comes k h)

  -- where something was under a key, it keeps its place and its phase
  pub put_keeps : (phase : Bool) (k : EntityKey) (s t : HeldSeat) → at_key k old ≡ Some s → put_all phase came (λ q. at_key q old) k ≡ Some t → (t.place ≡ s.place) × (t.phase ≡ s.phase)
  put_keeps phase k s t h m = go (at_key k (keyed_came came)) (sym (ap (put_found phase (at_key k (keyed_came came))) h) ∙ sym (put-found phase came (λ q. at_key q old) k came_apart) ∙ m)
    where
      go : (o : Option Incoming) → put_found phase o (Some s) ≡ Some t → (t.place ≡ s.place) × (t.phase ≡ s.phase)
      go None e = let q = some_same s t e in (ap (λ x. x.place) (sym q), ap (λ x. x.phase) (sym q))
      go (Some c) e = let q = some_same (come phase c (Some s)) t e in (ap (λ x. x.place) (sym q), ap (λ x. x.phase) (sym q))

  -- ---- all seats
  abbrev pub taken : Bool → EntityKey → ℕ → HeldSeat
  taken phase k i = record { place = i; phase = phase; value = entity_of (get_or ps i []); parts = parts_then came (parts_in old) k }

  abbrev pub all_taken : Bool → Seats
  all_taken phase = map (λ e. (e.0, taken phase e.0 e.1)) (ordered_after [] (places f ps))

  pub at-taken : (phase : Bool) (k : EntityKey) → at_key k (all_taken phase) ≡ option_map (taken phase k) (at_key k (places f ps))
  at-taken phase k = at-mapped (taken phase) (ordered_after [] (places f ps)) k ∙ ap (option_map (taken phase k)) (at-places f ps k)

  pub taken_rise : (phase : Bool) → Rising (all_taken phase)
  taken_rise phase = rising-mapped (taken phase) (ordered_after [] (places f ps)) (rising_after [] (places f ps) tt)

  pub taken_are : (phase : Bool) → AreSeats f ps phase (all_taken phase)
  taken_are phase = record { places_are = back (ordered_after [] (places f ps)); seats_are = each (ordered_after [] (places f ps)) }
    where
      back : (es : List (EntityKey × ℕ)) → places_of (map (λ e. (e.0, taken phase e.0 e.1)) es) ≡ es
      back [] = refl
      back (e ∷ es) = ap (λ xs. e ∷ xs) (back es)

      each : (es : List (EntityKey × ℕ)) → Each (λ (e : EntityKey × HeldSeat). IsSeat ps phase e.1) (map {B = EntityKey × HeldSeat} (λ e. (e.0, taken phase e.0 e.1)) es)
      each [] = tt
      each (e ∷ es) = (record { value = refl; stays = refl }, each es)

  pub taken-parts : (phase : Bool) → parts_in (all_taken phase) ≡ map (λ e. (e.0, parts_then came (parts_in old) e.0)) (ordered_after [] (keyed f ps))
  taken-parts phase = go (ordered_after [] (places f ps)) ∙ ap (map {B = EntityKey × Lists} (λ (e : Keyed). (e.0, parts_then came (parts_in old) e.0))) (sym (entities-are f ps))
    where
      go : (es : List (EntityKey × ℕ)) → parts_in (map {B = EntityKey × HeldSeat} (λ e. (e.0, taken phase e.0 e.1)) es)
          ≡ map {B = EntityKey × Lists} (λ (e : Keyed). (e.0, parts_then came (parts_in old) e.0)) (map {B = Keyed} (λ e. (e.0, get_or ps e.1 [])) es)
      go [] = refl
      go (e ∷ es) = ap (λ xs. (let d : EntityKey × Lists = (e.0, parts_then came (parts_in old) e.0) in d) ∷ xs) (go es)

  seat_same : (s t : HeldSeat) → s.place ≡ t.place → s.phase ≡ t.phase → s.value ≡ t.value → s.parts ≡ t.parts → s ≡ t
  seat_same s t a b c d =
      ap (λ x. let r : HeldSeat = record { place = x; phase = s.phase; value = s.value; parts = s.parts } in r) a
      ∙ ap (λ x. let r : HeldSeat = record { place = t.place; phase = x; value = s.value; parts = s.parts } in r) b
      ∙ ap (λ x. let r : HeldSeat = record { place = t.place; phase = t.phase; value = x; parts = s.parts } in r) c
      ∙ ap (λ x. let r : HeldSeat = record { place = t.place; phase = t.phase; value = t.value; parts = x } in r) d

  -- put in, then each seated at its place: under each key of the snapshot all is as it should be
  seated_some : (phase other : Bool) (k : EntityKey) (i : ℕ) → at_key k (places f ps) ≡ Some i →
      seat_all phase (places f ps) (put_all other came (λ q. at_key q old)) k ≡ Some (taken phase k i)
  seated_some phase other k i h =
      let r = put_has k i h other in
      seat-found phase (places f ps) (put_all other came (λ q. at_key q old)) k (placed_apart f [] 0 ps)
      ∙ ap (λ o. seat_found phase o (put_all other came (λ q. at_key q old) k)) h ∙ ap (option_map (seated i phase)) r.is
      ∙ ap (λ s. Some s) (seat_same (seated i phase r.seat) (taken phase k i) refl refl r.value_is r.parts_are)

  seated_none : (phase other : Bool) (k : EntityKey) → at_key k (places f ps) ≡ None → seat_all phase (places f ps) (put_all other came (λ q. at_key q old)) k ≡ at_key k old
  seated_none phase other k h =
      seat-found phase (places f ps) (put_all other came (λ q. at_key q old)) k (placed_apart f [] 0 ps)
      ∙ ap (λ o. seat_found phase o (put_all other came (λ q. at_key q old) k)) h ∙ put_none other k h

  -- the first snapshot
  pub first_taken : (phase other : Bool) (new : Seats) → old ≡ [] → Rising new →
      ((k : EntityKey) → at_key k new ≡ seat_all phase (places f ps) (put_all other came (λ q. at_key q old)) k) → new ≡ all_taken phase
  first_taken phase other new none rise is = same_entries new (all_taken phase) rise (taken_rise phase) (λ k. is k ∙ each k (at_key k (places f ps)) refl ∙ sym (at-taken phase k))
    where
      each : (k : EntityKey) (o : Option ℕ) → at_key k (places f ps) ≡ o → seat_all phase (places f ps) (put_all other came (λ q. at_key q old)) k ≡ option_map (taken phase k) (at_key k (places f ps))
      each k None h = seated_none phase other k h ∙ ap (at_key k) none ∙ sym (ap (option_map (taken phase k)) h)
      each k (Some i) h = seated_some phase other k i h ∙ sym (ap (option_map (taken phase k)) h)

  -- one with other keys or places than those before it, whose seats are of the other phase
  pub other_taken : (phase : Bool) (new : Seats) → Each (λ e. e.1.phase ≡ not phase) old → Rising new →
      ((k : EntityKey) → at_key k new ≡ staying phase (seat_all phase (places f ps) (put_all (not phase) came (λ q. at_key q old)) k)) → new ≡ all_taken phase
  other_taken phase new gone rise is = same_entries new (all_taken phase) rise (taken_rise phase) (λ k. is k ∙ each k (at_key k (places f ps)) refl ∙ sym (at-taken phase k))
    where
      here : (b : Bool) → beq b b ≡ true
      here true = refl
      here false = refl

      apart : (b : Bool) → beq (not b) b ≡ false
      apart true = refl
      apart false = refl

      left : (k : EntityKey) (o : Option HeldSeat) → at_key k old ≡ o → staying phase o ≡ None
      left k None h = refl
      left k (Some s) h = ap (λ b. cond b (Some s) None) (ap (λ b. beq b phase) (each_at (λ (x : HeldSeat). x.phase ≡ not phase) k old s gone h) ∙ apart phase)

      each : (k : EntityKey) (o : Option ℕ) → at_key k (places f ps) ≡ o →
          staying phase (seat_all phase (places f ps) (put_all (not phase) came (λ q. at_key q old)) k) ≡ option_map (taken phase k) (at_key k (places f ps))
      each k None h = ap (staying phase) (seated_none phase (not phase) k h) ∙ left k (at_key k old) refl ∙ sym (ap (option_map (taken phase k)) h)
      each k (Some i) h = ap (staying phase) (seated_some phase (not phase) k i h) ∙ ap (λ b. cond b (Some (taken phase k i)) None) (here phase) ∙ sym (ap (option_map (taken phase k)) h)

  -- one with the same keys at the same places
  pub same_taken : (phase : Bool) (new : Seats) → ((k : EntityKey) → option_map (λ (s : HeldSeat). s.place) (at_key k old) ≡ at_key k (places f ps)) → Each (λ e. e.1.phase ≡ phase) old → Rising new →
      ((k : EntityKey) → at_key k new ≡ put_all phase came (λ q. at_key q old) k) → new ≡ all_taken phase
  same_taken phase new there stays rise is = same_entries new (all_taken phase) rise (taken_rise phase) (λ k. is k ∙ each k (at_key k (places f ps)) refl ∙ sym (at-taken phase k))
    where
      none : (o : Option HeldSeat) → option_map (λ (s : HeldSeat). s.place) o ≡ None → o ≡ None
      none None h = refl
      none (Some s) h = cc

      some : (k : EntityKey) (i : ℕ) → at_key k (places f ps) ≡ Some i → (o : Option HeldSeat) → at_key k old ≡ o → option_map (λ (s : HeldSeat). s.place) o ≡ Some i →
          put_all phase came (λ q. at_key q old) k ≡ Some (taken phase k i)
      some k i h None m e = cc
      some k i h (Some s) m e =
          let r = put_has k i h phase in
          let q = put_keeps phase k s r.seat m r.is in
          r.is ∙ ap (λ x. Some x) (seat_same r.seat (taken phase k i) (q.0 ∙ some_same s.place i e) (q.1 ∙ each_at (λ (x : HeldSeat). x.phase ≡ phase) k old s stays m) r.value_is r.parts_are)

      each : (k : EntityKey) (o : Option ℕ) → at_key k (places f ps) ≡ o → put_all phase came (λ q. at_key q old) k ≡ option_map (taken phase k) (at_key k (places f ps))
      each k None h = put_none phase k h ∙ none (at_key k old) (there k ∙ h) ∙ sym (ap (option_map (taken phase k)) h)
      each k (Some i) h = some k i h (at_key k old) refl (there k ∙ h) ∙ sym (ap (option_map (taken phase k)) h)
