-- Pairing rows in order, and where two lists of them answer alike.
use Rattle.std.specs.Prelude.{◌≡◌, ℕ, ◌<◌, ◌==◌, ◌&&◌, ◌||◌, not, Bool, true, false, cond, List, [], ◌∷◌, ◌++◌, filter, Option, Some, None, option_map, option_and_then, is_some, refl}
use Rattle.std.specs.List.{list_any, find}
use Rattle.std.specs.declared.cmp.Ordering.TheVariants.{Less, Greater}
use Rattle.std.specs.Ordering.{nat_cmp, ordering_then, ordering_reverse}
use Rattle.std.specs.Cmp.{IsTotalOrder}
use Rattle.std.specs.Cmp.Lexicographic.{slice_cmp}
use Rattle.std.proofs.Common.{sym, ◌∙◌, ap, subst}
use Rattle.std.proofs.lemmas.Cmp.{on_total, then_total}
use Rattle.std.proofs.lemmas.Bool.{and_parts, or_parts, or_left, or_right}
use Rattle.feed_values.specs.Schema.{Value}
use Rattle.feed_values.specs.Messages.{trip_update, vehicle_position}
use Rattle.feed_values.specs.Snapshot.{entity_of}
use Rattle.rule_table.specs.declared.kind.Kind.{Kind}
use Rattle.rule_table.specs.declared.kind.Kind.TheVariants as kind
use Rattle.rule_table.specs.declared.key.EntityKey.{EntityKey}
use Rattle.rule_table.specs.Kinds.{kind_cmp, kinds_total}
use Rattle.rule_table.specs.Order.{key_cmp}
use Rattle.rule_table.specs.Judged.{update_of}
use Rattle.rule_table.specs.Groups.{Each}
use Rattle.rule_table.specs.GroupLaws.{each_append, each_weaken}
use Rattle.rule_table.specs.Pairs.{PairRow, rows_of, update_rows, vehicle_rows, vehicle_of, is_id, is_of, has_pair, shares_id, shares, same_row, has_row}
use Rattle.rule_table.specs.PairAgree.{AgreeOnTrip, AgreeOnVehicle, AgreeOnRow}
use Rattle.rule_table.proofs.SameTests.{row_is}
use Rattle.rule_history.specs.History.{Snapshot, Keyed, now, entities_in, entities_of_snapshot, below, feed_limit}
use Rattle.rule_history.specs.Answered.{rows, rows_in}
use Rattle.rule_history.specs.Changed.{rows_without, changed_rows}
use Rattle.engine_laws.specs.Order.{Rises}
use Rattle.engine_laws.specs.HeldFeeds.{IsLastOf}
use Rattle.engine_laws.proofs.Ascending.{nat_less}
use Rattle.engine_laws.proofs.Lists.{rises_parts, rises_below}
use Rattle.engine_laws.proofs.Next.{last_now}
use Rattle.engine_laws.proofs.Sorted.{Rising, keys_total, key_cmp_self, entities_rise, entities_feed}
use Rattle.engine_laws.proofs.Spots.{is_false}
use Rattle.engine_laws.specs.Rows.{row_cmp}

rows_total : IsTotalOrder row_cmp
rows_total = then_total (on_total (λ r. r.key) keys_total) (on_total (λ r. r.kind) kinds_total)

-- ---- rows after a history are in order
key_less : (a b : PairRow) → key_cmp a.key b.key ≡ Less → row_cmp a b ≡ Less
key_less a b h = ap (λ o. ordering_then o (kind_cmp a.kind b.kind)) h

entity_rows : (key : EntityKey) (o : Option (Value trip_update)) (p : Option (Value vehicle_position)) →
    Rises row_cmp (update_rows key o ++ vehicle_rows key p) × Each (λ r. r.key ≡ key) (update_rows key o ++ vehicle_rows key p)
entity_rows key None None = (tt, tt)
entity_rows key None (Some v) = ((tt, tt), (refl, tt))
entity_rows key (Some u) None = ((tt, tt), (refl, tt))
entity_rows key (Some u) (Some v) = (((ap (λ o. ordering_then o (kind_cmp kind.TripUpdate kind.Vehicle)) (key_cmp_self key), tt), (tt, tt)), (refl, (refl, tt)))

rows_over : (k : EntityKey) (es : List Keyed) → Each (λ d. key_cmp k d.0 ≡ Less) es → Each (λ r. key_cmp k r.key ≡ Less) (rows_in es)
rows_over k [] h = tt
rows_over k (e ∷ es) h =
    each_append (λ r. key_cmp k r.key ≡ Less) (rows_of e.0 (entity_of e.1)) (rows_in es)
    (each_weaken (λ r. r.key ≡ e.0) (λ r. key_cmp k r.key ≡ Less) (λ r q. ap (key_cmp k) q ∙ h.0) (rows_of e.0 (entity_of e.1)) (entity_rows e.0 (update_of (entity_of e.1)) (vehicle_of (entity_of e.1))).1)
    (rows_over k es h.1)

rows_rise_in : (es : List Keyed) → Rising es → Rises row_cmp (rows_in es)
rows_rise_in [] h = tt
rows_rise_in (e ∷ es) h =
    let own = entity_rows e.0 (update_of (entity_of e.1)) (vehicle_of (entity_of e.1)) in
    rises_parts row_cmp (λ r. r.key ≡ e.0) (λ r. key_cmp e.0 r.key ≡ Less) (λ a b p q. key_less a b (ap (λ k. key_cmp k b.key) p ∙ q))
    (rows_of e.0 (entity_of e.1)) (rows_in es) own.1 (rows_over e.0 es h.0) own.0 (rows_rise_in es h.1)

rows_at : (f : ℕ) (es : List Keyed) → Each (λ e. e.0.feed ≡ f) es → Each (λ r. r.key.feed ≡ f) (rows_in es)
rows_at f [] h = tt
rows_at f (e ∷ es) h =
    each_append (λ r. r.key.feed ≡ f) (rows_of e.0 (entity_of e.1)) (rows_in es)
    (each_weaken (λ r. r.key ≡ e.0) (λ r. r.key.feed ≡ f) (λ r q. ap (λ k. k.feed) q ∙ h.0) (rows_of e.0 (entity_of e.1)) (entity_rows e.0 (update_of (entity_of e.1)) (vehicle_of (entity_of e.1))).1)
    (rows_at f es h.1)

feed_rows : (f : ℕ) (n : Option Snapshot) → IsLastOf f n → Rises row_cmp (rows_in (entities_of_snapshot n)) × Each (λ r. r.key.feed ≡ f) (rows_in (entities_of_snapshot n))
feed_rows f None l = (tt, tt)
feed_rows f (Some s) l = (rows_rise_in (entities_in s.feed s.bytes) (entities_rise s.feed s.bytes), rows_at f (entities_in s.feed s.bytes) (subst (λ g. Each (λ e. e.0.feed ≡ g) (entities_in s.feed s.bytes)) l (entities_feed s.feed s.bytes)))

-- the rows of all feeds, by the last snapshot of each
pub rows_rising : (last : ℕ → Option Snapshot) → ((f : ℕ) → IsLastOf f (last f)) → Rises row_cmp (below (λ f. rows_in (entities_of_snapshot (last f))) feed_limit)
rows_rising last of =
    (rises_below row_cmp (λ r. r.key.feed) feed_less (λ f. rows_in (entities_of_snapshot (last f))) (λ f. (feed_rows f (last f) (of f)).0) (λ f. (feed_rows f (last f) (of f)).1) feed_limit).0
  where
    feed_less : (a b : PairRow) → a.key.feed < b.key.feed → row_cmp a b ≡ Less
    feed_less a b l = key_less a b (ap (λ o. ordering_then o (ordering_then (slice_cmp nat_cmp a.key.id b.key.id) (nat_cmp a.key.occurrence b.key.occurrence))) (nat_less a.key.feed b.key.feed l))

pub rows_rise : (h : List Snapshot) → Rises row_cmp (rows h)
rows_rise h = rows_rising (now h) (last_now h)

-- ---- lists in order with the same rows are one
after_all : (y x : PairRow) (b : List PairRow) → Each (λ z. row_cmp y z ≡ Less) b → has_row b x ≡ true → row_cmp y x ≡ Less
after_all y x [] all h = cc
after_all y x (z ∷ b) all h =
    elim (same_row x z) as (λ c. same_row x z ≡ c → (c || has_row b x) ≡ true → row_cmp y x ≡ Less) [
      | true ↦ λ e _. ap (row_cmp y) (row_is x z e) ∙ all.0
      | false ↦ λ _ k. after_all y x b all.1 k
    ] refl h

never_both : (x y : PairRow) → row_cmp x y ≡ Less → row_cmp y x ≡ Less → ⊥
never_both x y a b = let c : row_cmp x y ≡ Greater = rows_total.antisymm x y ∙ ap ordering_reverse b in cc (a, c)

rows_equal : (a b : List PairRow) → Rises row_cmp a → Rises row_cmp b → Each (λ x. has_row b x ≡ true) a → Each (λ y. has_row a y ≡ true) b → a ≡ b
rows_equal [] [] ra rb ab ba = refl
rows_equal [] (y ∷ b) ra rb ab ba = cc
rows_equal (x ∷ a) [] ra rb ab ba = cc
rows_equal (x ∷ a) (y ∷ b) ra rb ab ba = cons2 first (rows_equal a b ra.1 rb.1 (inside x y a b first ra.0 ab.1) (inside y x b a (sym first) rb.0 ba.1))
  where
    cons2 : {p q : PairRow} {ps qs : List PairRow} → p ≡ q → ps ≡ qs → p ∷ ps ≡ q ∷ qs
    cons2 h k = cc

    inside : (x y : PairRow) (a b : List PairRow) → x ≡ y → Each (λ z. row_cmp x z ≡ Less) a → Each (λ z. has_row (y ∷ b) z ≡ true) a → Each (λ z. has_row b z ≡ true) a
    inside x y [] b e up all = tt
    inside x y (z ∷ a) b e up all = (one, inside x y a b e up.1 all.1)
      where
        one : has_row b z ≡ true
        one =
            elim (same_row z y) as (λ c. same_row z y ≡ c → (c || has_row b z) ≡ true → has_row b z ≡ true) [
              | true ↦ λ s _. let w : row_cmp x x ≡ Less = ap (row_cmp x) (e ∙ sym (row_is z y s)) ∙ up.0 in absurd (never_both x x w w)
              | false ↦ λ _ k. k
            ] refl all.0

    first : x ≡ y
    first =
        elim (same_row x y) as (λ c. same_row x y ≡ c → (c || has_row b x) ≡ true → x ≡ y) [
          | true ↦ λ e _. row_is x y e
          | false ↦ λ _ k.
              elim (same_row y x) as (λ c. same_row y x ≡ c → (c || has_row a y) ≡ true → x ≡ y) [
                | true ↦ λ e _. sym (row_is y x e)
                | false ↦ λ _ m. absurd (never_both y x (after_all y x b rb.0 k) (after_all x y a ra.0 m))
              ] refl ba.0
        ] refl ab.0

-- ---- where no row that a test is true of came or went
each_filtered : (P : PairRow → Type 0) (test : PairRow → Bool) (xs : List PairRow) → Each P xs → Each P (filter test xs)
each_filtered P test [] h = tt
each_filtered P test (x ∷ xs) h =
    elim (test x) as (λ b. Each P (cond b (x ∷ filter test xs) (filter test xs))) [ true ↦ (h.0, each_filtered P test xs h.1) | false ↦ each_filtered P test xs h.1 ]

filter_rises : (test : PairRow → Bool) (xs : List PairRow) → Rises row_cmp xs → Rises row_cmp (filter test xs)
filter_rises test [] h = tt
filter_rises test (x ∷ xs) h =
    elim (test x) as (λ b. Rises row_cmp (cond b (x ∷ filter test xs) (filter test xs))) [
      | true ↦ (each_filtered (λ y. row_cmp x y ≡ Less) test xs h.0, filter_rises test xs h.1)
      | false ↦ filter_rises test xs h.1
    ]

in_filter : (test : PairRow → Bool) (x : PairRow) → test x ≡ true → (v : List PairRow) → has_row v x ≡ true → has_row (filter test v) x ≡ true
in_filter test x t [] h = cc
in_filter test x t (z ∷ v) h =
    elim (same_row x z) as (λ b. same_row x z ≡ b → (b || has_row v x) ≡ true → has_row (cond (test z) (z ∷ filter test v) (filter test v)) x ≡ true) [
      | true ↦ λ e _.
          let q : test z ≡ true = ap test (sym (row_is x z e)) ∙ t in
          ap (λ b. has_row (cond b (z ∷ filter test v) (filter test v)) x) q ∙ or_left (same_row x z) (has_row (filter test v) x) e
      | false ↦ λ _ k. elim (test z) as (λ b. has_row (cond b (z ∷ filter test v) (filter test v)) x ≡ true) [
        | true ↦ or_right (same_row x z) (has_row (filter test v) x) (in_filter test x t v k)
        | false ↦ in_filter test x t v k
      ]
    ] refl h

each_there : (test : PairRow → Bool) (v u : List PairRow) → list_any test (rows_without u v) ≡ false → Each (λ x. has_row (filter test v) x ≡ true) (filter test u)
each_there test v [] h = tt
each_there test v (x ∷ u) h =
    elim (has_row v x) as (λ b. has_row v x ≡ b → list_any test (cond (not b) (x ∷ rows_without u v) (rows_without u v)) ≡ false → Each (λ x. has_row (filter test v) x ≡ true) (cond (test x) (x ∷ filter test u) (filter test u))) [
      | true ↦ λ there none.
          elim (test x) as (λ b. test x ≡ b → Each (λ x. has_row (filter test v) x ≡ true) (cond b (x ∷ filter test u) (filter test u))) [
            | true ↦ λ t. (in_filter test x t v there, each_there test v u none)
            | false ↦ λ _. each_there test v u none
          ] refl
      | false ↦ λ _ none.
          let p = or_parts (test x) (list_any test (rows_without u v)) none in
          subst (λ b. Each (λ x. has_row (filter test v) x ≡ true) (cond b (x ∷ filter test u) (filter test u))) (sym p.0) (each_there test v u p.1)
    ] refl h

any_parts : (test : PairRow → Bool) (u v : List PairRow) → list_any test (u ++ v) ≡ false → (list_any test u ≡ false) × (list_any test v ≡ false)
any_parts test [] v h = (refl, h)
any_parts test (x ∷ u) v h =
    let p = or_parts (test x) (list_any test (u ++ v)) h in
    let q = any_parts test u v p.1 in
    (ap (λ b. b || list_any test u) p.0 ∙ q.0, q.1)

-- the rows that the test is true of are one list
pub same_filters : (u v : List PairRow) → Rises row_cmp u → Rises row_cmp v → (test : PairRow → Bool) → list_any test (changed_rows u v) ≡ false → filter test u ≡ filter test v
same_filters u v ru rv test none =
    let p = any_parts test (rows_without v u) (rows_without u v) none in
    rows_equal (filter test u) (filter test v) (filter_rises test u ru) (filter_rises test v rv) (each_there test v u p.1) (each_there test u v p.0)

-- ---- answers
find-filter : (p test : PairRow → Bool) → ((r : PairRow) → p r ≡ true → test r ≡ true) → (u : List PairRow) → find p (filter test u) ≡ find p u
find-filter p test w [] = refl
find-filter p test w (x ∷ u) =
    elim (test x) as (λ b. test x ≡ b → find p (cond b (x ∷ filter test u) (filter test u)) ≡ find p (x ∷ u)) [
      | true ↦ λ _. ap (λ o. cond (p x) (Some x) o) (find-filter p test w u)
      | false ↦ λ t. find-filter p test w u ∙ ap (λ b. cond b (Some x) (find p u)) (sym (not_found t))
    ] refl
  where
    not_found : test x ≡ false → p x ≡ false
    not_found t = is_false (p x) (λ e. let s : test x ≡ true = w x e in cc (s, t))

any-filter : (p test : PairRow → Bool) → ((r : PairRow) → p r ≡ true → test r ≡ true) → (u : List PairRow) → list_any p (filter test u) ≡ list_any p u
any-filter p test w [] = refl
any-filter p test w (x ∷ u) =
    elim (test x) as (λ b. test x ≡ b → list_any p (cond b (x ∷ filter test u) (filter test u)) ≡ list_any p (x ∷ u)) [
      | true ↦ λ _. ap (λ o. p x || o) (any-filter p test w u)
      | false ↦ λ t. any-filter p test w u ∙ ap (λ b. b || list_any p u) (sym (not_found t))
    ] refl
  where
    not_found : test x ≡ false → p x ≡ false
    not_found t = is_false (p x) (λ e. let s : test x ≡ true = w x e in cc (s, t))

module _ (u v : List PairRow) (ru : Rises row_cmp u) (rv : Rises row_cmp v) where
  same_any : (p test : PairRow → Bool) → ((r : PairRow) → p r ≡ true → test r ≡ true) → list_any test (changed_rows u v) ≡ false → list_any p u ≡ list_any p v
  same_any p test w none = sym (any-filter p test w u) ∙ ap (list_any p) (same_filters u v ru rv test none) ∙ any-filter p test w v

  same_find : (p test : PairRow → Bool) → ((r : PairRow) → p r ≡ true → test r ≡ true) → list_any test (changed_rows u v) ≡ false → find p u ≡ find p v
  same_find p test w none = sym (find-filter p test w u) ∙ ap (find p) (same_filters u v ru rv test none) ∙ find-filter p test w v

  agree_trip : (trip : List ℕ) → list_any (λ c. is_id trip c.trip) (changed_rows u v) ≡ false → AgreeOnTrip u v trip
  agree_trip trip none = record {
    has = λ k. same_any (λ r. is_of k r && is_id trip r.trip) (λ c. is_id trip c.trip) (λ r h. (and_parts (is_of k r) (is_id trip r.trip) h).1) none;
    first = λ k. ap (option_and_then (λ r. r.vehicle))
        (same_find (λ r. is_of k r && is_id trip r.trip && is_some r.vehicle) (λ c. is_id trip c.trip)
        (λ r h. (and_parts (is_of k r) (is_id trip r.trip) (and_parts (is_of k r && is_id trip r.trip) (is_some r.vehicle) h).0).1) none);
  }

  agree_vehicle : (feed : ℕ) (vehicle : List ℕ) → list_any (λ c. is_id vehicle c.vehicle) (changed_rows u v) ≡ false → AgreeOnVehicle u v feed vehicle
  agree_vehicle feed vehicle none = record {
    has = λ k. same_any (λ r. is_of k r && is_id vehicle r.vehicle) (λ c. is_id vehicle c.vehicle) (λ r h. (and_parts (is_of k r) (is_id vehicle r.vehicle) h).1) none;
    first = ap (option_map (λ r. r.key))
        (same_find (λ r. is_of kind.Vehicle r && (r.key.feed == feed) && is_id vehicle r.vehicle) (λ c. is_id vehicle c.vehicle)
        (λ r h. (and_parts (is_of kind.Vehicle r && (r.key.feed == feed)) (is_id vehicle r.vehicle) h).1) none);
  }

  agree_pair : (trip vehicle : List ℕ) → list_any (λ c. is_id trip c.trip) (changed_rows u v) ≡ false → (k : Kind) → has_pair u k trip vehicle ≡ has_pair v k trip vehicle
  agree_pair trip vehicle none k =
      same_any (λ r. is_of k r && is_id trip r.trip && is_id vehicle r.vehicle) (λ c. is_id trip c.trip)
      (λ r h. (and_parts (is_of k r) (is_id trip r.trip) (and_parts (is_of k r && is_id trip r.trip) (is_id vehicle r.vehicle) h).0).1) none

-- what no changed row passes, none passes that passes less
fewer : (p q : PairRow → Bool) → ((r : PairRow) → q r ≡ true → p r ≡ true) → (u : List PairRow) → list_any p u ≡ false → list_any q u ≡ false
fewer p q w [] h = refl
fewer p q w (x ∷ u) h =
    let k = or_parts (p x) (list_any p u) h in
    ap (λ b. b || list_any q u) (is_false (q x) (λ e. let m : p x ≡ true = w x e in let n : p x ≡ false = k.0 in cc (m, n))) ∙ fewer p q w u k.1

-- a row that shares no id with rows that came or went
pub row_agrees : (u v : List PairRow) → Rises row_cmp u → Rises row_cmp v → (r : PairRow) → list_any (shares r) (changed_rows u v) ≡ false → (f : ℕ) → AgreeOnRow u v f r
row_agrees u v ru rv r none f = record {
  trip = λ trip e. agree_trip u v ru rv trip (no_trip trip e);
  vehicle = λ vehicle e. agree_vehicle u v ru rv f vehicle (no_vehicle vehicle e);
  pair = λ trip vehicle e m k. agree_pair u v ru rv trip vehicle (no_trip trip e) k;
}
  where
    no_trip : (trip : List ℕ) → r.trip ≡ Some trip → list_any (λ c. is_id trip c.trip) (changed_rows u v) ≡ false
    no_trip trip e = fewer (shares r) (λ c. is_id trip c.trip) (λ c t. or_left (shares_id r.trip c.trip) (shares_id r.vehicle c.vehicle) (ap (λ o. shares_id o c.trip) e ∙ t)) (changed_rows u v) none

    no_vehicle : (vehicle : List ℕ) → r.vehicle ≡ Some vehicle → list_any (λ c. is_id vehicle c.vehicle) (changed_rows u v) ≡ false
    no_vehicle vehicle e =
        fewer (shares r) (λ c. is_id vehicle c.vehicle) (λ c t. or_right (shares_id r.trip c.trip) (shares_id r.vehicle c.vehicle) (ap (λ o. shares_id o c.vehicle) e ∙ t)) (changed_rows u v) none

pub rows_agree : (g h : List Snapshot) (r : PairRow) → list_any (shares r) (changed_rows (rows g) (rows h)) ≡ false → (f : ℕ) → AgreeOnRow (rows g) (rows h) f r
rows_agree g h = row_agrees (rows g) (rows h) (rows_rise g) (rows_rise h)
