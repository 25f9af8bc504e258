-- Timestamps above a bound.
use Rattle.std.specs.Prelude.{◌≡◌, ◌↔◌, ℕ, ◌==◌, nat_lt, ℤ, pos, negsuc, Bool, true, false, ◌&&◌, ◌||◌, T, List, [], ◌∷◌, Option, Some, None, refl}
use Rattle.std.specs.List.{list_any}
use Rattle.std.proofs.Common.{inl, inr, sym, ap, ◌∙◌, subst, eq-eqb}
use borrow.Author.Tests.{eqb-true}
use Rattle.engine_laws.proofs.Spots.{is_false}
use Rattle.std.proofs.lemmas.Bool.{and_parts, and_from, or_parts, or_cases, or_right, or_left}
use Rattle.feed_values.specs.declared.slot.Slot.{Slot}
use Rattle.feed_values.specs.declared.slot.Slot.TheVariants.{S29, S59}
use Rattle.feed_values.specs.Schema.{Value}
use Rattle.feed_values.specs.Messages.{entity}
use Rattle.feed_values.specs.Cells.{entity_cell, number_cell}
use Rattle.rule_table.specs.Order.{same_key}
use Rattle.rule_table.specs.Bounds.{IsAbove, is_timestamp}
use Rattle.rule_table.proofs.SameKeys.{key_is, key_self}
use Rattle.rule_table.proofs.SameTests.{same-truth}
use Rattle.history_rules.specs.Stamps.{Stamp, stamp_of, same_stamp, holds, is_above}
use Rattle.row_changes.specs.Given.{update_time, vehicle_time, is_time, gives_time}
use Rattle.row_changes.specs.Touched.{is_over, is_later, gives_later}
use Rattle.row_changes.specs.Held.{OverKeysAre, NoneIsLater}

-- ---- stamps
stamp_is : (a b : Stamp) → same_stamp a b ≡ true → a ≡ b
stamp_is a b h =
    let p = and_parts (a.at.feed == b.at.feed && a.at.stamp == b.at.stamp) (same_key a.key b.key) h in
    let q = and_parts (a.at.feed == b.at.feed) (a.at.stamp == b.at.stamp) p.0 in
    make (eqb-true a.at.feed b.at.feed q.0) (eqb-true a.at.stamp b.at.stamp q.1) (key_is a.key b.key p.1)
  where
    make : a.at.feed ≡ b.at.feed → a.at.stamp ≡ b.at.stamp → a.key ≡ b.key → a ≡ b
    make f s k =
        ap (λ x. let z : Stamp = record { at = record { feed = x; stamp = a.at.stamp }; key = a.key } in z) f ∙ ap (λ x. let z : Stamp = record { at = record { feed = b.at.feed; stamp = x }; key = a.key } in z) s
        ∙ ap (λ x. let z : Stamp = record { at = b.at; key = x } in z) k

stamp_self : (s : Stamp) → same_stamp s s ≡ true
stamp_self s =
    and_from (s.at.feed == s.at.feed && s.at.stamp == s.at.stamp) (same_key s.key s.key) (and_from (s.at.feed == s.at.feed) (s.at.stamp == s.at.stamp) (eq-eqb s.at.feed s.at.feed refl) (eq-eqb s.at.stamp s.at.stamp refl)) (key_self s.key)

found : (p : Stamp → Bool) (xs : List Stamp) (s : Stamp) → p s ≡ true → holds xs s ≡ true → list_any p xs ≡ true
found p [] s t h = cc
found p (x ∷ xs) s t h =
    elim (same_stamp s x) as (λ b. same_stamp s x ≡ b → (b || holds xs s) ≡ true → list_any p (x ∷ xs) ≡ true) [
      | true ↦ λ e _. or_left (p x) (list_any p xs) (ap p (sym (stamp_is s x e)) ∙ t)
      | false ↦ λ _ k. or_right (p x) (list_any p xs) (found p xs s t k)
    ] refl h

record HasStamp (p : Stamp → Bool) (xs : List Stamp) : Type 0 where
  pub stamp : Stamp
  pub passes : p stamp ≡ true
  pub held : holds xs stamp ≡ true

some : (p : Stamp → Bool) (xs : List Stamp) → list_any p xs ≡ true → HasStamp p xs
some p [] h = cc
some p (x ∷ xs) h =
    elim (p x) as (λ b. p x ≡ b → (b || list_any p xs) ≡ true → HasStamp p (x ∷ xs)) [
      | true ↦ λ e _. record { stamp = x; passes = e; held = or_left (same_stamp x x) (holds xs x) (stamp_self x) }
      | false ↦ λ _ k. let s = some p xs k in record { stamp = s.stamp; passes = s.passes; held = or_right (same_stamp s.stamp x) (holds xs s.stamp) s.held }
    ] refl h

-- ---- timestamps

later-time : (bound n : ℕ) (t : Option ℤ) → is_time n t ≡ true → nat_lt bound n ≡ true → is_later bound t ≡ true
later-time bound n None h l = cc
later-time bound n (Some (pos m)) h l = ap (nat_lt bound) (eqb-true m n h) ∙ l
later-time bound n (Some (negsuc m)) h l = cc

gives-later : (bound n : ℕ) (o : Option (Value entity)) → gives_time o n ≡ true → nat_lt bound n ≡ true → gives_later bound o ≡ true
gives-later bound n None h l = cc
gives-later bound n (Some e) h l =
    elim (or_cases (is_time n (update_time e)) (is_time n (vehicle_time e)) h) [
      | inl u ↦ or_left (is_later bound (update_time e)) (is_later bound (vehicle_time e)) (later-time bound n (update_time e) u l)
      | inr v ↦ or_right (is_later bound (update_time e)) (is_later bound (vehicle_time e)) (later-time bound n (vehicle_time e) v l)
    ]

record IsLaterTime (bound : ℕ) (o : Option (Value entity)) : Type 0 where
  pub time : ℕ
  pub given : gives_time o time ≡ true
  pub later : nat_lt bound time ≡ true

record IsLater (bound : ℕ) (t : Option ℤ) : Type 0 where
  pub time : ℕ
  pub given : is_time time t ≡ true
  pub later : nat_lt bound time ≡ true

time-later : (bound : ℕ) (t : Option ℤ) → is_later bound t ≡ true → IsLater bound t
time-later bound None h = cc
time-later bound (Some (pos n)) h = record { time = n; given = eq-eqb n n refl; later = h }
time-later bound (Some (negsuc n)) h = cc

entity-later : (bound : ℕ) (o : Option (Value entity)) → gives_later bound o ≡ true → IsLaterTime bound o
entity-later bound None h = cc
entity-later bound (Some e) h =
    elim (or_cases (is_later bound (update_time e)) (is_later bound (vehicle_time e)) h) [
      | inl u ↦ let t = time-later bound (update_time e) u in record { time = t.time; given = or_left (is_time t.time (update_time e)) (is_time t.time (vehicle_time e)) t.given; later = t.later }
      | inr v ↦ let t = time-later bound (vehicle_time e) v in record { time = t.time; given = or_right (is_time t.time (update_time e)) (is_time t.time (vehicle_time e)) t.given; later = t.later }
    ]

pub over : OverKeysAre
over at held h feed bound key = same-truth _ _ there back
  where
    there : is_over feed bound held.stamps key ≡ true → (key.feed == feed && gives_later bound (at key)) ≡ true
    there t =
        let s = some (λ s. is_above feed bound s && same_key key s.key) held.stamps t in
        let x = s.stamp in
        let p = and_parts (is_above feed bound x) (same_key key x.key) s.passes in
        let a = and_parts (x.at.feed == feed) (nat_lt bound x.at.stamp) p.0 in
        let k : key ≡ x.key = key_is key x.key p.1 in
        let g = and_parts (x.at.feed == x.key.feed) (gives_time (at x.key) x.at.stamp) (sym (h.stamps_are x) ∙ s.held) in
        and_from (key.feed == feed) (gives_later bound (at key)) (ap (λ y. y.feed == feed) k ∙ ap (λ n. n == feed) (sym (eqb-true x.at.feed x.key.feed g.0)) ∙ a.0)
        (ap (λ y. gives_later bound (at y)) k ∙ gives-later bound x.at.stamp (at x.key) g.1 a.1)

    back : (key.feed == feed && gives_later bound (at key)) ≡ true → is_over feed bound held.stamps key ≡ true
    back t =
        let p = and_parts (key.feed == feed) (gives_later bound (at key)) t in
        let l = entity-later bound (at key) p.1 in
        let x : Stamp = stamp_of key.feed l.time key in
        found (λ s. is_above feed bound s && same_key key s.key) held.stamps x (and_from (is_above feed bound x) (same_key key key) (and_from (key.feed == feed) (nat_lt bound l.time) p.0 l.later) (key_self key))
        (h.stamps_are x ∙ and_from (key.feed == key.feed) (gives_time (at key) l.time) (eq-eqb key.feed key.feed refl) l.given)

-- ---- slot by slot
to_true : (b : Bool) → b ≡ true → T b
to_true true h = tt
to_true false h = cc

is_true : (b : Bool) → T b → b ≡ true
is_true true h = refl
is_true false h = absurd h

above_cell : (bound : ℕ) (t : Option ℤ) → (is_later bound t ≡ true) ↔ IsAbove (number_cell t) (Some (pos bound))
above_cell bound None = (λ h. cc, λ h. absurd h)
above_cell bound (Some (pos n)) = (λ h. record { lt = to_true _ h }, λ r. is_true _ r.lt)
above_cell bound (Some (negsuc n)) = (λ h. cc, λ r. absurd r.lt)

update_cell : (e : Value entity) → entity_cell e S29 0 ≡ number_cell (update_time e)
update_cell (id, (deleted, (None, rest))) = refl
update_cell (id, (deleted, (Some u, rest))) = refl

vehicle_cell : (e : Value entity) → entity_cell e S59 0 ≡ number_cell (vehicle_time e)
vehicle_cell (id, (deleted, (u, (None, rest)))) = refl
vehicle_cell (id, (deleted, (u, (Some v, rest)))) = refl

module _ (bound : ℕ) (e : Value entity) where
  abbrev IsLate : Slot → Type 0
  IsLate slot = IsAbove (entity_cell e slot 0) (Some (pos bound))

  update_late : IsLate S29 → is_later bound (update_time e) ≡ true
  update_late a = (above_cell bound (update_time e)).1 (subst (λ c. IsAbove c (Some (pos bound))) (update_cell e) a)

  vehicle_late : IsLate S59 → is_later bound (vehicle_time e) ≡ true
  vehicle_late a = (above_cell bound (vehicle_time e)).1 (subst (λ c. IsAbove c (Some (pos bound))) (vehicle_cell e) a)

  no_slot : gives_later bound (Some e) ≡ false → (slot : Slot) → is_timestamp slot ≡ true → IsLate slot → ⊥
  no_slot h S29 is a = let t = update_late a in let f = or_parts (is_later bound (update_time e)) (is_later bound (vehicle_time e)) h in cc (t, f.0)
  no_slot h S59 is a = let t = vehicle_late a in let f = or_parts (is_later bound (update_time e)) (is_later bound (vehicle_time e)) h in cc (t, f.1)
  no_slot h _ is a = cc

  no_time : ((slot : Slot) → is_timestamp slot ≡ true → IsLate slot → ⊥) → gives_later bound (Some e) ≡ true → ⊥
  no_time none h =
      elim (or_cases (is_later bound (update_time e)) (is_later bound (vehicle_time e)) h) [
        | inl u ↦ none S29 refl (subst (λ c. IsAbove c (Some (pos bound))) (sym (update_cell e)) ((above_cell bound (update_time e)).0 u))
        | inr v ↦ none S59 refl (subst (λ c. IsAbove c (Some (pos bound))) (sym (vehicle_cell e)) ((above_cell bound (vehicle_time e)).0 v))
      ]

pub none_later : NoneIsLater
none_later bound e = (no_slot bound e, λ none. is_false (gives_later bound (Some e)) (no_time bound e none))
