-- The keys of rows that share an id.
use Rattle.std.proofs.Common.{◌≡◌, ◌==◌, ◌+◌, ◌&&◌, ◌||◌, not, ℕ, Bool, true, false, cond, List, [], ◌∷◌, Option, Some, None, refl, sym, ◌∙◌, ap, arith}
use Rattle.std.specs.Prelude.{map}
use Rattle.std.proofs.lemmas.Bool.Decides.{nat_tests}
use Rattle.std.specs.Ordering.{nat_cmp, is_eq, is_le, eq_by_cmp}
use Rattle.std.specs.Cmp.{eq_by_cmp_equiv}
use Rattle.std.specs.List.{filter, list_any}
use Rattle.std.specs.BTreeMap.{is_at}
use Rattle.std.specs.BTreeMap.Range.{range_contains}
use Rattle.std.specs.declared.ops.Bound.TheVariants.{Included, Excluded}
use Rattle.std.specs.BTreeSet.{BTreeSet}
use Rattle.rule_table.specs.declared.key.EntityKey.{EntityKey}
use Rattle.rule_table.specs.declared.kind.Kind.{Kind}
use Rattle.rule_table.specs.declared.kind.Kind.TheVariants.{TripUpdate, Vehicle}
use Rattle.rule_table.specs.Kinds.{same_kind}
use Rattle.rule_table.specs.Order.{key_cmp, same_key}
use Rattle.rule_table.specs.Pairs.{PairRow, is_id, shares_id}
use Rattle.pairing_rules.specs.declared.entry.Entry.{Entry}
use Rattle.pairing_rules.specs.Numbers.{Numbers, AreApart, number_of, is_number, is_named, where_given, where_missing}
use Rattle.pairing_rules.specs.Slots.{seen, seen_at, shown, entry_cmp, at_place, low, has_key, has_key_at, has_given_key}
use Rattle.pairing_rules.specs.Index.{AreIndexed, AreUnder, belongs, paired_number, unpaired_number, vehicle_number}
use Rattle.pairing_rules.proofs.Order.{keys_total, same-key, number-le, turned}
use Rattle.pairing_rules.proofs.Lists.{any-seen, any-same, any-or, any-none, all-then, filter-all-same}
use Rattle.pairing_rules.proofs.Numbering.{number-id, unnamed}

or-turned : (b old : Bool) → cond b true old ≡ (old || b)
or-turned true true = refl
or-turned true false = refl
or-turned false true = refl
or-turned false false = refl

pub key-put : (key k r : EntityKey) (old : Bool) → k ≡ r → cond (is_at (key_cmp k) key) true old ≡ (old || same_key key r)
key-put key k r old e =
    ap (λ b. cond b true old) ((eq_by_cmp_equiv keys_total).symm k key) ∙ or-turned (eq_by_cmp key_cmp key k) old ∙ ap (λ b. old || b) (same-key key k ∙ ap (same_key key) e)

or-moved : (old h rest : Bool) → ((old || h) || rest) ≡ (old || (h || rest))
or-moved true h rest = refl
or-moved false h rest = refl

-- one more entry done, one less to go
pub key-step : (key : EntityKey) (new old all : Bool) (e : Entry) (es rest : List Entry) → new ≡ (old || has_key key (seen e)) → es ≡ e ∷ rest
    → (old || list_any (λ x. has_key key (seen x)) es) ≡ all → (new || list_any (λ x. has_key key (seen x)) rest) ≡ all
key-step key new old all e es rest n s h =
    ap (λ b. b || list_any (λ x. has_key key (seen x)) rest) n ∙ or-moved old (has_key key (seen e)) (list_any (λ x. has_key key (seen x)) rest)
    ∙ ap (λ xs. old || list_any (λ x. has_key key (seen x)) xs) (sym s) ∙ h

-- ---- a number as a range
next-number : (m x : ℕ) → (is_le (nat_cmp m x) && not (is_le (nat_cmp (m + 1) x))) ≡ is_eq (nat_cmp m x)
next-number m x = grind (arith, nat_tests)

number-range : (n : ℕ) (e : Entry) → range_contains entry_cmp (Included (low n TripUpdate 0)) (Excluded (low (n + 1) TripUpdate 0)) e ≡ (e.number == n)
number-range n e =
    ap (λ b. b && not (is_le (entry_cmp (low (n + 1) TripUpdate 0) e))) (number-le n e) ∙ ap (λ b. is_le (nat_cmp n e.number) && not b) (number-le (n + 1) e)
    ∙ next-number n e.number ∙ turned n e.number

pub any-map : {A B : Type 0} (f : A → B) (g : B → Bool) (xs : List A) → list_any (λ x. g (f x)) xs ≡ list_any g (map f xs)
any-map f g [] = refl
any-map f g (x ∷ xs) = ap (λ b. g (f x) || b) (any-map f g xs)

kinds : (a h : Bool) (k : Kind) → (a && h) ≡ (((a && same_kind k TripUpdate) && h) || ((a && same_kind k Vehicle) && h))
kinds true true TripUpdate = refl
kinds true true Vehicle = refl
kinds true false TripUpdate = refl
kinds true false Vehicle = refl
kinds false h k = refl

pub range-keys : (key : EntityKey) (n : ℕ) (es keys : List Entry) → es ≡ filter (range_contains entry_cmp (Included (low n TripUpdate 0)) (Excluded (low (n + 1) TripUpdate 0))) keys
    → list_any (λ e. has_key key (seen e)) es ≡ (list_any (has_key key) (map seen (filter (at_place n TripUpdate) keys)) || list_any (has_key key) (map seen (filter (at_place n Vehicle) keys)))
range-keys key n es keys e =
    ap (list_any (λ x. has_key key (seen x))) (e ∙ filter-all-same _ (λ x. x.number == n) (number-range n) keys) ∙ any-map seen (has_key key) (filter (λ x. x.number == n) keys)
    ∙ sym (any-seen seen (λ x. x.number == n) (has_key key) keys)
    ∙ any-same _ (λ x. (at_place n TripUpdate x && has_key key (seen x)) || (at_place n Vehicle x && has_key key (seen x))) (λ x. kinds (x.number == n) (has_key key (seen x)) x.kind) keys
    ∙ sym (any-or (λ x. at_place n TripUpdate x && has_key key (seen x)) (λ x. at_place n Vehicle x && has_key key (seen x)) keys)
    ∙ ap (λ b. b || list_any (λ x. at_place n Vehicle x && has_key key (seen x)) keys) (any-seen seen (at_place n TripUpdate) (has_key key) keys)
    ∙ ap (λ b. list_any (has_key key) (map seen (filter (at_place n TripUpdate) keys)) || b) (any-seen seen (at_place n Vehicle) (has_key key) keys)

-- ---- all rows of an id
place-keys : (p : PairRow → Bool) (key : EntityKey) (rows : List PairRow) → list_any (has_key key) (map shown (filter p rows)) ≡ list_any (λ r. p r && same_key key r.key) rows
place-keys p key rows = sym (any-seen shown p (has_key key) rows)

-- the rows under a number
number-keys : (number : PairRow → Option ℕ) (s : BTreeSet Entry) (rows : List PairRow) → AreUnder number s rows → (key : EntityKey) (n : ℕ) → has_key_at s n key ≡ list_any (λ r. is_number n (number r) && same_key key r.key) rows
number-keys number s rows under key n =
    let p = belongs number n TripUpdate in
    let q = belongs number n Vehicle in
    ap (λ xs. list_any (has_key key) xs || list_any (has_key key) (seen_at s n Vehicle)) (under n TripUpdate) ∙ ap (λ xs. list_any (has_key key) (map shown (filter p rows)) || list_any (has_key key) xs) (under n Vehicle)
    ∙ ap (λ b. b || list_any (has_key key) (map shown (filter q rows))) (place-keys p key rows) ∙ ap (λ b. list_any (λ r. p r && same_key key r.key) rows || b) (place-keys q key rows)
    ∙ any-or (λ r. p r && same_key key r.key) (λ r. q r && same_key key r.key) rows
    ∙ any-same _ (λ r. is_number n (number r) && same_key key r.key) (λ r. sym (kinds (is_number n (number r)) (same_key key r.key) r.kind)) rows

none-false : (rows : List PairRow) → false ≡ list_any (λ _. false) rows
none-false [] = refl
none-false (r ∷ rows) = none-false rows

either : (x y h : Bool) → ((x && h) || (y && h)) ≡ ((x || y) && h)
either true true true = refl
either true true false = refl
either true false true = refl
either true false false = refl
either false y h = refl

or-nothing : (a : Bool) → (a || false) ≡ a
or-nothing true = refl
or-nothing false = refl

halves : (n : ℕ) (m : Option ℕ) (v : Option (List ℕ)) (h : Bool) → ((is_number n (where_given v m) && h) || (is_number n (where_missing v m) && h)) ≡ (is_number n m && h)
halves n m None h = refl
halves n m (Some v) h = or-nothing (is_number n m && h)

module _ (rows : List PairRow) (trips vehicles : Numbers) (s t u : BTreeSet Entry) (i : AreIndexed rows trips vehicles s t u) (last_trip last_vehicle : ℕ) (a : AreApart trips last_trip) (b : AreApart vehicles last_vehicle) (key : EntityKey) where
  trip-text-keys : (trip : List ℕ) (m : Option ℕ) → trips trip ≡ m → (has_given_key s m key || has_given_key t m key) ≡ list_any (λ r. is_id trip r.trip && same_key key r.key) rows
  trip-text-keys trip None h = sym (any-none _ rows (all-then (λ r. is_named trips r.trip ≡ true) _ (λ r g. ap (λ x. x && same_key key r.key) (unnamed trips trip h r.trip g)) rows i.trips_named))
  trip-text-keys trip (Some n) h =
      let p : PairRow → Bool = λ r. is_number n (paired_number trips r) && same_key key r.key in
      let q : PairRow → Bool = λ r. is_number n (unpaired_number trips r) && same_key key r.key in
      ap (λ x. x || has_key_at t n key) (number-keys (paired_number trips) s rows i.paired_under key n) ∙ ap (λ x. list_any p rows || x) (number-keys (unpaired_number trips) t rows i.unpaired_under key n)
      ∙ any-or p q rows
      ∙ any-same _ (λ r. is_id trip r.trip && same_key key r.key) (λ r. halves n (number_of trips r.trip) r.vehicle (same_key key r.key) ∙ ap (λ x. x && same_key key r.key) (number-id trips last_trip a trip n h r.trip)) rows

  pub trip-keys : (id : Option (List ℕ)) → (has_given_key s (number_of trips id) key || has_given_key t (number_of trips id) key) ≡ list_any (λ r. shares_id id r.trip && same_key key r.key) rows
  trip-keys None = none-false rows
  trip-keys (Some trip) = trip-text-keys trip (trips trip) refl

  vehicle-text-keys : (vehicle : List ℕ) (m : Option ℕ) → vehicles vehicle ≡ m → has_given_key u m key ≡ list_any (λ r. is_id vehicle r.vehicle && same_key key r.key) rows
  vehicle-text-keys vehicle None h = sym (any-none _ rows (all-then (λ r. is_named vehicles r.vehicle ≡ true) _ (λ r g. ap (λ x. x && same_key key r.key) (unnamed vehicles vehicle h r.vehicle g)) rows i.vehicles_named))
  vehicle-text-keys vehicle (Some n) h =
      number-keys (vehicle_number vehicles) u rows i.vehicles_under key n
      ∙ any-same _ (λ r. is_id vehicle r.vehicle && same_key key r.key) (λ r. ap (λ x. x && same_key key r.key) (number-id vehicles last_vehicle b vehicle n h r.vehicle)) rows

  pub vehicle-keys : (id : Option (List ℕ)) → has_given_key u (number_of vehicles id) key ≡ list_any (λ r. shares_id id r.vehicle && same_key key r.key) rows
  vehicle-keys None = none-false rows
  vehicle-keys (Some vehicle) = vehicle-text-keys vehicle (vehicles vehicle) refl

  -- the rows that share an id with a row
  pub shared-keys : (trip vehicle : Option (List ℕ))
      → ((has_given_key s (number_of trips trip) key || has_given_key t (number_of trips trip) key) || has_given_key u (number_of vehicles vehicle) key) ≡ list_any (λ r. (shares_id trip r.trip || shares_id vehicle r.vehicle) && same_key key r.key) rows
  shared-keys trip vehicle =
      ap (λ x. x || has_given_key u (number_of vehicles vehicle) key) (trip-keys trip) ∙ ap (λ x. list_any (λ r. shares_id trip r.trip && same_key key r.key) rows || x) (vehicle-keys vehicle)
      ∙ any-or (λ r. shares_id trip r.trip && same_key key r.key) (λ r. shares_id vehicle r.vehicle && same_key key r.key) rows
      ∙ any-same _ (λ r. (shares_id trip r.trip || shares_id vehicle r.vehicle) && same_key key r.key) (λ r. either (shares_id trip r.trip) (shares_id vehicle r.vehicle) (same_key key r.key)) rows
