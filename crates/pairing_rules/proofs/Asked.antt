-- What is asked of the rows, from what is seen by number.
use Rattle.std.proofs.Common.{◌≡◌, ◌==◌, ◌&&◌, ◌||◌, ℕ, Bool, true, false, List, Option, Some, None, refl, sym, ◌∙◌, ap}
use Rattle.std.specs.Prelude.{map, option_map, option_and_then, is_some}
use Rattle.std.specs.List.{filter, find, list_any}
use Rattle.rule_table.specs.declared.kind.Kind.{Kind}
use Rattle.rule_table.specs.declared.kind.Kind.TheVariants.{Vehicle}
use Rattle.rule_table.specs.Pairs.{PairRow, is_of, is_id, has_trip, has_vehicle, has_pair, first_vehicle, first_key}
use Rattle.pairing_rules.specs.Numbers.{Numbers, AreApart, number_of, is_number, where_given, where_missing}
use Rattle.pairing_rules.specs.Slots.{seen_at, shown, vehicle_in, key_in}
use Rattle.pairing_rules.specs.Index.{AreIndexed, belongs, paired_number, unpaired_number, vehicle_number}
use Rattle.pairing_rules.proofs.Lists.{any-seen, find-seen, any-same, find-same, any-or, any-none, find-nothing, all-then}
use Rattle.pairing_rules.proofs.Places.{and-true}
use Rattle.pairing_rules.proofs.Numbering.{number-id, unnamed}
use Rattle.std.specs.BTreeSet.{BTreeSet}
use Rattle.pairing_rules.specs.declared.entry.Entry.{Entry}

any-all : (p : PairRow → Bool) (rows : List PairRow) → list_any (λ _. true) (map shown (filter p rows)) ≡ list_any p rows
any-all p rows = sym (any-seen shown p (λ _. true) rows) ∙ any-same (λ r. p r && true) p (λ r. and-true (p r)) rows

swap : (a b : Bool) → (a && b) ≡ (b && a)
swap true true = refl
swap true false = refl
swap false true = refl
swap false false = refl

or-nothing : (a : Bool) → (a || false) ≡ a
or-nothing true = refl
or-nothing false = refl

and-false : (a : Bool) → (a && false) ≡ false
and-false true = refl
and-false false = refl

halves : (n : ℕ) (m : Option ℕ) (v : Option (List ℕ)) (b : Bool) → ((is_number n (where_given v m) && b) || (is_number n (where_missing v m) && b)) ≡ (b && is_number n m)
halves n m None b = swap (is_number n m) b
halves n m (Some v) b = or-nothing (is_number n m && b) ∙ swap (is_number n m) b

given-first : (n : ℕ) (m : Option ℕ) (v : Option (List ℕ)) (b : Bool) → ((is_number n (where_given v m) && b) && true) ≡ (b && is_number n m && is_some v)
given-first n m None b = sym (and-false (b && is_number n m))
given-first n m (Some v) b = and-true (is_number n m && b) ∙ swap (is_number n m) b ∙ sym (and-true (b && is_number n m))

of-feed : (a b f : Bool) → ((a && b) && f) ≡ (b && f && a)
of-feed true true true = refl
of-feed true true false = refl
of-feed true false f = refl
of-feed false true true = refl
of-feed false true false = refl
of-feed false false f = refl

module _ (rows : List PairRow) (trips vehicles : Numbers) (s t u : BTreeSet Entry) (i : AreIndexed rows trips vehicles s t u) (last_trip last_vehicle : ℕ) (a : AreApart trips last_trip) (b : AreApart vehicles last_vehicle) where
  pub trip-asked : (trip : List ℕ) (n : ℕ) → trips trip ≡ Some n → (k : Kind) → (list_any (λ _. true) (seen_at s n k) || list_any (λ _. true) (seen_at t n k)) ≡ has_trip rows k trip
  trip-asked trip n h k =
      let p = belongs (paired_number trips) n k in
      let q = belongs (unpaired_number trips) n k in
      ap (λ x. list_any (λ _. true) x || list_any (λ _. true) (seen_at t n k)) (i.paired_under n k) ∙ ap (λ x. list_any (λ _. true) (map shown (filter p rows)) || list_any (λ _. true) x) (i.unpaired_under n k)
      ∙ ap (λ x. x || list_any (λ _. true) (map shown (filter q rows))) (any-all p rows) ∙ ap (λ x. list_any p rows || x) (any-all q rows) ∙ any-or p q rows
      ∙ any-same _ (λ r. is_of k r && is_id trip r.trip) (λ r. halves n (number_of trips r.trip) r.vehicle (is_of k r) ∙ ap (λ x. is_of k r && x) (number-id trips last_trip a trip n h r.trip)) rows

  pub trip-unasked : (trip : List ℕ) → trips trip ≡ None → (k : Kind) → has_trip rows k trip ≡ false
  trip-unasked trip h k = any-none _ rows (all-then _ _ (λ r g. ap (λ x. is_of k r && x) (unnamed trips trip h r.trip g) ∙ and-false (is_of k r)) rows i.trips_named)

  pub vehicle-asked : (vehicle : List ℕ) (n : ℕ) → vehicles vehicle ≡ Some n → (k : Kind) → list_any (λ _. true) (seen_at u n k) ≡ has_vehicle rows k vehicle
  vehicle-asked vehicle n h k =
      ap (list_any (λ _. true)) (i.vehicles_under n k) ∙ any-all (belongs (vehicle_number vehicles) n k) rows
      ∙ any-same _ (λ r. is_of k r && is_id vehicle r.vehicle) (λ r. swap (is_number n (number_of vehicles r.vehicle)) (is_of k r) ∙ ap (λ x. is_of k r && x) (number-id vehicles last_vehicle b vehicle n h r.vehicle)) rows

  pub vehicle-unasked : (vehicle : List ℕ) → vehicles vehicle ≡ None → (k : Kind) → has_vehicle rows k vehicle ≡ false
  vehicle-unasked vehicle h k = any-none _ rows (all-then _ _ (λ r g. ap (λ x. is_of k r && x) (unnamed vehicles vehicle h r.vehicle g) ∙ and-false (is_of k r)) rows i.vehicles_named)

  pub pair-no-trip : (trip vehicle : List ℕ) → trips trip ≡ None → (k : Kind) → has_pair rows k trip vehicle ≡ false
  pair-no-trip trip vehicle h k = any-none _ rows (all-then _ _ (λ r g. ap (λ x. is_of k r && x && is_id vehicle r.vehicle) (unnamed trips trip h r.trip g) ∙ ap (λ x. x && is_id vehicle r.vehicle) (and-false (is_of k r))) rows i.trips_named)

  pub pair-no-vehicle : (trip vehicle : List ℕ) → vehicles vehicle ≡ None → (k : Kind) → has_pair rows k trip vehicle ≡ false
  pair-no-vehicle trip vehicle h k = any-none _ rows (all-then _ _ (λ r g. ap (λ x. is_of k r && is_id trip r.trip && x) (unnamed vehicles vehicle h r.vehicle g) ∙ and-false (is_of k r && is_id trip r.trip)) rows i.vehicles_named)

  vehicle-shown : (x : Option PairRow) → option_and_then vehicle_in (option_map shown x) ≡ option_and_then (λ r. r.vehicle) x
  vehicle-shown None = refl
  vehicle-shown (Some r) = refl

  key-shown : (x : Option PairRow) → option_and_then key_in (option_map shown x) ≡ option_map (λ r. r.key) x
  key-shown None = refl
  key-shown (Some r) = refl

  pub first-vehicle-asked : (trip : List ℕ) (n : ℕ) → trips trip ≡ Some n → (k : Kind) → option_and_then vehicle_in (find (λ _. true) (seen_at s n k)) ≡ first_vehicle rows k trip
  first-vehicle-asked trip n h k =
      let p = belongs (paired_number trips) n k in
      ap (λ x. option_and_then vehicle_in (find (λ _. true) x)) (i.paired_under n k)
      ∙ ap (option_and_then vehicle_in) (sym (find-seen shown p (λ _. true) rows)) ∙ vehicle-shown (find (λ r. p r && true) rows)
      ∙ ap (option_and_then (λ r. r.vehicle)) (find-same (λ r. p r && true) (λ r. is_of k r && is_id trip r.trip && is_some r.vehicle) (λ r. given-first n (number_of trips r.trip) r.vehicle (is_of k r)
      ∙ ap (λ x. is_of k r && x && is_some r.vehicle) (number-id trips last_trip a trip n h r.trip)) rows)

  pub first-vehicle-unasked : (trip : List ℕ) → trips trip ≡ None → (k : Kind) → first_vehicle rows k trip ≡ None
  first-vehicle-unasked trip h k =
      ap (option_and_then (λ r. r.vehicle)) (find-nothing _ rows (all-then _ _ (λ r g. ap (λ x. is_of k r && x && is_some r.vehicle) (unnamed trips trip h r.trip g) ∙ ap (λ x. x && is_some r.vehicle) (and-false (is_of k r))) rows i.trips_named))

  pub first-key-asked : (vehicle : List ℕ) (n : ℕ) → vehicles vehicle ≡ Some n → (feed : ℕ) → option_and_then key_in (find (λ x. x.feed == feed) (seen_at u n Vehicle)) ≡ first_key rows feed vehicle
  first-key-asked vehicle n h feed =
      let p = belongs (vehicle_number vehicles) n Vehicle in
      ap (λ x. option_and_then key_in (find (λ y. y.feed == feed) x)) (i.vehicles_under n Vehicle)
      ∙ ap (option_and_then key_in) (sym (find-seen shown p (λ y. y.feed == feed) rows)) ∙ key-shown (find (λ r. p r && (r.key.feed == feed)) rows)
      ∙ ap (option_map (λ r. r.key)) (find-same _ (λ r. is_of Vehicle r && (r.key.feed == feed) && is_id vehicle r.vehicle) (λ r. of-feed (is_number n (number_of vehicles r.vehicle)) (is_of Vehicle r) (r.key.feed == feed)
      ∙ ap (λ x. is_of Vehicle r && (r.key.feed == feed) && x) (number-id vehicles last_vehicle b vehicle n h r.vehicle)) rows)

  pub first-key-unasked : (vehicle : List ℕ) → vehicles vehicle ≡ None → (feed : ℕ) → first_key rows feed vehicle ≡ None
  first-key-unasked vehicle h feed =
      ap (option_map (λ r. r.key)) (find-nothing _ rows (all-then _ _ (λ r g. ap (λ x. is_of Vehicle r && (r.key.feed == feed) && x) (unnamed vehicles vehicle h r.vehicle g) ∙ and-false (is_of Vehicle r && (r.key.feed == feed))) rows i.vehicles_named))
