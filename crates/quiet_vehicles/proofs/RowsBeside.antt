-- What pairing rows answer where there is no trip update, or one that gives both the trip and the vehicle.
use Rattle.std.proofs.Common.{ap, sym, ◌∙◌}
use Rattle.std.specs.Prelude.{◌≡◌, ℕ, Bool, true, false, not, ◌&&◌, ◌||◌, List, [], ◌∷◌, Option, Some, None, is_some, option_and_then, refl}
use borrow.Author.Tests.{clash}
use Rattle.std.specs.List.{list_any, find}
use Rattle.feed_values.specs.Cells.{text_cell}
use Rattle.rule_table.specs.declared.kind.Kind.{Kind}
use Rattle.rule_table.specs.declared.kind.Kind.TheVariants as kind
use Rattle.rule_table.specs.Answers.{yes}
use Rattle.rule_table.specs.Pairs.{PairRow, any_row, first_vehicle, has_pair, has_trip, has_vehicle, is_id, is_of}
use Rattle.rule_table.specs.Passed.{is_given, is_number}
use Rattle.quiet_vehicles.specs.Quiet.{is_paired}

or_parts : (a b : Bool) → (a || b) ≡ false → (a ≡ false) × (b ≡ false)
or_parts false b h = (refl, h)
or_parts true b h = absurd (cc h)

after_any : (a b : Bool) → b ≡ true → (a || b) ≡ true
after_any true b e = refl
after_any false b e = e

one_weaker : (a b c d : Bool) → (a ≡ true → c ≡ true) → (b ≡ true → d ≡ true) → (a || b) ≡ true → (c || d) ≡ true
one_weaker true b c d first rest h = rw (first refl) refl
one_weaker false b c d first rest h = after_any c d (rest h)

-- where some row passes a test, some row passes a weaker one
any_weaker : {A : Type 0} (p q : A → Bool) → ((x : A) → p x ≡ true → q x ≡ true) → (xs : List A) → list_any p xs ≡ true → list_any q xs ≡ true
any_weaker p q w [] h = h
any_weaker p q w (x ∷ xs) h = one_weaker (p x) (list_any p xs) (q x) (list_any q xs) (w x) (any_weaker p q w xs) h

with_first : (a b c : Bool) → (a && b && c) ≡ true → (a && b) ≡ true
with_first true true c h = refl
with_first true false c h = absurd (cc h)
with_first false b c h = absurd (cc h)

with_last : (a b c : Bool) → (a && b && c) ≡ true → (a && c) ≡ true
with_last true true c h = h
with_last true false c h = absurd (cc h)
with_last false b c h = absurd (cc h)

module _ (rows : List PairRow) (k : Kind) where
  pub pair_has_trip : (trip vehicle : List ℕ) → has_pair rows k trip vehicle ≡ true → has_trip rows k trip ≡ true
  pair_has_trip trip vehicle h = any_weaker _ _ (λ r. with_first (is_of k r) (is_id trip r.trip) (is_id vehicle r.vehicle)) rows h

  pub pair_has_vehicle : (trip vehicle : List ℕ) → has_pair rows k trip vehicle ≡ true → has_vehicle rows k vehicle ≡ true
  pair_has_vehicle trip vehicle h = any_weaker _ _ (λ r. with_last (is_of k r) (is_id trip r.trip) (is_id vehicle r.vehicle)) rows h

-- no row of a kind gives a vehicle where there is none
find_none : (k : Kind) (trip : List ℕ) (rows : List PairRow) → any_row rows k ≡ false → find (λ r. is_of k r && is_id trip r.trip && is_some r.vehicle) rows ≡ None
find_none k trip [] h = refl
find_none k trip (r ∷ rows) h = let s = or_parts (is_of k r) (any_row rows k) h in rw s.0 (find_none k trip rows s.1)

pub no_first : (rows : List PairRow) (k : Kind) (trip : List ℕ) → any_row rows k ≡ false → first_vehicle rows k trip ≡ None
no_first rows k trip h = ap (option_and_then (λ r. r.vehicle)) (find_none k trip rows h)

then_pair : (a b : Bool) → (not a || b) ≡ true → a ≡ true → b ≡ true
then_pair true b e f = e
then_pair false b e f = absurd (cc f)

-- ---- what the rules that pair find then
pub unpaired : (rows : List PairRow) (trip vehicle : List ℕ) → is_paired rows (Some trip) vehicle ≡ true
    → (is_given (text_cell (first_vehicle rows kind.TripUpdate trip)) && (is_number 0 (yes (has_pair rows kind.TripUpdate trip vehicle)) && true)) ≡ false
unpaired rows trip vehicle h = by_any (any_row rows kind.TripUpdate) refl
  where
    nothing : (b : Bool) → (b && false) ≡ false
    nothing true = refl
    nothing false = refl

    by_any : (b : Bool) → any_row rows kind.TripUpdate ≡ b → (is_given (text_cell (first_vehicle rows kind.TripUpdate trip)) && (is_number 0 (yes (has_pair rows kind.TripUpdate trip vehicle)) && true)) ≡ false
    by_any false e = rw (no_first rows kind.TripUpdate trip e) refl
    by_any true e = rw (then_pair (any_row rows kind.TripUpdate) (has_pair rows kind.TripUpdate trip vehicle) h e) (nothing (is_given (text_cell (first_vehicle rows kind.TripUpdate trip))))

-- and the one that wants each trip, and each vehicle, among those of the trip updates
pub trip_there : (rows : List PairRow) (trip vehicle : List ℕ) → is_paired rows (Some trip) vehicle ≡ true
    → (is_number 1 (yes (any_row rows kind.TripUpdate)) && (is_number 0 (yes (has_trip rows kind.TripUpdate trip)) && true)) ≡ false
trip_there rows trip vehicle h = by_any (any_row rows kind.TripUpdate) refl
  where
    by_any : (b : Bool) → any_row rows kind.TripUpdate ≡ b → (is_number 1 (yes (any_row rows kind.TripUpdate)) && (is_number 0 (yes (has_trip rows kind.TripUpdate trip)) && true)) ≡ false
    by_any false e = rw e refl
    by_any true e = rw (e, pair_has_trip rows kind.TripUpdate trip vehicle (then_pair (any_row rows kind.TripUpdate) (has_pair rows kind.TripUpdate trip vehicle) h e)) refl

pub vehicle_there : (rows : List PairRow) (trip : Option (List ℕ)) (vehicle : List ℕ) → is_paired rows trip vehicle ≡ true
    → (is_number 1 (yes (any_row rows kind.TripUpdate)) && (is_number 0 (yes (has_vehicle rows kind.TripUpdate vehicle)) && true)) ≡ false
vehicle_there rows trip vehicle h = by_any (any_row rows kind.TripUpdate) refl trip h
  where
    by_any : (b : Bool) → any_row rows kind.TripUpdate ≡ b → (t : Option (List ℕ)) → is_paired rows t vehicle ≡ true
        → (is_number 1 (yes (any_row rows kind.TripUpdate)) && (is_number 0 (yes (has_vehicle rows kind.TripUpdate vehicle)) && true)) ≡ false
    by_any false e t p = rw e refl
    by_any true e None p = absurd (clash (sym (ap (λ b. not b || false) e) ∙ p))
    by_any true e (Some trip) p = rw (e, pair_has_vehicle rows kind.TripUpdate trip vehicle (rw e at p)) refl
