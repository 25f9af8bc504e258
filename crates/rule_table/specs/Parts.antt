-- What an ask is made of: a number for what is asked, and the numbers and texts that it is asked of.
use Rattle.std.specs.Prelude.{◌≡◌, ℕ, ◌==◌, Bool, true, false, ◌&&◌, List, [], bytes_eq, refl}
use Rattle.std.proofs.Common.{sym, ap, ◌∙◌}
use Rattle.std.proofs.Math.Bool.{and-true}
use Rattle.rule_table.specs.declared.ask.Ask.{Ask}
use Rattle.rule_table.specs.declared.ask.Ask.TheVariants as ask
use Rattle.rule_table.specs.Kinds.{kind_number}
use Rattle.rule_table.specs.Order.{slot_number}
use Rattle.rule_table.specs.SameFacts.{same_ask}
use Rattle.rule_table.specs.declared.parts.Parts.{Parts}

pub record AskParts : Type 0 where
  pub what : ℕ
  pub number : ℕ
  pub index : ℕ
  pub first : List ℕ
  pub second : List ℕ

abbrev pub parts_value : Parts → AskParts
parts_value p = record { what = p.what; number = p.number; index = p.index; first = p.first.now; second = p.second.now }

abbrev pub of_number : ℕ → ℕ → ℕ → AskParts
of_number what number index = record { what = what; number = number; index = index; first = []; second = [] }

abbrev pub of_text : ℕ → ℕ → List ℕ → AskParts
of_text what number text = record { what = what; number = number; index = 0; first = text; second = [] }

abbrev pub of_texts : ℕ → ℕ → List ℕ → List ℕ → AskParts
of_texts what number first second = record { what = what; number = number; index = 0; first = first; second = second }

abbrev pub parts_of : Ask → AskParts
parts_of (ask.Cell p) = of_number 0 (slot_number p.slot) p.index
parts_of (ask.HeadNow s) = of_number 1 (slot_number s) 0
parts_of (ask.HeadBefore s) = of_number 2 (slot_number s) 0
parts_of ask.Moment = of_number 3 0 0
parts_of ask.Occurrence = of_number 4 0 0
parts_of ask.EntitiesChanged = of_number 5 0 0
parts_of (ask.TripKnown a) = of_text 6 0 a
parts_of (ask.RouteKnown a) = of_text 7 0 a
parts_of (ask.AgencyKnown a) = of_text 8 0 a
parts_of (ask.StopKind a) = of_text 9 0 a
parts_of (ask.TripRoute a) = of_text 10 0 a
parts_of (ask.TripDirection a) = of_text 11 0 a
parts_of (ask.TripExact a) = of_text 12 0 a
parts_of (ask.OnGrid a s) = of_texts 13 0 a s
parts_of (ask.VisitsTwice a) = of_text 14 0 a
parts_of (ask.FirstArrival a) = of_text 15 0 a
parts_of (ask.StopAt a n) = of_text 16 n a
parts_of (ask.ArrivalAt a n) = of_text 17 n a
parts_of (ask.DepartureAt a n) = of_text 18 n a
parts_of (ask.FirstVehicle k a) = of_text 19 (kind_number k) a
parts_of (ask.HasPair k a v) = of_texts 20 (kind_number k) a v
parts_of (ask.AnyRow k) = of_number 21 (kind_number k) 0
parts_of (ask.HasTrip k a) = of_text 22 (kind_number k) a
parts_of (ask.HasVehicle k v) = of_text 23 (kind_number k) v
parts_of (ask.FirstId f v) = of_text 24 f v
parts_of (ask.FirstOccurrence f v) = of_text 25 f v
parts_of (ask.Peak f v) = of_text 26 f v

abbrev pub same_parts : AskParts → AskParts → Bool
same_parts a b = a.what == b.what && a.number == b.number && a.index == b.index && bytes_eq a.first b.first && bytes_eq a.second b.second

-- ---- asks are the same where their parts are

module _ (a b : Bool) where
  one_left : a ≡ ((a && true) && true)
  one_left = sym (and-true (a && true) ∙ and-true a)

  two_left : (a && b) ≡ ((a && true && b) && true)
  two_left = sym (and-true (a && true && b) ∙ ap (λ c. c && b) (and-true a))

-- a number, then an index
numbers : (a b : Bool) → (a && b) ≡ ((a && b) && true && true)
numbers a b = sym (and-true ((a && b) && true) ∙ and-true (a && b))

one_number : (a : Bool) → a ≡ ((a && true) && true && true)
one_number a = sym (and-true ((a && true) && true) ∙ and-true (a && true) ∙ and-true a)

one_text : (a : Bool) → a ≡ (a && true)
one_text a = sym (and-true a)

with_text : (a b : Bool) → (a && b) ≡ (a && true && b && true)
with_text a b = sym (and-true (a && true && b) ∙ ap (λ c. c && b) (and-true a))

text_first : (a b : Bool) → (b && a) ≡ (a && true && b && true)
text_first a b = swapped a b ∙ with_text a b
  where
    swapped : (a b : Bool) → (b && a) ≡ (a && b)
    swapped true true = refl
    swapped true false = refl
    swapped false true = refl
    swapped false false = refl

with_texts : (a b c : Bool) → (a && b && c) ≡ (a && true && b && c)
with_texts a b c = ap (λ d. d && b && c) (sym (and-true a))

pub parts_same : (a b : Ask) → same_ask a b ≡ same_parts (parts_of a) (parts_of b)
parts_same (ask.Cell p) (ask.Cell q) = numbers (slot_number p.slot == slot_number q.slot) (p.index == q.index)
parts_same (ask.HeadNow s) (ask.HeadNow t) = one_number (slot_number s == slot_number t)
parts_same (ask.HeadBefore s) (ask.HeadBefore t) = one_number (slot_number s == slot_number t)
parts_same ask.Moment ask.Moment = refl
parts_same ask.Occurrence ask.Occurrence = refl
parts_same ask.EntitiesChanged ask.EntitiesChanged = refl
parts_same (ask.TripKnown a) (ask.TripKnown b) = one_text (bytes_eq a b)
parts_same (ask.RouteKnown a) (ask.RouteKnown b) = one_text (bytes_eq a b)
parts_same (ask.AgencyKnown a) (ask.AgencyKnown b) = one_text (bytes_eq a b)
parts_same (ask.StopKind a) (ask.StopKind b) = one_text (bytes_eq a b)
parts_same (ask.TripRoute a) (ask.TripRoute b) = one_text (bytes_eq a b)
parts_same (ask.TripDirection a) (ask.TripDirection b) = one_text (bytes_eq a b)
parts_same (ask.TripExact a) (ask.TripExact b) = one_text (bytes_eq a b)
parts_same (ask.OnGrid a s) (ask.OnGrid b t) = refl
parts_same (ask.VisitsTwice a) (ask.VisitsTwice b) = one_text (bytes_eq a b)
parts_same (ask.FirstArrival a) (ask.FirstArrival b) = one_text (bytes_eq a b)
parts_same (ask.StopAt a m) (ask.StopAt b n) = text_first (m == n) (bytes_eq a b)
parts_same (ask.ArrivalAt a m) (ask.ArrivalAt b n) = text_first (m == n) (bytes_eq a b)
parts_same (ask.DepartureAt a m) (ask.DepartureAt b n) = text_first (m == n) (bytes_eq a b)
parts_same (ask.FirstVehicle k a) (ask.FirstVehicle l b) = with_text (kind_number k == kind_number l) (bytes_eq a b)
parts_same (ask.HasPair k a v) (ask.HasPair l b w) = with_texts (kind_number k == kind_number l) (bytes_eq a b) (bytes_eq v w)
parts_same (ask.AnyRow k) (ask.AnyRow l) = one_number (kind_number k == kind_number l)
parts_same (ask.HasTrip k a) (ask.HasTrip l b) = with_text (kind_number k == kind_number l) (bytes_eq a b)
parts_same (ask.HasVehicle k a) (ask.HasVehicle l b) = with_text (kind_number k == kind_number l) (bytes_eq a b)
parts_same (ask.FirstId f a) (ask.FirstId g b) = with_text (f == g) (bytes_eq a b)
parts_same (ask.FirstOccurrence f a) (ask.FirstOccurrence g b) = with_text (f == g) (bytes_eq a b)
parts_same (ask.Peak f a) (ask.Peak g b) = with_text (f == g) (bytes_eq a b)
parts_same _ _ = refl
