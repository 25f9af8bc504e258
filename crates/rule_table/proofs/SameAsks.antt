-- Asks that are the same by their numbers and texts are equal.
use Rattle.std.proofs.Common.{◌≡◌, ◌↔◌, IsTrue, ◌==◌, ◌&&◌, ℕ, Bool, true, false, List, [], ◌∷◌, Option, Some, bytes_eq, refl, sym, ap, ◌∙◌, eq-eqb}
use Rattle.std.specs.Prelude.{find}
use Rattle.std.proofs.lemmas.Bool.{and_parts, and_from, eqb-true}
use Rattle.std.proofs.lemmas.Option.{same_Some}
use Rattle.std.proofs.lemmas.Slice.Eq.{bytes_eq-Decides}
use Rattle.feed_values.specs.declared.slot.Slot.{Slot}
use Rattle.feed_values.specs.declared.slot.Slot.TheVariants.{S1}
use Rattle.feed_values.specs.SlotNames.{all_slots}
use Rattle.feed_values.specs.declared.path.Path.{Path}
use Rattle.rule_table.specs.declared.ask.Ask.{Ask}
use Rattle.rule_table.specs.declared.ask.Ask.TheVariants as ask
use Rattle.rule_table.specs.declared.kind.Kind.{Kind}
use Rattle.rule_table.specs.declared.kind.Kind.TheVariants as kind
use Rattle.rule_table.specs.Kinds.{same_kind}
use Rattle.rule_table.specs.Order.{same_path, slot_number}
use Rattle.rule_table.specs.SameFacts.{same_ask}
use Rattle.rule_table.specs.Parts.{parts_of, same_parts, parts_same}

pub never : {P : Type 0} → false ≡ true → P
never e = absurd (cc)

-- ---- slots
with_number : ℕ → Option Slot
with_number n = find (λ slot. slot_number slot == n) all_slots

numbered : (s : Slot) → with_number (slot_number s) ≡ Some s
unfolding with_number
numbered S1 = refl
numbered _ = refl

pub slot_is : (s t : Slot) → (slot_number s == slot_number t) ≡ true → s ≡ t
slot_is s t h = same_Some s t (sym (numbered s) ∙ ap with_number (eqb-true (slot_number s) (slot_number t) h) ∙ numbered t)

pub slot_same : (s : Slot) → (slot_number s == slot_number s) ≡ true
slot_same s = eq-eqb (slot_number s) (slot_number s) refl

-- ---- paths, kinds and texts
path_is : (p q : Path) → same_path p q ≡ true → p ≡ q
path_is p q h =
    let parts = and_parts (slot_number p.slot == slot_number q.slot) (p.index == q.index) h in
    ap (λ s. let r : Path = record { slot = s; index = p.index } in r) (slot_is p.slot q.slot parts.0) ∙ ap (λ i. let r : Path = record { slot = q.slot; index = i } in r) (eqb-true p.index q.index parts.1)

pub kind_is : (k l : Kind) → same_kind k l ≡ true → k ≡ l
kind_is kind.TripUpdate kind.TripUpdate h = refl
kind_is kind.TripUpdate kind.Vehicle h = never h
kind_is kind.Vehicle kind.TripUpdate h = never h
kind_is kind.Vehicle kind.Vehicle h = refl

pub text_is : (a b : List ℕ) → bytes_eq a b ≡ true → a ≡ b
text_is a b h = (bytes_eq-Decides a b).0 h

-- ---- asks
texts_are : (make : List ℕ → List ℕ → Ask) (a b s t : List ℕ) → (bytes_eq a b && bytes_eq s t) ≡ true → make a s ≡ make b t
texts_are make a b s t h = let parts = and_parts (bytes_eq a b) (bytes_eq s t) h in ap (λ x. make x s) (text_is a b parts.0) ∙ ap (λ y. make b y) (text_is s t parts.1)

visit_is : (make : List ℕ → ℕ → Ask) (a b : List ℕ) (m n : ℕ) → (bytes_eq a b && (m == n)) ≡ true → make a m ≡ make b n
visit_is make a b m n h = let parts = and_parts (bytes_eq a b) (m == n) h in ap (λ x. make x m) (text_is a b parts.0) ∙ ap (λ y. make b y) (eqb-true m n parts.1)

row_is : (make : Kind → List ℕ → Ask) (k l : Kind) (a b : List ℕ) → (same_kind k l && bytes_eq a b) ≡ true → make k a ≡ make l b
row_is make k l a b h = let parts = and_parts (same_kind k l) (bytes_eq a b) h in ap (λ x. make x a) (kind_is k l parts.0) ∙ ap (λ y. make l y) (text_is a b parts.1)

seat_is : (make : ℕ → List ℕ → Ask) (m n : ℕ) (a b : List ℕ) → (m == n && bytes_eq a b) ≡ true → make m a ≡ make n b
seat_is make m n a b h = let parts = and_parts (m == n) (bytes_eq a b) h in ap (λ x. make x a) (eqb-true m n parts.0) ∙ ap (λ y. make n y) (text_is a b parts.1)

pair_is : (k l : Kind) (a b v w : List ℕ) → (same_kind k l && bytes_eq a b && bytes_eq v w) ≡ true → ask.HasPair k a v ≡ ask.HasPair l b w
pair_is k l a b v w h =
    let parts = and_parts (same_kind k l && bytes_eq a b) (bytes_eq v w) h in
    row_is (λ m x. ask.HasPair m x v) k l a b parts.0 ∙ ap (ask.HasPair l b) (text_is v w parts.1)

pub ask_is : (a b : Ask) → same_ask a b ≡ true → a ≡ b
ask_is (ask.Cell p) (ask.Cell q) h = ap ask.Cell (path_is p q h)
ask_is (ask.HeadNow s) (ask.HeadNow t) h = ap ask.HeadNow (slot_is s t h)
ask_is (ask.HeadBefore s) (ask.HeadBefore t) h = ap ask.HeadBefore (slot_is s t h)
ask_is ask.Moment ask.Moment h = refl
ask_is ask.Occurrence ask.Occurrence h = refl
ask_is ask.EntitiesChanged ask.EntitiesChanged h = refl
ask_is (ask.TripKnown a) (ask.TripKnown b) h = ap ask.TripKnown (text_is a b h)
ask_is (ask.RouteKnown a) (ask.RouteKnown b) h = ap ask.RouteKnown (text_is a b h)
ask_is (ask.AgencyKnown a) (ask.AgencyKnown b) h = ap ask.AgencyKnown (text_is a b h)
ask_is (ask.StopKind a) (ask.StopKind b) h = ap ask.StopKind (text_is a b h)
ask_is (ask.TripRoute a) (ask.TripRoute b) h = ap ask.TripRoute (text_is a b h)
ask_is (ask.TripDirection a) (ask.TripDirection b) h = ap ask.TripDirection (text_is a b h)
ask_is (ask.TripExact a) (ask.TripExact b) h = ap ask.TripExact (text_is a b h)
ask_is (ask.OnGrid a s) (ask.OnGrid b t) h = texts_are ask.OnGrid a b s t h
ask_is (ask.VisitsTwice a) (ask.VisitsTwice b) h = ap ask.VisitsTwice (text_is a b h)
ask_is (ask.FirstArrival a) (ask.FirstArrival b) h = ap ask.FirstArrival (text_is a b h)
ask_is (ask.StopAt a m) (ask.StopAt b n) h = visit_is ask.StopAt a b m n h
ask_is (ask.ArrivalAt a m) (ask.ArrivalAt b n) h = visit_is ask.ArrivalAt a b m n h
ask_is (ask.DepartureAt a m) (ask.DepartureAt b n) h = visit_is ask.DepartureAt a b m n h
ask_is (ask.FirstVehicle k a) (ask.FirstVehicle l b) h = row_is ask.FirstVehicle k l a b h
ask_is (ask.HasPair k a v) (ask.HasPair l b w) h = pair_is k l a b v w h
ask_is (ask.AnyRow k) (ask.AnyRow l) h = ap ask.AnyRow (kind_is k l h)
ask_is (ask.HasTrip k a) (ask.HasTrip l b) h = row_is ask.HasTrip k l a b h
ask_is (ask.HasVehicle k a) (ask.HasVehicle l b) h = row_is ask.HasVehicle k l a b h
ask_is (ask.FirstId f a) (ask.FirstId g b) h = seat_is ask.FirstId f g a b h
ask_is (ask.FirstOccurrence f a) (ask.FirstOccurrence g b) h = seat_is ask.FirstOccurrence f g a b h
ask_is (ask.Peak f a) (ask.Peak g b) h = seat_is ask.Peak f g a b h
ask_is _ _ h = never h

-- and each is the same as itself
number_same : (n : ℕ) → (n == n) ≡ true
number_same n = eq-eqb n n refl

pub text_same : (a : List ℕ) → bytes_eq a a ≡ true
text_same a = (bytes_eq-Decides a a).1 refl

pub kind_same : (k : Kind) → same_kind k k ≡ true
kind_same kind.TripUpdate = refl
kind_same kind.Vehicle = refl

pub ask_same : (a : Ask) → same_ask a a ≡ true
ask_same (ask.Cell p) = and_from _ _ (slot_same p.slot) (number_same p.index)
ask_same (ask.HeadNow s) = slot_same s
ask_same (ask.HeadBefore s) = slot_same s
ask_same ask.Moment = refl
ask_same ask.Occurrence = refl
ask_same ask.EntitiesChanged = refl
ask_same (ask.TripKnown a) = text_same a
ask_same (ask.RouteKnown a) = text_same a
ask_same (ask.AgencyKnown a) = text_same a
ask_same (ask.StopKind a) = text_same a
ask_same (ask.TripRoute a) = text_same a
ask_same (ask.TripDirection a) = text_same a
ask_same (ask.TripExact a) = text_same a
ask_same (ask.OnGrid a s) = and_from _ _ (text_same a) (text_same s)
ask_same (ask.VisitsTwice a) = text_same a
ask_same (ask.FirstArrival a) = text_same a
ask_same (ask.StopAt a n) = and_from _ _ (text_same a) (number_same n)
ask_same (ask.ArrivalAt a n) = and_from _ _ (text_same a) (number_same n)
ask_same (ask.DepartureAt a n) = and_from _ _ (text_same a) (number_same n)
ask_same (ask.FirstVehicle k a) = and_from _ _ (kind_same k) (text_same a)
ask_same (ask.HasPair k a v) = and_from _ _ (and_from _ _ (kind_same k) (text_same a)) (text_same v)
ask_same (ask.AnyRow k) = kind_same k
ask_same (ask.HasTrip k a) = and_from _ _ (kind_same k) (text_same a)
ask_same (ask.HasVehicle k a) = and_from _ _ (kind_same k) (text_same a)
ask_same (ask.FirstId f a) = and_from _ _ (number_same f) (text_same a)
ask_same (ask.FirstOccurrence f a) = and_from _ _ (number_same f) (text_same a)
ask_same (ask.Peak f a) = and_from _ _ (number_same f) (text_same a)

-- what compares the parts of asks tells whether the asks are equal
pub is_by_parts : (same : Bool) (a b : Ask) → same ≡ same_parts (parts_of a) (parts_of b) → IsTrue same ↔ (a ≡ b)
is_by_parts same a b e = (
  (λ h. ask_is a b (parts_same a b ∙ sym e ∙ h)),
  (λ h. e ∙ sym (parts_same a b) ∙ ap (same_ask a) (sym h) ∙ ask_same a),
)
