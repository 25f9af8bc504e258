-- When asks and facts are the same.
use Rattle.std.specs.Prelude.{◌==◌, Bool, true, false, ◌&&◌, List, [], ◌∷◌, bytes_eq}
use Rattle.rule_table.specs.declared.ask.Ask.{Ask}
use Rattle.rule_table.specs.declared.ask.Ask.TheVariants as ask
use Rattle.rule_table.specs.declared.fact.Fact.{Fact}
use Rattle.rule_table.specs.Kinds.{same_kind}
use Rattle.rule_table.specs.Order.{same_path, slot_number}
use Rattle.rule_table.specs.Passed.{same_cell}

abbrev pub same_ask : Ask → Ask → Bool
same_ask (ask.Cell p) (ask.Cell q) = same_path p q
same_ask (ask.HeadNow s) (ask.HeadNow t) = slot_number s == slot_number t
same_ask (ask.HeadBefore s) (ask.HeadBefore t) = slot_number s == slot_number t
same_ask ask.Moment ask.Moment = true
same_ask ask.Occurrence ask.Occurrence = true
same_ask ask.EntitiesChanged ask.EntitiesChanged = true
same_ask (ask.TripKnown a) (ask.TripKnown b) = bytes_eq a b
same_ask (ask.RouteKnown a) (ask.RouteKnown b) = bytes_eq a b
same_ask (ask.AgencyKnown a) (ask.AgencyKnown b) = bytes_eq a b
same_ask (ask.StopKind a) (ask.StopKind b) = bytes_eq a b
same_ask (ask.TripRoute a) (ask.TripRoute b) = bytes_eq a b
same_ask (ask.TripDirection a) (ask.TripDirection b) = bytes_eq a b
same_ask (ask.TripExact a) (ask.TripExact b) = bytes_eq a b
same_ask (ask.OnGrid a s) (ask.OnGrid b t) = bytes_eq a b && bytes_eq s t
same_ask (ask.VisitsTwice a) (ask.VisitsTwice b) = bytes_eq a b
same_ask (ask.FirstArrival a) (ask.FirstArrival b) = bytes_eq a b
same_ask (ask.StopAt a m) (ask.StopAt b n) = bytes_eq a b && (m == n)
same_ask (ask.ArrivalAt a m) (ask.ArrivalAt b n) = bytes_eq a b && (m == n)
same_ask (ask.DepartureAt a m) (ask.DepartureAt b n) = bytes_eq a b && (m == n)
same_ask (ask.FirstVehicle k a) (ask.FirstVehicle l b) = same_kind k l && bytes_eq a b
same_ask (ask.HasPair k a v) (ask.HasPair l b w) = same_kind k l && bytes_eq a b && bytes_eq v w
same_ask (ask.AnyRow k) (ask.AnyRow l) = same_kind k l
same_ask (ask.HasTrip k a) (ask.HasTrip l b) = same_kind k l && bytes_eq a b
same_ask (ask.HasVehicle k a) (ask.HasVehicle l b) = same_kind k l && bytes_eq a b
same_ask (ask.FirstId f a) (ask.FirstId g b) = f == g && bytes_eq a b
same_ask (ask.FirstOccurrence f a) (ask.FirstOccurrence g b) = f == g && bytes_eq a b
same_ask (ask.Peak f a) (ask.Peak g b) = f == g && bytes_eq a b
same_ask _ _ = false

abbrev pub same_facts : List Fact → List Fact → Bool
same_facts [] [] = true
same_facts (f ∷ fs) (g ∷ gs) = same_ask f.ask g.ask && same_cell f.value g.value && same_facts fs gs
same_facts _ _ = false
