-- What the field of a place settles by being there or not: that the place doesn't break a rule.
use Rattle.std.specs.Prelude.{ℕ, suc, ◌==◌, Bool, true, false, not, ◌&&◌, ◌||◌, List, [], ◌∷◌, if◌then◌else◌}
use Rattle.std.specs.List.{list_any}
use Rattle.rule_table.specs.declared.rule.RuleId.{RuleId}
use Rattle.rule_table.specs.declared.row.Cite.{Cite}
use Rattle.rule_table.specs.declared.row.Cite.TheVariants.{Place, TripKnown, RouteKnown, AgencyKnown, StopKind, TripRoute, TripDirection, TripExact, OnGrid, VisitsTwice, FirstArrival, StopAt, EventAt, FirstVehicle, HasPair, HasId, FirstId, FirstOccurrence, Peak}
use Rattle.rule_table.specs.declared.row.Atom.{Atom}
use Rattle.rule_table.specs.declared.row.Atom.TheVariants.{Given, Missing, Is, AtLeast, Outside, NotBelow, Below, Above, Equal, Differ, IsTime, NotClock, NotDate, TimeDiffers, IsVersion2}
use Rattle.rule_table.specs.Table.{cites_of, test_of}

-- an entry names the value with a number, and so makes no ask where that is missing
abbrev pub names : ℕ → Cite → Bool
names n (TripKnown k) = k == n
names n (RouteKnown k) = k == n
names n (AgencyKnown k) = k == n
names n (StopKind k) = k == n
names n (TripRoute k) = k == n
names n (TripDirection k) = k == n
names n (TripExact k) = k == n
names n (OnGrid j k) = j == n || k == n
names n (VisitsTwice k) = k == n
names n (FirstArrival k) = k == n
names n (StopAt j k) = j == n || k == n
names n (EventAt j k) = j == n || k == n
names n (FirstVehicle k) = k == n
names n (HasPair j k) = j == n || k == n
names n (HasId k) = k == n
names n (FirstId k) = k == n
names n (FirstOccurrence k) = k == n
names n (Peak k) = k == n
names n _ = false

-- a condition is false where the value with a number is given, or where it is missing, whatever the others are
abbrev pub fails : Bool → ℕ → Atom → Bool
fails given n (Missing k) = given && k == n
fails given n (Given k) = not given && k == n
fails given n (Is k number) = not given && k == n
fails given n (AtLeast k number) = not given && k == n
fails given n (Outside k low high) = not given && k == n
fails given n (NotBelow j k) = not given && (j == n || k == n)
fails given n (Below j k) = not given && (j == n || k == n)
fails given n (Above j k number) = not given && (j == n || k == n)
fails given n (Equal j k) = not given && (j == n || k == n)
fails given n (Differ j k) = not given && (j == n || k == n)
fails given n (IsTime k) = not given && k == n
fails given n (NotClock k) = not given && k == n
fails given n (NotDate k) = not given && k == n
fails given n (TimeDiffers j k) = not given && (j == n || k == n)
fails given n (IsVersion2 k) = not given && k == n
fails given n _ = false

abbrev pub is_place : Cite → Bool
is_place Place = true
is_place _ = false

-- of a row, of which so many entries were cited before these: an entry makes no ask or a condition is false, where the place's own
-- field is given, or where it is missing
abbrev pub settled_from : Bool → ℕ → List Cite → List Atom → Bool
settled_from given n [] atoms = false
settled_from given n (c ∷ cs) atoms =
    if is_place c then (not given && list_any (names n) cs) || list_any (fails given n) atoms
    else settled_from given (suc n) cs atoms

-- a place of an entity whose field is given, or is missing, doesn't break the rule
abbrev pub settled_by : RuleId → Bool → Bool
settled_by rule given = settled_from given 0 (cites_of rule) (test_of rule)
