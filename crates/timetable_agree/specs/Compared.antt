-- What is remembered of trips that two timetables were compared on.
use Rattle.std.specs.Prelude.{◌≡◌, Bool, Option, IfSome}
use Rattle.timetable.specs.Maps.{Text}
use Rattle.timetable.specs.Timetables.{Tables}
use Rattle.timetable_agree.specs.Alike.{same_trip}

-- what is remembered of a trip is whether both say the same of it
abbrev pub AreCompared : Tables → Tables → (Text → Option Bool) → Type 0
AreCompared a b compared = (id : Text) → IfSome (compared id) (λ same. same ≡ same_trip a b id)
