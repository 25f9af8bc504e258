-- What stands under one service or trip id.
use Rattle.std.specs.Prelude.{List, Bool, Some, None, map, is_some, if◌then◌else◌}
use Rattle.std.specs.FinMap.{FinMap, empty, from_entries, get, insert}
use Rattle.std.specs.Ordering.{int_cmp}
use Rattle.rt_day.specs.declared.day.Day.{Day}
use Rattle.schedule_tables.specs.Maps.{Grouping}
use Rattle.schedule_rows.specs.declared.exception.Exception.{Exception}

-- whether a day is added, by the day's number
abbrev pub ByDay : Type 0
ByDay = FinMap int_cmp Bool

abbrev pub days_of : List (Day × Bool) → ByDay
days_of entries = from_entries (map (λ entry. (entry.0.number, entry.1)) entries)

-- a service may have one exception on each day
abbrev pub exceptions : Grouping Exception ByDay
exceptions = record {
  first = λ item. insert empty item.day.number item.added;
  more = λ days item. if is_some (get days item.day.number) then None else Some (insert days item.day.number item.added);
}
