use Rattle.std.proofs.Common.{rules}
use Rattle.rt_day.proofs.DateLemmas.{first_day, last_day}
use Rattle.rt_day.proofs.day.year_in_range.Goals as goal

pub returns-then-day-ge-FIRST : goal.returns-then-day-ge-FIRST
returns-then-day-ge-FIRST c = rw (first_day, last_day) (search rules)

pub returns-else-day-ge-FIRST : goal.returns-else-day-ge-FIRST
returns-else-day-ge-FIRST c = rw (first_day, last_day) (search rules)
