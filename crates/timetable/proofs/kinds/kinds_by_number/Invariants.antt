use Rattle.std.proofs.Common.{◌≡◌, ◌<◌, ℕ, None, Some, get_or, slice_get, vec_len}
use Rattle.schedule_tables.specs.Maps.{Text}
use Rattle.timetable.specs.Timetables.{kind_in}
use Rattle.timetable.proofs.kinds.kinds_by_number.Given as goal

-- the stops of smaller numbers are known
abbrev pub invariant-loop-number : goal.invariant-loop-number
invariant-loop-number l = record {
  size : vec_len l.kinds ≡ l.number;
  known : (n : ℕ) → n < l.number → (id : Text) → slice_get l.ids n ≡ Some id → get_or l.kinds.items n None ≡ kind_in l.stops id;
}
