use Rattle.std.proofs.Common.{◌≡◌, length}
use Rattle.schedule_rows.specs.Fields.{trim_back}
use Rattle.schedule_rows.proofs.field.trim_back.Given as goal

-- what is left trims to the same
abbrev pub invariant-loop-left : goal.invariant-loop-left
invariant-loop-left l = trim_back l.left ≡ trim_back l.fn.bytes

abbrev pub decreases-loop-left : goal.decreases-loop-left
decreases-loop-left l = length l.left
