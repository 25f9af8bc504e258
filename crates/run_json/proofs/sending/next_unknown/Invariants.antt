use Rattle.std.proofs.Common.{◌≡◌, length}
use Rattle.run_json.specs.Shown.{unknown_among}
use Rattle.run_json.proofs.sending.next_unknown.Given as goal

-- those that are passed are of slots
abbrev pub invariant-loop-field : goal.invariant-loop-field
invariant-loop-field l = unknown_among l.fields.left ≡ unknown_among l.fn.fields.left

abbrev pub decreases-loop-field : goal.decreases-loop-field
decreases-loop-field l = length l.fields.left
