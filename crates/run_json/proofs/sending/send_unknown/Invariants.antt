use Rattle.std.proofs.Common.{◌≤◌, ◌++◌, false, length}
use Rattle.rt_wire.specs.Placed.{placed_fields}
use Rattle.feed_json.specs.Pieces.{array_from, end_piece, unknown_piece}
use Rattle.run_base.specs.Sending.{SendsText}
use Rattle.run_json.specs.Shown.{unknown_among}
use Rattle.run_json.proofs.sending.send_unknown.Given as goal

-- what was sent, what is held back and the text of what is left are all
abbrev pub invariant-loop-field : goal.invariant-loop-field
invariant-loop-field g l =
    record {
      sent : SendsText (g.S.Sink.state l.fn.out).written (g.S.Sink.state l.out).written (l.fn.held.items ++ array_from unknown_piece end_piece false (unknown_among (placed_fields l.bytes)))
          (l.held.items ++ array_from unknown_piece end_piece l.later (unknown_among l.fields.left));
      later : (g.S.Sink.state l.fn.out).faults ≤ (g.S.Sink.state l.out).faults;
    }

abbrev pub decreases-loop-field : goal.decreases-loop-field
decreases-loop-field g l = length (unknown_among l.fields.left)
