use Rattle.std.proofs.Common.{◌≡◌, length}
use Rattle.rt_wire.specs.Placed.{placed_fields}
use Rattle.feed_codec.specs.Refusal.{first_in, in_payload}
use Rattle.feed_codec.proofs.checking.check_message.Given as goal

abbrev pub invariant-loop-field : goal.invariant-loop-field
invariant-loop-field g l = record {
  whole : l.fields.whole ≡ l.bytes;
  rest : first_in (in_payload g.M.Checked.wrong) l.fields.left ≡ first_in (in_payload g.M.Checked.wrong) (placed_fields l.bytes);
}

abbrev pub decreases-loop-field : goal.decreases-loop-field
decreases-loop-field g l = length l.fields.left
