use Rattle.std.proofs.Common.{◌≡◌, length}
use Rattle.rt_wire.specs.Placed.{placed_fields}
use Rattle.feed_values.specs.Meaning.{fields, whole_fields}
use Rattle.feed_codec.specs.Merging.{with_fields}
use Rattle.feed_codec.specs.Refusal.{first_in, in_payload}
use Rattle.feed_codec.proofs.message.merge.Given as goal

abbrev pub invariant-loop-field : goal.invariant-loop-field
invariant-loop-field g l = record {
  rest : with_fields g.M.Message.schema (whole_fields l.fields.left) (g.M.Message.value l.message) ≡ with_fields g.M.Message.schema (fields l.bytes) (g.M.Message.value l.fn.message);
  fine : first_in (in_payload g.M.Checked.wrong) l.fields.left ≡ first_in (in_payload g.M.Checked.wrong) (placed_fields l.bytes);
}

abbrev pub decreases-loop-field : goal.decreases-loop-field
decreases-loop-field g l = length l.fields.left
