use Rattle.std.proofs.Common.{◌-◌, length, take}
use Rattle.std.specs.Prelude.{IfSome}
use Rattle.rt_wire.specs.Placed.{placed_fields}
use Rattle.field_pieces.specs.SoFar.{IsFrontAt}
use Rattle.feed_stream.specs.Layouts.{IsLayoutOf}
use Rattle.feed_stream.specs.Walks.{WalkedTo}
use Rattle.feed_stream.proofs.walking.go_through.Given as goal

abbrev pub invariant-loop-next : goal.invariant-loop-next
invariant-loop-next l = record {
  walked : WalkedTo l.bytes l.next;
  laid : IsLayoutOf l.bytes (placed_fields (take l.next l.bytes)) l.layout;
  front : IfSome l.front (IsFrontAt l.bytes l.next);
}

abbrev pub decreases-loop-next : goal.decreases-loop-next
decreases-loop-next l = length l.bytes - l.next
