use Rattle.std.proofs.Common.{◌≡◌, ◌++◌, map, take}
use Rattle.std.specs.List.{flat_map}
use Rattle.rt_wire.specs.Fields.{Len}
use Rattle.feed_values.specs.Canonical.{canonical, spelled_slot}
use Rattle.feed_codec.proofs.encoding.payload.ItemsHeld.put_in.Given as goal

abbrev pub invariant-loop-message : goal.invariant-loop-message
invariant-loop-message g l = l.out.items ≡ l.fn.out.items ++ flat_map (λ w. spelled_slot l.number (Len (canonical g.P.Payload.schema w))) (map g.P.Payload.value (take l.message-index l.message-items))
