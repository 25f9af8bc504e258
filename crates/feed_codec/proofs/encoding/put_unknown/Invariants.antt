use Rattle.std.proofs.Common.{◌≡◌, ◌++◌, map, take}
use Rattle.std.specs.List.{flat_map}
use Rattle.rt_wire.specs.Writing.{spell}
use Rattle.feed_values.specs.Views.{unknown_field}
use Rattle.feed_codec.proofs.encoding.put_unknown.Given as goal

abbrev pub invariant-loop-unknown : goal.invariant-loop-unknown
invariant-loop-unknown g l = l.out.items ≡ l.fn.out.items ++ flat_map spell (map unknown_field (take l.unknown-index l.unknown-items))
