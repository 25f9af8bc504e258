use Rattle.std.proofs.Common.{◌≡◌, map, drop}
use Rattle.serde_json.specs.View.{items_view}
use Rattle.std.specs.List.{AllByRecursion}
use Rattle.feed_json.specs.Holds.{Holds}
use Rattle.feed_json.proofs.Lists.{after_items}
use Rattle.feed_json.specs.Unform.{unform, each_of}
use Rattle.feed_json.proofs.message.items_from.Given as goal

-- what was read and what is left are all
abbrev pub invariant-loop-i : goal.invariant-loop-i
invariant-loop-i g l =
    AllByRecursion (Holds g.M.Slots.schema g.M.Slots.schema) (map g.M.Slots.value l.list)
    × (after_items (map g.M.Slots.value l.list) (each_of l.key (unform g.M.Slots.schema) l.i (items_view (drop l.i l.items)))
    ≡ each_of l.key (unform g.M.Slots.schema) 0 (items_view l.items))
