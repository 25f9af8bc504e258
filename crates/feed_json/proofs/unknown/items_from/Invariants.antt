use Rattle.std.proofs.Common.{◌≡◌, map, drop, codes}
use Rattle.serde_json.specs.View.{items_view}
use Rattle.feed_values.specs.Views.{unknown_field}
use Rattle.std.specs.List.{AllByRecursion}
use Rattle.feed_json.proofs.Lists.{after_items}
use Rattle.feed_json.specs.Later.{IsItem}
use Rattle.feed_json.specs.Unform.{unknown_of, each_of}
use Rattle.feed_json.proofs.unknown.items_from.Given as goal

-- what was read and what is left are all
abbrev pub invariant-loop-i : goal.invariant-loop-i
invariant-loop-i g l =
    AllByRecursion (IsItem g.M.Slots.schema) (map unknown_field l.list)
    × (after_items (map unknown_field l.list) (each_of (codes "unknown") (unknown_of g.M.Slots.schema) l.i (items_view (drop l.i l.items))) ≡ each_of (codes "unknown") (unknown_of g.M.Slots.schema) 0 (items_view l.items))
