use Rattle.std.proofs.Common.{◌≡◌, ◌≤◌, None, map}
use Rattle.std.specs.List.{AllByRecursion}
use Rattle.std.specs.Option.{option_map}
use Rattle.json.specs.Tree.{ItemsHaveNumbers, items_depth}
use Rattle.json.specs.Value.{items_view}
use Rattle.serde_json.specs.Read.{max_depth, of_items}
use Rattle.json_entities.specs.Parts.{items_said, left_said}
use Rattle.feed_json.specs.Holds.{Holds}
use Rattle.json_entities.proofs.items.items_in.Given as goal

-- what was read, and what is left of the items
abbrev pub invariant-loop-item : goal.invariant-loop-item
invariant-loop-item g l =
    record {
      said_is : option_map (left_said l.key g.M.Slots.schema (map g.M.Slots.value l.list) l.first) (of_items (items_view l.item-iterator.rest.items)) ≡ items_said l.key g.M.Slots.schema (items_view l.fn.items.items);
      refused : of_items (items_view l.item-iterator.rest.items) ≡ None → of_items (items_view l.fn.items.items) ≡ None;
      fits : AllByRecursion (Holds g.M.Slots.schema g.M.Slots.schema) (map g.M.Slots.value l.list);
      numbers : ItemsHaveNumbers (items_view l.item-iterator.rest.items);
      nest : items_depth (items_view l.item-iterator.rest.items) ≤ max_depth;
    }
