use Rattle.std.proofs.Common.{◌≡◌, ◌≤◌, None}
use Rattle.std.specs.Option.{option_map}
use Rattle.json.specs.Tree.{ItemsHaveNumbers, items_depth}
use Rattle.json.specs.Value.{items_view}
use Rattle.serde_json.specs.Read.{max_depth, of_items}
use Rattle.json_entities.specs.Parts.{AllRead, array_said, as_said, last_of, last_said}
use Rattle.feed_json.specs.Holds.{Holds}
use Rattle.json_entities.proofs.items.last_in.Given as goal

-- what the last value said, and what is left of the values
abbrev pub invariant-loop-value : goal.invariant-loop-value
invariant-loop-value g l =
    record {
      said_is : option_map (last_said (array_said l.key g.M.Slots.schema) (as_said g.M.Slots.value l.last)) (of_items (items_view l.value-iterator.rest.items)) ≡ last_of l.key g.M.Slots.schema (items_view l.fn.values.items);
      refused : of_items (items_view l.value-iterator.rest.items) ≡ None → of_items (items_view l.fn.values.items) ≡ None;
      fits : AllRead g.M.Slots.value (Holds g.M.Slots.schema g.M.Slots.schema) l.last;
      numbers : ItemsHaveNumbers (items_view l.value-iterator.rest.items);
      nest : items_depth (items_view l.value-iterator.rest.items) ≤ max_depth;
    }
