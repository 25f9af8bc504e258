use Rattle.std.proofs.Common.{◌≡◌}
use Rattle.json.specs.Value.{members_view}
use Rattle.json_entities.specs.Parts.{emptied, entity_values}
use Rattle.json_entities.proofs.ItemsRead.{items_before, members_before}
use Rattle.json_entities.proofs.parts.set_apart.Given as goal

-- what was set apart, and what is left of it
abbrev pub invariant-loop-key : goal.invariant-loop-key
invariant-loop-key l =
    record {
      others_are : members_before l.others.items (emptied (members_view l.key-iterator.rest.items)) ≡ emptied (members_view l.fn.members.items);
      entities_are : items_before l.entities.items (entity_values (members_view l.key-iterator.rest.items)) ≡ entity_values (members_view l.fn.members.items);
    }
