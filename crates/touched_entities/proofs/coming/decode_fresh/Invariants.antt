use Rattle.std.proofs.Common.{◌≡◌, ◌+◌, ◌≤◌, Some, map, take, length}
use Rattle.std.specs.Prelude.{option_map}
use Rattle.feed_values.specs.Snapshot.{entity_of}
use Rattle.feed_values.specs.Views.{entity_value}
use Rattle.rule_table.specs.Groups.{Each}
use Rattle.rule_history.specs.History.{entities_in}
use Rattle.rule_history.specs.Answered.{payload_under}
use Rattle.touched_entities.proofs.coming.decode_fresh.Given as goal

abbrev pub invariant-loop-number : goal.invariant-loop-number
invariant-loop-number g l =
    record {
      keys : map (λ c. c.key) l.came ≡ take l.number l.changes.keys;
      values : Each (λ c. Some (entity_value c.entity) ≡ option_map entity_of (payload_under c.key (entities_in l.feed l.kept))) l.came;
      small : l.number-end ≡ length l.changes.fresh;
      ticked : l.decodes ≡ l.fn.decodes + l.number;
      within : l.number ≤ length l.changes.fresh;
    }
