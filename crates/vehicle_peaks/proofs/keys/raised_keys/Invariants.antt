use Rattle.std.proofs.Common.{◌≡◌, ◌≤◌, ◌||◌, length}
use Rattle.std.specs.BTreeSet.{contains}
use Rattle.std.specs.List.{list_any}
use Rattle.rule_table.specs.Order.{key_cmp}
use Rattle.rule_table.specs.Rises.{Rising}
use Rattle.rule_table.specs.declared.key.EntityKey.{EntityKey}
use Rattle.history_rules.specs.HeldPeaks.{ids_seen}
use Rattle.entity_index.specs.Held.{entities_before, held_at, values_of}
use Rattle.vehicle_peaks.proofs.Beside.{AreLeft, is_raised_beside}
use Rattle.vehicle_peaks.proofs.keys.raised_keys.Given as goal

abbrev pub invariant-loop-key : goal.invariant-loop-key
invariant-loop-key l =
    record {
      keys_are : (k : EntityKey) → (contains key_cmp l.keys k || list_any (is_raised_beside (ids_seen l.stamps) l.fresh k) l.key-iterator)
          ≡ list_any (is_raised_beside (ids_seen l.stamps) l.fresh k) (values_of (entities_before l.feed (held_at l.index l.feed).bytes));
      left : AreLeft l.fresh l.at l.key-iterator;
      rise : Rising l.key-iterator;
      within : l.at ≤ length l.fresh;
    }
