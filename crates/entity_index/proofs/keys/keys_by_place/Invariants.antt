use Rattle.std.proofs.Common.{◌≡◌, ◌++◌, ℕ, List, map, take, drop, length}
use Rattle.feed_values.specs.Snapshot.{entity_payloads}
use Rattle.rule_table.specs.Counts.{count_in}
use Rattle.rule_history.specs.History.{count_id, keyed_after}
use Rattle.entity_index.specs.Changes.{keyed_in}
use Rattle.entity_index.proofs.keys.keys_by_place.Given as goal

-- the keys so far and those of the byte strings that are left are all, and each id so far is counted
abbrev pub invariant-loop-place : goal.invariant-loop-place
invariant-loop-place l =
    let ps = entity_payloads l.kept in
    record {
      found : l.keys.items ++ map (λ e. e.0) (keyed_after l.feed (take l.place ps) (drop l.place ps)) ≡ map (λ e. e.0) (keyed_in l.feed l.kept);
      counted : (id : List ℕ) → count_in l.counts id ≡ count_id (take l.place ps) id;
      small : l.place-end ≡ length ps;
    }
