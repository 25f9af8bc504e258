use Rattle.std.proofs.Common.{◌≡◌, ◌++◌, ℕ, List, [], take, drop, length}
use Rattle.feed_values.specs.Snapshot.{entity_payloads}
use Rattle.rule_table.specs.declared.key.EntityKey.{EntityKey}
use Rattle.rule_table.specs.Counts.{count_in}
use Rattle.rule_history.specs.History.{count_id}
use Rattle.entity_index.specs.Held.{at_key}
use Rattle.entity_index.specs.Seats.{occurrences_after, placed_after}
use Rattle.entity_index.specs.Put.{seat_all}
use Rattle.entity_index.specs.Tally.{IsTally, first_key, phase_at}
use Rattle.entity_index.proofs.renewing.seat_all.Given as goal

abbrev pub invariant-loop-place : goal.invariant-loop-place
invariant-loop-place l =
    let ps = entity_payloads l.kept in
    record {
      seated : (key : EntityKey) → seat_all l.phase (placed_after l.feed (take l.place ps) l.place (drop l.place ps)) (λ k. at_key k l.entries.entries) key ≡ seat_all l.phase (placed_after l.feed [] 0 ps) (λ k. at_key k l.fn.entries.entries) key;
      occurrences : l.occurrences.items ++ occurrences_after (take l.place ps) (drop l.place ps) ≡ occurrences_after [] ps;
      tallied : (id : List ℕ) → IsTally (phase_at l.phase (at_key (first_key l.feed id) l.entries.entries)) (count_id (take l.place ps) id) (count_in l.counts id);
      small : l.place-end ≡ length ps;
    }
