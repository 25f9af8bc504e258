use Rattle.std.proofs.Common.{◌≡◌, ◌++◌, ℕ, List, map, filter, take, drop, length}
use Rattle.feed_values.specs.Snapshot.{entity_payloads}
use Rattle.rule_table.specs.Counts.{count_in}
use Rattle.rule_history.specs.History.{count_id, entities_in, keyed_after}
use Rattle.engine_laws.specs.Delta.{is_other}
use Rattle.entity_index.specs.Changes.{fresh_from, keyed_in}
use Rattle.entity_index.specs.Tally.{IsTally, first_key, met_at}
use Rattle.entity_index.proofs.Finding.{AreMet}
use Rattle.entity_index.proofs.comparing.find_all.Given as goal

-- what was found so far and what is left are all, what is held was met where its key came so far, and ids are counted where it doesn't tell
abbrev pub invariant-loop-place : goal.invariant-loop-place
invariant-loop-place l =
    let ps = entity_payloads l.kept in
    let before = entities_in l.room.feed l.room.bytes in
    let left = keyed_after l.room.feed (take l.place ps) (drop l.place ps) in
    record {
      places : l.fresh.places ++ fresh_from before l.place left ≡ fresh_from before 0 (keyed_in l.room.feed l.kept);
      keys : l.fresh.keys ++ map (λ e. e.0) (filter (is_other before) left) ≡ map (λ e. e.0) (filter (is_other before) (keyed_in l.room.feed l.kept));
      met : AreMet l.room.seats (take l.place (map (λ e. e.0) (keyed_in l.room.feed l.kept))) l.seen.met.items;
      long : length l.seen.met.items ≡ length (entity_payloads l.room.bytes);
      tallied : (id : List ℕ) → IsTally (met_at l.seen.met.items l.room.seats (first_key l.room.feed id)) (count_id (take l.place ps) id) (count_in l.seen.counts id);
      small : l.place-end ≡ length ps;
    }
