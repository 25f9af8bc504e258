use Rattle.std.proofs.Common.{◌≡◌, ◌++◌, ◌&&◌, not, map, filter, take, drop, length, bytes_eq}
use Rattle.std.specs.Cmp.Lexicographic.{pointwise}
use Rattle.feed_values.specs.Snapshot.{entity_payloads}
use Rattle.rule_history.specs.History.{entities_in, keyed_after}
use Rattle.engine_laws.specs.Delta.{is_other}
use Rattle.entity_index.specs.Changes.{fresh_from, keyed_in}
use Rattle.entity_index.proofs.comparing.in_same_order.Given as goal

-- what was found so far and what is left are all, and so it is with the order
abbrev pub invariant-loop-place : goal.invariant-loop-place
invariant-loop-place l =
    let ps = entity_payloads l.kept in
    let qs = entity_payloads l.room.bytes in
    let before = entities_in l.room.feed l.room.bytes in
    let left = keyed_after l.room.feed (take l.place ps) (drop l.place ps) in
    record {
      places : l.fresh.places ++ fresh_from before l.place left ≡ fresh_from before 0 (keyed_in l.room.feed l.kept);
      keys : l.fresh.keys ++ map (λ e. e.0) (filter (is_other before) left) ≡ map (λ e. e.0) (filter (is_other before) (keyed_in l.room.feed l.kept));
      order : (not l.fresh.any && pointwise bytes_eq (drop l.place qs) (drop l.place ps)) ≡ pointwise bytes_eq qs ps;
      small : l.place-end ≡ length ps;
    }
