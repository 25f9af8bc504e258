use Rattle.std.proofs.Common.{◌≡◌, ◌++◌, ℕ, [], take, drop, length}
use Rattle.feed_values.specs.Snapshot.{entity_payloads}
use Rattle.rule_history.specs.History.{keyed_after}
use Rattle.entity_index.specs.Changes.{fresh_from, keyed_in}
use Rattle.entity_index.proofs.comparing.all_places.Given as goal

abbrev pub invariant-loop-place : goal.invariant-loop-place
invariant-loop-place l =
    let ps = entity_payloads l.kept in
    record {
      places : (f : ℕ) → l.places ++ fresh_from [] l.place (keyed_after f (take l.place ps) (drop l.place ps)) ≡ fresh_from [] 0 (keyed_in f l.kept);
      small : l.place-end ≡ length ps;
    }
