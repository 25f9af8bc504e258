use Rattle.std.proofs.Common.{◌≡◌, map, drop, length, bytes_eq}
use Rattle.std.specs.Cmp.Lexicographic.{pointwise}
use Rattle.feed_values.specs.Snapshot.{entity_payloads}
use Rattle.rule_history.specs.History.{id_of}
use Rattle.entity_index.proofs.keys.have_same_ids.Given as goal

abbrev pub invariant-loop-place : goal.invariant-loop-place
invariant-loop-place l =
    record {
      same : pointwise bytes_eq (map id_of (drop l.place (entity_payloads l.old))) (map id_of (drop l.place (entity_payloads l.new))) ≡ pointwise bytes_eq (map id_of (entity_payloads l.old)) (map id_of (entity_payloads l.new));
      small : l.place-end ≡ length (entity_payloads l.new);
      lengths : length (entity_payloads l.old) ≡ length (entity_payloads l.new);
    }
