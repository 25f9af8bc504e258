use Rattle.std.proofs.Common.{◌≡◌, map, take, length}
use Rattle.std.specs.List.{All}
use Rattle.feed_values.specs.Snapshot.{entity_of, entity_payloads}
use Rattle.snapshot_keys.specs.ById.{IsNamed, entities_at}
use Rattle.snapshot_keys.proofs.placing.named.Given as goal

-- the entities so far
abbrev pub invariant-loop-number : goal.invariant-loop-number
invariant-loop-number l =
    let ps = entity_payloads l.kept in
    record {
      named : All (IsNamed l.kept) l.list.items;
      are : entities_at l.kept l.list.items ≡ map entity_of (take l.number ps);
      small : l.number-end ≡ length ps;
    }
