use Rattle.std.proofs.Common.{◌≡◌}
use Rattle.rule_table.specs.declared.key.EntityKey.{EntityKey}
use Rattle.entity_index.specs.Held.{at_key}
use Rattle.entity_index.specs.Put.{put_all}
use Rattle.entity_index.proofs.renewing.put_all.Given as goal

abbrev pub invariant-loop-came : goal.invariant-loop-came
invariant-loop-came l = (key : EntityKey) → put_all l.phase l.came-iterator.rest.items (λ k. at_key k l.entries.entries) key ≡ put_all l.phase l.fn.incoming (λ k. at_key k l.fn.entries.entries) key
