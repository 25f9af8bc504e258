use Rattle.std.specs.Map.Iter.{deref}
use Rattle.std.proofs.lemmas.Map.Iter.{rest_more}
use Rattle.history_rules.proofs.StampGroups.{copy_put}
use Rattle.history_rules.proofs.keys.put_copies.Goals as goal

pub loop-key-preserved : goal.loop-key-preserved
loop-key-preserved c = λ k.
    copy_put k c.in_ok-clone.field-0 c.in-Some.key.now _ _ _ _ c.next.new.self (c.in_ok-insert.ensures.updates.0 k) c.in_ok-clone.ensures
    (rest_more deref _ c.next.new.self c.next.result c.in-Some.key c.in-Some.is c.next.ensures.steps) (c.loop-key.invariant k)
