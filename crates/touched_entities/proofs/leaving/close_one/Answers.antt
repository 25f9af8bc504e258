use Rattle.std.proofs.Common.{List, sym, subst}
use Rattle.rule_history.specs.Standing.{Standing}
use Rattle.entity_parts.specs.standing_walks.Walked.{IsInOrder}
use Rattle.touched_entities.proofs.Closing.{left_is}
use Rattle.touched_entities.proofs.leaving.close_one.Goals as goal

pub put-requires-clause-old : goal.put-requires-clause-old
put-requires-clause-old c = subst (λ (xs : List Standing). IsInOrder xs) (sym c.list_under.ensures) (c.requires 0)

pub put-requires-2-clause-old : goal.put-requires-2-clause-old
put-requires-2-clause-old c = subst (λ (xs : List Standing). IsInOrder xs) (sym c.list_under-2.ensures) (c.requires 1)

pub put-requires-3-clause-old : goal.put-requires-3-clause-old
put-requires-3-clause-old c = subst (λ (xs : List Standing). IsInOrder xs) (sym c.list_under-3.ensures) (c.requires 2)

pub put-requires-4-clause-old : goal.put-requires-4-clause-old
put-requires-4-clause-old c = subst (λ (xs : List Standing). IsInOrder xs) (sym c.list_under-4.ensures) (c.requires 3)

pub returns-clause-told : goal.returns-clause-told
returns-clause-told c =
    left_is c.args.index.now c.args.key.now c.list_under.result.now c.list_under-2.result.now c.list_under-3.result.now c.list_under-4.result.now
    c.list_under.ensures c.list_under-2.ensures c.list_under-3.ensures c.list_under-4.ensures
    c.args.tolds.now c.put.new.self c.put-2.new.self c.put-3.new.self c.put-4.new.self
    c.in_ok-put.ensures.told c.in_ok-put-2.ensures.told c.in_ok-put-3.ensures.told c.in_ok-put-4.ensures.told
