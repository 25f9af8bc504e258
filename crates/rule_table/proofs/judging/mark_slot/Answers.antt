use Rattle.std.proofs.Common.{rules}
use Rattle.feed_values.specs.Views.{entity_value}
use Rattle.rule_table.proofs.NoneThere.{clear_there}
use Rattle.rule_table.proofs.judging.mark_slot.Goals as goal

pub returns-then-has : goal.returns-then-has
returns-then-has g c =
    let none = clear_there (g.A.Answers.answers c.args.answers.now) c.args.key.now (entity_value c.args.entity.now) c.args.rule c.args.slot (g.C.ClearSlots.pairs c.args.clear.now) c.requires.clear (c.has.ensures c.if-has.true) in
    rw none (search rules)
