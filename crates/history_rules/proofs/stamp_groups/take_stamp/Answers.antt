use Rattle.std.proofs.Common.{◌∙◌}
use Rattle.history_rules.proofs.StampGroups.{stamp_gone}
use Rattle.history_rules.proofs.stamp_groups.take_stamp.Goals as goal

pub returns-then-take_key : goal.returns-then-take_key
returns-then-take_key c = λ at k. stamp_gone c.args.moment c.take_key.new.groups c.remove.new.self c.remove.ensures.updates.0 (c.take_key.ensures.empty c.if-take_key.true) at k ∙ c.take_key.ensures.keys at k
