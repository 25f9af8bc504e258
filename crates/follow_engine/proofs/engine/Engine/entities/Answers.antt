use Rattle.std.proofs.Common.{◌∙◌}
use Rattle.rule_history.specs.Answered.{tables_of}
use Rattle.follow_engine.proofs.Handed.{handed_few, handed_rise}
use Rattle.follow_engine.proofs.Lasts.{entities_stand}
use Rattle.follow_engine.proofs.engine.Engine.entities.Goals as goal

pub returns-clause-after : goal.returns-clause-after
returns-clause-after c = λ t h st. c.new.ensures ∙ entities_stand (tables_of c.args.self.now.table) c.args.self.now.applied c.args.self.now.feeds c.stands.ensures t h st

pub returns-clause-ordered : goal.returns-clause-ordered
returns-clause-ordered c = handed_rise c.args.self.now.feeds

pub returns-clause-few : goal.returns-clause-few
returns-clause-few c = handed_few c.args.self.now.feeds c.stands.ensures
