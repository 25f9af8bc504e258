use Rattle.std.proofs.Common.{◌∙◌}
use Rattle.rule_history.specs.Answered.{tables_of}
use Rattle.follow_engine.proofs.Lasts.{bytes_stand}
use Rattle.follow_engine.proofs.engine.Engine.kept_of.Goals as goal

pub returns : goal.returns
returns c = λ t h m. c.kept_in.ensures ∙ bytes_stand (tables_of c.args.self.now.table) c.args.self.now.applied c.args.self.now.feeds c.stands.ensures t h m c.args.feed
