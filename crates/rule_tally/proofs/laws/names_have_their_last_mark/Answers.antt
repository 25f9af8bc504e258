use Rattle.std.proofs.Common.{[]}
use Rattle.rule_tally.proofs.MarkLaws.{all_marked, marks_rise}
use Rattle.rule_tally.proofs.laws.names_have_their_last_mark.Goals as goal

pub returns-clause-last : goal.returns-clause-last
returns-clause-last c = λ given name. all_marked name [] given

pub returns-clause-once : goal.returns-clause-once
returns-clause-once c = λ given. marks_rise given
