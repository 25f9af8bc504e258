use Rattle.std.specs.Prelude.{refl}
use Rattle.feed_values.specs.Views.{entity_value}
use Rattle.rule_history.specs.Answered.{local_answer, tables_of}
use Rattle.rule_clear.proofs.listed.ListedLocalRule.judge.Goals as goal

pub judge_unclear-requires : goal.judge_unclear-requires
judge_unclear-requires g c = c.at-clear.ensures c.args.key.now (local_answer (tables_of c.args.table.now) c.args.key.now (entity_value c.args.entity.now)) (λ q h. refl)
