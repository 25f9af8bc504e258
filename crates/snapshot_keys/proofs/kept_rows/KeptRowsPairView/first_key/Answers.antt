use Rattle.std.specs.Coded.{Coded-set, coded_option}
use Rattle.std.proofs.Math.Logic.{∥∥₁_elim}
use Rattle.rule_table.specs.contracts.key.EntityKey as entity_key
use Rattle.snapshot_keys.specs.Rowed.{rows_in}
use Rattle.snapshot_keys.proofs.kept_rows.KeptRowsPairView.first_key.Goals as goal

pub returns : goal.returns
returns c = ∥∥₁_elim c.args.self.now.answers (Coded-set (coded_option (entity_key.the_row).coded) _ _) (λ a. c.first_key.ensures (rows_in c.args.self.now) a)
