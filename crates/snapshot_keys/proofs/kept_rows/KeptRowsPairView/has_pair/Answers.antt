use Rattle.std.proofs.Math.Bool.{Bool-set}
use Rattle.std.proofs.Math.Logic.{∥∥₁_elim}
use Rattle.snapshot_keys.specs.Rowed.{rows_in}
use Rattle.snapshot_keys.proofs.kept_rows.KeptRowsPairView.has_pair.Goals as goal

pub returns : goal.returns
returns c = ∥∥₁_elim c.args.self.now.answers (Bool-set _ _) (λ a. c.has_pair.ensures (rows_in c.args.self.now) a)
