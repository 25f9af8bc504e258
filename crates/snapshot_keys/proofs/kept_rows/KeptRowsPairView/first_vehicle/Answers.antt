use Rattle.std.specs.Coded.{Coded-set, coded_list, coded_option, coded_ℕ}
use Rattle.std.proofs.Math.Logic.{∥∥₁_elim}
use Rattle.snapshot_keys.specs.Rowed.{rows_in}
use Rattle.snapshot_keys.proofs.kept_rows.KeptRowsPairView.first_vehicle.Goals as goal

pub returns : goal.returns
returns c = ∥∥₁_elim c.args.self.now.answers (Coded-set (coded_option (coded_list coded_ℕ)) _ _) (λ a. c.first_vehicle.ensures (rows_in c.args.self.now) a)
