use Rattle.std.proofs.Common.{ap}
use Rattle.rule_table.specs.Pairs.{is_id}
use Rattle.row_changes.proofs.touched.vehicle_alone.Goals as goal

pub returns : goal.returns
returns c = λ q. ap (λ t. is_id t q.vehicle) c.in_ok-vehicle.ensures
