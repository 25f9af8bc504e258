use Rattle.std.proofs.Common.{ap, ◌∙◌}
use Rattle.std.proofs.Math.Bool.{or-false}
use Rattle.rule_table.specs.Pairs.{is_id}
use Rattle.row_changes.proofs.touched.trip_alone.Goals as goal

pub returns : goal.returns
returns c = λ q. or-false (is_id c.in_ok-trip.trip q.trip) ∙ ap (λ t. is_id t q.trip) c.in_ok-trip.ensures
