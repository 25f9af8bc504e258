use Rattle.std.proofs.Common.{◌∙◌}
use Rattle.feed_values.specs.Meaning.{fields}
use Rattle.snapshot_keys.proofs.Found.{update_is, vehicle_is}
use Rattle.snapshot_keys.proofs.ids.both_ids.Goals as goal

pub returns-clause-update : goal.returns-clause-update
returns-clause-update c = c.in_ok-texts_of.ensures 3 3 (fields c.args.entity.now) c.at-found.ensures.update ∙ update_is (fields c.args.entity.now)

pub returns-clause-vehicle : goal.returns-clause-vehicle
returns-clause-vehicle c = c.in_ok-texts_of-2.ensures 4 8 (fields c.args.entity.now) c.at-found.ensures.vehicle ∙ vehicle_is (fields c.args.entity.now)
