use Rattle.row_changes.specs.Ids.{has_text, new_trip, new_vehicle}
use Rattle.row_changes.proofs.Noted.{put-both}
use Rattle.row_changes.proofs.ids.ChangedIds.put_new.Goals as goal

pub returns-clause-trips : goal.returns-clause-trips
returns-clause-trips c = λ q.
    put-both (new_trip q) (has_text c.args.self.now.trips q) (has_text c.put.new.self.trips q) (has_text c.put-2.new.self.trips q) _ _ _ _ _ _ _ _ (c.in_ok-put.ensures.trips q) (c.in_ok-put-2.ensures.trips q)
    c.given_update-update.ensures c.given_update-other_update.ensures c.given_vehicle-vehicle.ensures c.given_vehicle-other_vehicle.ensures

pub returns-clause-vehicles : goal.returns-clause-vehicles
returns-clause-vehicles c = λ q.
    put-both (new_vehicle q) (has_text c.args.self.now.vehicles q) (has_text c.put.new.self.vehicles q) (has_text c.put-2.new.self.vehicles q) _ _ _ _ _ _ _ _ (c.in_ok-put.ensures.vehicles q) (c.in_ok-put-2.ensures.vehicles q)
    c.given_update-update.ensures c.given_update-other_update.ensures c.given_vehicle-vehicle.ensures c.given_vehicle-other_vehicle.ensures
