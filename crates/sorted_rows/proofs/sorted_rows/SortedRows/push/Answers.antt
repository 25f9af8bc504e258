use Rattle.sorted_rows.proofs.More.{update_more, vehicle_more}
use Rattle.std.proofs.Common.{refl}
use Rattle.sorted_rows.proofs.sorted_rows.SortedRows.push.Goals as goal

pub returns-in_ok-push-in-TripUpdate : goal.returns-in_ok-push-in-TripUpdate
returns-in_ok-push-in-TripUpdate c rows h =
    let e = c.in_ok-push-in-TripUpdate.ensures in
    update_more c.args.self.now _ rows c.args.row c.in-TripUpdate.is (record { any = e.any; vehicles = e.vehicles; lone_trips = e.lone_trips; pairs = e.pairs; keys = e.keys }) refl h

pub returns-in_ok-push-in-Vehicle : goal.returns-in_ok-push-in-Vehicle
returns-in_ok-push-in-Vehicle c rows h =
    let e = c.in_ok-push-in-Vehicle.ensures in
    vehicle_more c.args.self.now _ rows c.args.row c.in-Vehicle.is (record { any = e.any; vehicles = e.vehicles; lone_trips = e.lone_trips; pairs = e.pairs; keys = e.keys }) refl h
