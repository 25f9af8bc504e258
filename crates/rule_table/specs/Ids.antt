-- The ids that the trip update and the vehicle position of an entity give.
use Rattle.std.specs.Prelude.{Bool, false, ◌&&◌, Option, Some, None, option_map, option_copied}
use Rattle.feed_values.specs.Schema.{Value}
use Rattle.feed_values.specs.Messages.{entity}
use Rattle.rule_table.specs.Judged.{update_of}
pub use Rattle.rule_table.specs.Pairs.{GivenIds, of_update, of_vehicle}
use Rattle.rule_table.specs.Pairs.{vehicle_of, same_id}
use Rattle.rule_table.specs.declared.ids.Ids.{Ids}

abbrev pub ids_value : Ids → GivenIds
ids_value ids = record { trip = option_copied ids.trip; vehicle = option_copied ids.vehicle }

abbrev pub update_ids : Value entity → Option GivenIds
update_ids e = option_map of_update (update_of e)

abbrev pub vehicle_ids : Value entity → Option GivenIds
vehicle_ids e = option_map of_vehicle (vehicle_of e)

abbrev pub same_ids : GivenIds → Option GivenIds → Bool
same_ids a None = false
same_ids a (Some b) = same_id a.trip b.trip && same_id a.vehicle b.vehicle
