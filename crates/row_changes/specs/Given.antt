-- What an entity gives that may be there under a key: its pairing rows and its timestamps.
-- (GTFS Realtime Reference 2.0, "TripUpdate" and "VehiclePosition".)
use Rattle.std.specs.Prelude.{ℕ, ◌==◌, ℤ, pos, negsuc, Bool, false, ◌&&◌, ◌||◌, List, [], ◌∷◌, Option, Some, None, option_and_then}
use Rattle.feed_values.specs.Schema.{Value}
use Rattle.feed_values.specs.Messages.{entity, trip_update, vehicle_position}
use Rattle.rule_table.specs.declared.key.EntityKey.{EntityKey}
use Rattle.rule_table.specs.declared.kind.Kind.{Kind}
use Rattle.rule_table.specs.Order.{same_key}
use Rattle.rule_table.specs.Judged.{update_of}
use Rattle.rule_table.specs.Pairs.{PairRow, GivenIds, rows_of, row_with, vehicle_of}
use Rattle.history_rules.specs.Stamps.{Stamp}

abbrev pub rows_under : EntityKey → Option (Value entity) → List PairRow
rows_under key None = []
rows_under key (Some e) = rows_of key e

-- the row of a message of one kind that may be there and gives ids
abbrev pub id_rows : Kind → EntityKey → Option GivenIds → List PairRow
id_rows kind key None = []
id_rows kind key (Some ids) = row_with kind key ids ∷ []

-- ---- timestamps
abbrev pub time_of_update : Value trip_update → Option ℤ
time_of_update update = update.1.1.1.0

abbrev pub time_of_vehicle : Value vehicle_position → Option ℤ
time_of_vehicle vehicle = vehicle.1.1.1.1.0

-- those of an entity's trip update and of its vehicle position
abbrev pub update_time : Value entity → Option ℤ
update_time e = option_and_then time_of_update (update_of e)

abbrev pub vehicle_time : Value entity → Option ℤ
vehicle_time e = option_and_then time_of_vehicle (vehicle_of e)

abbrev pub is_time : ℕ → Option ℤ → Bool
is_time n None = false
is_time n (Some (pos m)) = m == n
is_time n (Some (negsuc m)) = false

-- whether an entity that may be there gives a timestamp
abbrev pub gives_time : Option (Value entity) → ℕ → Bool
gives_time None n = false
gives_time (Some e) n = is_time n (update_time e) || is_time n (vehicle_time e)

-- whether a stamp is one that an entity under its key gives, of the feed of that key
abbrev pub is_given : Option (Value entity) → Stamp → Bool
is_given o s = s.at.feed == s.key.feed && gives_time o s.at.stamp

-- whether an entity that may be there under a key gives a stamp
abbrev pub is_given_under : EntityKey → Option (Value entity) → Stamp → Bool
is_given_under key o s = same_key key s.key && is_given o s
