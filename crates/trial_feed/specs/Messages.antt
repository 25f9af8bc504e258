-- The entities and snapshots of the trial. (GTFS Realtime Reference 2.0, "Elements"; which they are is this profile's.)
use Rattle.std.specs.Prelude.{ℕ, ◌+◌, ◌*◌, ◌%◌, ◌==◌, pos, List, [], ◌∷◌, ◌++◌, map, Some, None, codes, decimal, if◌then◌else◌}
use Rattle.std.specs.List.{enumerate_from}
use Rattle.feed_values.specs.declared.trip_descriptor.TripDescriptor.{TripDescriptor}
use Rattle.feed_values.specs.declared.vehicle_descriptor.VehicleDescriptor.{VehicleDescriptor}
use Rattle.feed_values.specs.declared.stop_time_update.StopTimeUpdate.{StopTimeUpdate}
use Rattle.feed_values.specs.declared.entity.Entity.{Entity}
use Rattle.feed_values.specs.declared.feed_header.FeedHeader.{FeedHeader}
use Rattle.feed_values.specs.declared.feed_message.FeedMessage.{FeedMessage}
use Rattle.feed_values.specs.Schema.{Value}
use Rattle.feed_values.specs.Messages.{feed_message}
use Rattle.feed_values.specs.Views.{feed_message_value}
use Rattle.feed_values.specs.Canonical.{canonical}
use Rattle.trial_feed.specs.declared.letter.Letter.{Letter}
use Rattle.trial_feed.specs.declared.letter.Letter.TheVariants.{V, W}
use Rattle.trial_feed.specs.declared.entity_state.EntityState.{EntityState}
use Rattle.trial_feed.specs.Moving.{Moving}

-- when the first snapshot was taken, and when all progress was measured: POSIX time, in seconds
abbrev pub start_time : ℕ
start_time = 1700000000

-- a letter and a number behind it
abbrev pub numbered : List ℕ → ℕ → List ℕ
numbered letter k = letter ++ decimal k

abbrev pub letter_text : Letter → List ℕ
letter_text V = codes "v"
letter_text W = codes "w"

-- trip k, which is SCHEDULED
abbrev pub trip_of : ℕ → TripDescriptor
trip_of k = record {
  trip_id = Some (numbered (codes "T") k);
  start_time = None;
  start_date = None;
  schedule_relationship = Some 0;
  route_id = None;
  direction_id = None;
  unknown = [];
}

abbrev pub vehicle_of : ℕ → Letter → VehicleDescriptor
vehicle_of k letter = record { id = Some (numbered (letter_text letter) k); label = None; license_plate = None; unknown = [] }

-- the arrival at the stop with sequence 1, so many seconds late
abbrev pub stop_update : ℕ → StopTimeUpdate
stop_update delay = record {
  stop_sequence = Some 1;
  arrival = Some (record { delay = Some (pos delay); time = None; uncertainty = None; unknown = [] });
  departure = None;
  stop_id = None;
  schedule_relationship = Some 0;
  stop_time_properties = None;
  unknown = [];
}

-- entity k of feed 0
abbrev pub update_entity : ℕ → EntityState → Entity
update_entity k e = record {
  id = numbered (codes "u") k;
  is_deleted = None;
  trip_update = Some (record {
    trip = trip_of k;
    stop_time_update = stop_update e.number ∷ [];
    vehicle = Some (vehicle_of k e.letter);
    timestamp = Some start_time;
    delay = None;
    trip_properties = None;
    unknown = [];
  });
  vehicle = None;
  alert = None;
  unknown = [];
}

-- entity k of feed 1
abbrev pub position_entity : ℕ → EntityState → Entity
position_entity k e = record {
  id = numbered (codes "p") k;
  is_deleted = None;
  trip_update = None;
  vehicle = Some (record {
    trip = Some (trip_of k);
    position = None;
    current_stop_sequence = Some e.number;
    current_status = None;
    timestamp = Some start_time;
    congestion_level = None;
    stop_id = None;
    vehicle = Some (vehicle_of k e.letter);
    occupancy_status = None;
    unknown = [];
  });
  alert = None;
  unknown = [];
}

-- entity k of a feed
abbrev pub entity_of : ℕ → ℕ → EntityState → Entity
entity_of feed k e = if feed == 0 then update_entity k e else position_entity k e

-- what moves of the entities of a feed
abbrev pub states_of : ℕ → Moving → List EntityState
states_of feed m = if feed == 0 then m.updates else m.positions

-- the entities of a feed, by rising number
abbrev pub entities_of : ℕ → List EntityState → List Entity
entities_of feed states = map (λ e. entity_of feed e.0 e.1) (enumerate_from 0 states)

-- ---- snapshots
-- the feed of a snapshot, and its moment: one every 15 seconds
abbrev pub feed_of : ℕ → ℕ
feed_of number = number % 2

abbrev pub moment_of : ℕ → ℕ
moment_of number = start_time + 15 * number

-- of version 2.0, FULL_DATASET
abbrev pub header_of : ℕ → FeedHeader
header_of number = record {
  gtfs_realtime_version = codes "2.0";
  incrementality = Some 0;
  timestamp = Some (moment_of number);
  feed_version = None;
  unknown = [];
}

-- snapshot `number`, where m is what it shows
abbrev pub snapshot_message : ℕ → Moving → FeedMessage
snapshot_message number m = record {
  header = header_of number;
  entity = entities_of (feed_of number) (states_of (feed_of number) m);
  unknown = [];
}

abbrev pub snapshot_value : ℕ → Moving → Value feed_message
snapshot_value number m = feed_message_value (snapshot_message number m)

-- its bytes
unfoldable pub snapshot_bytes : ℕ → Moving → List ℕ
snapshot_bytes number m = canonical feed_message (snapshot_value number m)
