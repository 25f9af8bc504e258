-- What a room holds.
use Rattle.std.specs.Prelude.{◌≡◌, []}
use Rattle.feed_values.specs.Snapshot.{entity_payloads}
use Rattle.entity_index.specs.Seats.{AreSeats, occurrences_after}
use Rattle.entity_index.specs.declared.room.Room.TheInside.{Inside}

pub record IsRoom (r : Inside) : Type 0 where
  pub seated : AreSeats r.feed (entity_payloads r.kept) r.phase r.entries.entries
  pub occurrences_are : r.occurrences.items ≡ occurrences_after [] (entity_payloads r.kept)
