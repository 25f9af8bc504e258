use Rattle.std.proofs.Common.{◌∙◌, ap}
use Rattle.feed_values.specs.Snapshot.{entity_payloads}
use Rattle.entity_index.specs.Changes.{set_at}
use Rattle.entity_index.specs.Rooms.{HeldRoom}
use Rattle.entity_index.specs.Seats.{parts_in}
use Rattle.entity_index.proofs.renewing.set_in.Goals as goal

pub invariant_of-room : goal.invariant_of-room
invariant_of-room c =
    let i = c.room.invariant in
    record {
      seated = record {
        places_are = c.set_under.ensures.places ∙ i.seated.places_are;
        seats_are = c.set_under.ensures.seats (entity_payloads c.room.inside.kept) c.room.inside.phase i.seated.seats_are;
      };
      occurrences_are = i.occurrences_are;
    }

pub returns-clause-parts : goal.returns-clause-parts
returns-clause-parts c = c.set_under.ensures.parts ∙ ap (λ (r : HeldRoom). set_at c.args.key.now c.args.part c.args.list (parts_in r.seats)) c.room.view_is
