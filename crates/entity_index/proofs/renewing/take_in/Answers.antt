use Rattle.std.specs.Prelude.{unwrap_or}
use Rattle.std.proofs.Common.{◌∙◌, ap}
use Rattle.feed_values.specs.Snapshot.{entity_payloads}
use Rattle.entity_index.specs.Changes.{changed_under}
use Rattle.entity_index.specs.Held.{parts_at}
use Rattle.entity_index.specs.Lists.{no_lists}
use Rattle.entity_index.specs.Rooms.{HeldRoom}
use Rattle.entity_index.specs.Seats.{parts_in}
use Rattle.entity_index.proofs.renewing.take_in.Goals as goal

pub invariant_of-room : goal.invariant_of-room
invariant_of-room c =
    let i = c.room.invariant in
    record {
      seated = record {
        places_are = c.take_under.ensures.places ∙ i.seated.places_are;
        seats_are = c.take_under.ensures.seats (entity_payloads c.room.inside.kept) c.room.inside.phase i.seated.seats_are;
      };
      occurrences_are = i.occurrences_are;
    }

pub returns-clause-taken : goal.returns-clause-taken
returns-clause-taken c = c.take_under.ensures.taken ∙ ap (λ (r : HeldRoom). unwrap_or (parts_at c.args.key.now (parts_in r.seats)) no_lists) c.room.view_is

pub returns-clause-parts : goal.returns-clause-parts
returns-clause-parts c = c.take_under.ensures.parts ∙ ap (λ (r : HeldRoom). changed_under c.args.key.now (λ l. no_lists) (parts_in r.seats)) c.room.view_is
