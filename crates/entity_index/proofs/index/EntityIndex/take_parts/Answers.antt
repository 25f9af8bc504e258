use Rattle.std.specs.Prelude.{unwrap_or}
use Rattle.std.proofs.Common.{◌∙◌, ap, sym}
use Rattle.entity_index.specs.Changes.{emptied}
use Rattle.entity_index.specs.Held.{held_at, parts_at}
use Rattle.entity_index.specs.Lists.{no_lists}
use Rattle.entity_index.specs.Rooms.{in_room}
use Rattle.entity_index.proofs.Feeds.{held-room}
use Rattle.entity_index.proofs.index.EntityIndex.take_parts.Goals as goal

pub invariant_of-self : goal.invariant_of-self
invariant_of-self c = c.take_in_room.ensures.places c.self.invariant

pub returns-clause-taken : goal.returns-clause-taken
returns-clause-taken c =
    let f = c.args.key.now.feed in
    c.take_in_room.ensures.taken
    ∙ ap (λ h. unwrap_or (parts_at c.args.key.now h.parts) no_lists) (sym (held-room c.self.inside.rooms.items f) ∙ ap (λ i. held_at i f) c.self.view_is)

pub returns-clause-here : goal.returns-clause-here
returns-clause-here c =
    let f = c.args.key.now.feed in
    held-room c.take_in_room.new.rooms.items f ∙ c.take_in_room.ensures.here
    ∙ ap (emptied c.args.key.now) (sym (held-room c.self.inside.rooms.items f) ∙ ap (λ i. held_at i f) c.self.view_is)

pub returns-clause-others : goal.returns-clause-others
returns-clause-others c = λ g n.
    held-room c.take_in_room.new.rooms.items g ∙ ap in_room (c.take_in_room.ensures.others g n) ∙ sym (held-room c.self.inside.rooms.items g) ∙ ap (λ i. held_at i g) c.self.view_is
