use Rattle.std.proofs.Common.{◌∙◌, ap, sym}
use Rattle.entity_index.specs.Changes.{with_part}
use Rattle.entity_index.specs.Held.{held_at}
use Rattle.entity_index.specs.Rooms.{in_room}
use Rattle.entity_index.proofs.Feeds.{held-room}
use Rattle.entity_index.proofs.index.EntityIndex.set_part.Goals as goal

pub invariant_of-self : goal.invariant_of-self
invariant_of-self c = c.set_in_room.ensures.places c.self.invariant

pub returns-clause-here : goal.returns-clause-here
returns-clause-here c =
    let f = c.args.key.now.feed in
    held-room c.set_in_room.new.rooms.items f ∙ c.set_in_room.ensures.here
    ∙ ap (with_part c.args.key.now c.args.part c.args.list) (sym (held-room c.self.inside.rooms.items f) ∙ ap (λ i. held_at i f) c.self.view_is)

pub returns-clause-others : goal.returns-clause-others
returns-clause-others c = λ g n.
    held-room c.set_in_room.new.rooms.items g ∙ ap in_room (c.set_in_room.ensures.others g n) ∙ sym (held-room c.self.inside.rooms.items g) ∙ ap (λ i. held_at i g) c.self.view_is
