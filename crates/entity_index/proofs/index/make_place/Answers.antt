use Rattle.std.proofs.Common.{◌∙◌, ap}
use Rattle.entity_index.specs.Rooms.{room_of}
use Rattle.entity_index.proofs.Feeds.{one_more}
use Rattle.entity_index.proofs.index.make_place.Goals as goal

pub loop-rooms-preserved : goal.loop-rooms-preserved
loop-rooms-preserved c = λ g. ap (λ xs. room_of xs g) c.in_ok-push.ensures.items ∙ one_more c.loop-rooms.rooms.items g ∙ c.loop-rooms.invariant g
