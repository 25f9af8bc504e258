use Rattle.std.proofs.Common.{◌∙◌, List, ap, refl}
use Rattle.std.specs.List.{flat_map}
use Rattle.held_feeds.specs.States.{HandedFeed}
use Rattle.held_feeds.specs.Entities.{entities_said}
use Rattle.held_feeds.proofs.Handing.{all_feeds}
use Rattle.held_feeds.proofs.entities.EntitiesIter.new.Goals as goal

pub returns : goal.returns
returns c = ap (λ (fs : List HandedFeed). flat_map (λ feed. entities_said feed.last) fs) (c.new.ensures 256 refl) ∙ all_feeds c.args.feeds.now (λ feed. entities_said feed.last) 256 refl
