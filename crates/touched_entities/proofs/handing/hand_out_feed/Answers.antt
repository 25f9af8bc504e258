use Rattle.std.proofs.Common.{◌≡◌, ap, subst, map}
use Rattle.rule_table.specs.declared.key.EntityKey.{EntityKey}
use Rattle.rule_table.specs.Order.{key_cmp}
use Rattle.rule_table.specs.Rises.{Rises}
use Rattle.touched_entities.specs.Told.{FeedTold, Told}
use Rattle.touched_entities.proofs.Rising.{keys_rise}
use Rattle.touched_entities.proofs.handing.hand_out_feed.Goals as goal

pub returns-clause-ordered : goal.returns-clause-ordered
returns-clause-ordered c =
    subst (λ (x : FeedTold). Rises key_cmp (map (λ e. e.0) x.entities)) c.feed.view_is (keys_rise c.feed.inside.entities.entries c.len-count.ensures.ordered)
