use Rattle.std.proofs.Common.{◌∙◌}
use Rattle.held_feeds.proofs.Handing.{held_said}
use Rattle.held_feeds.proofs.entities.entities_of.Goals as goal

pub returns : goal.returns
returns c = c.entities.ensures ∙ held_said c.args.held.now.index c.args.held.now.headers.items c.args.held.now.peaks c.args.feed
