use Rattle.std.proofs.Common.{◌∙◌, ap}
use Rattle.exchanged_timetables.specs.cached_laws.State.{State}
use Rattle.exchanged_timetables.specs.entity_index.Held.{held_at}
use Rattle.follow_engine.proofs.engine.kept_in.Goals as goal

pub returns : goal.returns
returns c = c.kept_of.ensures ∙ ap (λ (x : State). (held_at x.index c.args.feed).bytes) c.feeds.view_is
