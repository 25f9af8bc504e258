use Rattle.std.proofs.Common.{List, sym, subst}
use Rattle.rule_table.specs.Found.{Found}
use Rattle.engine_laws.specs.Order.{found_cmp, Rises}
use Rattle.engine_laws.proofs.Ascending.{head_ascends}
use Rattle.held_feeds.specs.cached_laws.State.{feed_of}
use Rattle.held_feeds.specs.States.{state_of}
use Rattle.snapshot_steps.specs.Taken.{snapshot_of}
use Rattle.snapshot_steps.proofs.renewing.renew_header.Goals as goal

pub renew-requires-clause-found : goal.renew-requires-clause-found
renew-requires-clause-found g c = subst (λ (fs : List Found). Rises found_cmp fs) (sym c.in_ok-found.ensures.found) (head_ascends (snapshot_of c.args.taken.now) (feed_of (state_of c.args.held.now) c.args.taken.now.feed).last)
