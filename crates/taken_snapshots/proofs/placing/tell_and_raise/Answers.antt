use Rattle.std.proofs.Common.{◌∙◌, List, ap}
use Rattle.rule_history.specs.Answered.{tables_of}
use Rattle.rule_history.specs.Standing.{Standing}
use Rattle.snapshot_steps.specs.cached_laws.State.{HeldHeader, feed_of}
use Rattle.snapshot_steps.specs.cached_laws.PassableProofs.{in_order_held}
use Rattle.snapshot_steps.specs.held_feeds.States.{state_of}
use Rattle.taken_snapshots.proofs.placing.tell_and_raise.Goals as goal

pub tell_first-requires-clause-ordered : goal.tell_first-requires-clause-ordered
tell_first-requires-clause-ordered g c = λ k part. in_order_held (tables_of c.args.judging.now.table.now) c.args.held.now.index (feed_of (state_of c.args.held.now)) c.requires.cached k part

pub returns-clause-header : goal.returns-clause-header
returns-clause-header g c = c.in_ok-put_header.ensures.here ∙ ap (λ (xs : List Standing). let h : HeldHeader = record { moment = c.args.taken.now.moment; list = xs } in h) c.in_ok-list.ensures.list
