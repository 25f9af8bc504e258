use Rattle.std.proofs.Common.{◌∙◌}
use Rattle.snapshot_steps.specs.cached_laws.State.{feed_of}
use Rattle.snapshot_steps.specs.held_feeds.States.{state_of}
use Rattle.snapshot_steps.specs.Taken.{snapshot_of}
use Rattle.snapshot_steps.proofs.Raised.{peaks_then}
use Rattle.taken_snapshots.proofs.placing.place.Goals as goal

pub returns-clause-taken_in : goal.returns-clause-taken_in
returns-clause-taken_in g c =
    let state = state_of c.args.held in
    let s = snapshot_of c.args.taken in
    record {
      entities_are = rw c.tell_and_raise.ensures.index at c.in_ok-index.ensures;
      header_is = c.in_ok-tolds.ensures.header;
      others_stay = c.in_ok-tolds.ensures.others;
      peaks_are = λ f vehicle. c.in_ok-tolds.ensures.peaks f vehicle ∙ peaks_then state s c.requires.state c.requires.taken c.requires.feed c.args.rises.now c.requires.rises f vehicle;
    }
