use Rattle.std.proofs.Common.{arith}
use Rattle.trial_feed.proofs.Changing.{changing_starts, changing_goes, changing_ends}
use Rattle.trial_feed.proofs.changes.change.Goals as goal

pub loop-j-init : goal.loop-j-init
loop-j-init c = changing_starts c.args.state.now c.draw-first.result c.draw-first.new.state c.args.entities.now c.draw-first.ensures.next c.draw-first.ensures.number c.draw-first.ensures.below c.requires.whole c.requires.small

pub loop-j-preserved : goal.loop-j-preserved
loop-j-preserved c =
    changing_goes c.draw-first.result c.loop-j.j c.loop-j.state c.draw-drawn.new.state c.draw-drawn.result c.loop-j.entities c.changed.result _ _
    c.loop-j.invariant c.loop-j-test.true c.draw-drawn.ensures.next c.draw-drawn.ensures.number c.changed.ensures

pub returns : goal.returns
returns c = changing_ends c.draw-first.result c.loop-j.j c.loop-j.state c.loop-j.entities _ c.loop-j.invariant (omega arith)
