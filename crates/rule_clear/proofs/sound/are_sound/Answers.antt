use Rattle.std.proofs.Common.{rules, arith, ◌≡◌, ◌+◌, suc}
use Rattle.feed_values.specs.Views.{entity_value}
use Rattle.rule_clear.proofs.StopWays.{read_at, sound_there}
use Rattle.rule_clear.proofs.sound.are_sound.Goals as goal

pub loop-index-preserved : goal.loop-index-preserved
loop-index-preserved c =
    let e = entity_value c.args.entity.now in
    let stop = c.index-stops-index.result in
    let next : c.loop-index.index + 1 ≡ suc c.loop-index.index = omega arith in
    let there = read_at e c.args.stops.now c.loop-index.index stop c.requires c.loop-index-test.true c.index-stops-index.is in
    rw next (c.loop-index.invariant, (c.follows_at.ensures (search rules), sound_there e c.loop-index.index stop there (c.is_sound.ensures (search rules))))
