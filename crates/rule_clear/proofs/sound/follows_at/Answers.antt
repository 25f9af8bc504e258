use Rattle.std.proofs.Common.{arith, ◌<◌, ◌-◌, length}
use Rattle.feed_values.specs.Views.{entity_value}
use Rattle.rule_clear.proofs.StopWays.{read_at, follows_there}
use Rattle.rule_clear.proofs.sound.follows_at.Goals as goal

pub returns : goal.returns
returns c h =
    let e = entity_value c.args.entity.now in
    let stops = c.args.stops.now in
    let i = c.args.index in
    let before = c.index-stops-index.result in
    let stop = c.index-stops-index-2.result in
    let below : i - 1 < length stops = omega (arith, c.requires.within) in
    let first = read_at e stops (i - 1) before c.requires.updates below c.index-stops-index.is in
    let second = read_at e stops i stop c.requires.updates c.requires.within c.index-stops-index-2.is in
    follows_there e i before stop first second (c.follows.ensures h)
