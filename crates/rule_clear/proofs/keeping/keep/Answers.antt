use Rattle.feed_values.specs.Views.{entity_value}
use Rattle.rule_clear.proofs.StopWays.{read_at}
use Rattle.rule_clear.proofs.keeping.keep.Goals as goal

pub keeps-requires-clause-stop : goal.keeps-requires-clause-stop
keeps-requires-clause-stop c = read_at (entity_value c.args.entity.now) c.args.stops.now c.loop-index.index c.index-stops-index.result c.requires c.loop-index-test.true c.index-stops-index.is
