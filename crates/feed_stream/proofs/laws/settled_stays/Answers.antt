use Rattle.feed_stream.proofs.Settled.{settled_stays}
use Rattle.feed_stream.proofs.laws.settled_stays.Goals as goal

pub returns : goal.returns
returns c = settled_stays
