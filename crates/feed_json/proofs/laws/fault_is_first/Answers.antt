use Rattle.feed_json.proofs.Walking.{fault_is_first}
use Rattle.feed_json.proofs.laws.fault_is_first.Goals as goal

pub returns : goal.returns
returns c = fault_is_first
