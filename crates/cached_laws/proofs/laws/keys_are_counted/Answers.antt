use Rattle.cached_laws.proofs.Proved.{keys_are_counted}
use Rattle.cached_laws.proofs.laws.keys_are_counted.Goals as goal

pub returns : goal.returns
returns c = keys_are_counted
