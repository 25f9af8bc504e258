use Rattle.cached_laws.proofs.Proved.{touched_can_pass}
use Rattle.cached_laws.proofs.laws.touched_can_pass.Goals as goal

pub returns : goal.returns
returns c = touched_can_pass
