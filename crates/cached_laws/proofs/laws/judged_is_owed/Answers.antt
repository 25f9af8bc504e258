use Rattle.cached_laws.proofs.Proved.{judged_is_owed}
use Rattle.cached_laws.proofs.laws.judged_is_owed.Goals as goal

pub returns : goal.returns
returns c = judged_is_owed
