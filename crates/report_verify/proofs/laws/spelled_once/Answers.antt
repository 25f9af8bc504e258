use Rattle.report_verify.proofs.VerdictLemmas.{spelled_once_lem}
use Rattle.report_verify.proofs.laws.spelled_once.Goals as goal

pub returns : goal.returns
returns c = spelled_once_lem
