use Rattle.report_verify.proofs.VerdictLemmas.{verdict_is_one_lem}
use Rattle.report_verify.proofs.laws.verdict_is_one.Goals as goal

pub returns : goal.returns
returns c = verdict_is_one_lem
