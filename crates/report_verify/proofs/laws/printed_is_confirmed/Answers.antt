use Rattle.report_verify.proofs.VerdictLemmas.{printed_is_confirmed_lem}
use Rattle.report_verify.proofs.laws.printed_is_confirmed.Goals as goal

pub returns : goal.returns
returns c = printed_is_confirmed_lem
