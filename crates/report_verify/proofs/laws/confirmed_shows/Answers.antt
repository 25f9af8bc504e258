use Rattle.report_verify.proofs.VerdictLemmas.{confirmed_shows_lem}
use Rattle.report_verify.proofs.laws.confirmed_shows.Goals as goal

pub returns : goal.returns
returns c = confirmed_shows_lem
