use Rattle.run_verify.proofs.SentLemmas.{nothing_part}
use Rattle.run_verify.proofs.sending.send_line.Goals as goal

pub returns-in_err-push_verdict-clause-part : goal.returns-in_err-push_verdict-clause-part
returns-in_err-push_verdict-clause-part g c = nothing_part _ _ _
