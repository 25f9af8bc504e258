-- Verdicts without their findings.
use Rattle.report_verify.specs.declared.verdict.Verdict.{Verdict}
use Rattle.report_verify.specs.declared.verdict.Verdict.TheVariants as verdict
use Rattle.run_verify.specs.declared.judged.Judged.{Judged}
use Rattle.run_verify.specs.declared.judged.Judged.TheVariants.{Confirmed, Denied, Malformed, Other}

abbrev pub judged_of : Verdict → Judged
judged_of (verdict.Confirmed f since) = Confirmed
judged_of verdict.Denied = Denied
judged_of verdict.Malformed = Malformed
judged_of verdict.Other = Other
