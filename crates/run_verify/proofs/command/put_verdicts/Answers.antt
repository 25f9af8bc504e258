use Rattle.std.proofs.Common.{◌++◌, ap, ◌∙◌}
use Rattle.rt_outside.proofs.Appends.{AppendsPrefix-whole}
use Rattle.snapshot_lines.specs.Lines.{line_of}
use Rattle.run_base.specs.Report.{found}
use Rattle.run_verify.specs.Lines.{counts_of, is_bad, lines_in, sum, verdicts_text}
use Rattle.run_verify.proofs.PutLemmas.{begun, broken, done}
use Rattle.run_verify.proofs.command.put_verdicts.Goals as goal

pub returns-in_err-push_sum-clause-text : goal.returns-in_err-push_sum-clause-text
returns-in_err-push_sum-clause-text g c =
    begun _ _ _ (verdicts_text 1 (lines_in c.args.report.now)) _ c.new-text.ensures.items c.in_ok-counts.ensures.sent (line_of (sum (counts_of (lines_in c.args.report.now))))

pub returns-in_err-put_all-clause-text : goal.returns-in_err-put_all-clause-text
returns-in_err-put_all-clause-text g c =
    broken _ _ _ (verdicts_text 1 (lines_in c.args.report.now)) _ c.new-text.ensures.items c.in_ok-counts.ensures.sent _ (line_of (sum (counts_of (lines_in c.args.report.now)))) c.deref.result.now
    (c.deref.ensures.value ∙ c.in_ok-push_sum.ensures ∙ ap (λ k. c.send_verdicts.new.text.items ++ line_of (sum k)) c.in_ok-counts.ensures.counts) c.in_err-put_all.ensures.err

pub returns-clause-text : goal.returns-clause-text
returns-clause-text g c =
    AppendsPrefix-whole _ _ _
    (done _ _ _ (verdicts_text 1 (lines_in c.args.report.now)) _ c.new-text.ensures.items c.in_ok-counts.ensures.sent _ (line_of (sum (counts_of (lines_in c.args.report.now)))) c.deref.result.now
    (c.deref.ensures.value ∙ c.in_ok-push_sum.ensures ∙ ap (λ k. c.send_verdicts.new.text.items ++ line_of (sum k)) c.in_ok-counts.ensures.counts) c.in_ok-put_all.ensures.ok)

pub returns-clause-whole : goal.returns-clause-whole
returns-clause-whole g c = (
  c.found.ensures.answer ∙ ap found (c.is_bad.ensures ∙ ap is_bad c.in_ok-counts.ensures.counts),
  done _ _ _ (verdicts_text 1 (lines_in c.args.report.now)) _ c.new-text.ensures.items c.in_ok-counts.ensures.sent _ (line_of (sum (counts_of (lines_in c.args.report.now)))) c.deref.result.now
      (c.deref.ensures.value ∙ c.in_ok-push_sum.ensures ∙ ap (λ k. c.send_verdicts.new.text.items ++ line_of (sum k)) c.in_ok-counts.ensures.counts) c.in_ok-put_all.ensures.ok,
)
