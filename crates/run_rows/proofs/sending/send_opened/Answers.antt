use Rattle.std.proofs.Common.{◌∙◌, ◌++◌, ◌+◌, ap, arith, drop, subst}
use Rattle.std.specs.List.{flat_map}
use Rattle.rt_outside.specs.Sink.{AppendsPrefix}
use Rattle.follow_engine.specs.Deltas.{all_opened, opened_value}
use Rattle.rt_report.specs.declared.finding.LineKind.TheVariants as line
use Rattle.rt_report.specs.FindingLines.{standing_text}
use Rattle.run_base.specs.Sending.{SendsText}
use Rattle.run_rows.proofs.Sent.{at_err, opened_from, sends_cut, sends_on, sends_part}
use Rattle.run_rows.proofs.sending.send_opened.Goals as goal

-- no memory was found for a line
pub returns-in_err-line-clause-part : goal.returns-in_err-line-clause-part
returns-in_err-line-clause-part g c =
    at_err c.from_residual.result
    (sends_part (g.S.Sink.state c.args.out.now).written (g.S.Sink.state c.loop-open.out).written (c.args.text.now.items ++ flat_map (standing_text line.Opened) (all_opened c.args.opened.now)) _ c.loop-open.invariant.sent)

-- or what is held back couldn't be written
pub returns-in_err-send_line-clause-part : goal.returns-in_err-send_line-clause-part
returns-in_err-send_line-clause-part g c =
    let before = (g.S.Sink.state c.args.out.now).written in
    let mid = (g.S.Sink.state c.loop-open.out).written in
    let now = (g.S.Sink.state c.send_line.new.out).written in
    let all = c.args.text.now.items ++ flat_map (standing_text line.Opened) (all_opened c.args.opened.now) in
    let told = standing_text line.Opened (opened_value c.open-item.result) in
    let held = c.loop-open.text.items in
    let left = flat_map (standing_text line.Opened) (all_opened (drop (c.loop-open.open-index + 1) c.args.opened.now)) in
    at_err c.from_residual-in_err-send_line.result
    (sends_cut before mid now all held told left
    (subst (λ t. SendsText before mid all (held ++ t)) (opened_from c.args.opened.now c.loop-open.open-index c.open-item.result c.loop-open-test.true c.open-item.is) c.loop-open.invariant.sent)
    (subst (λ t. AppendsPrefix mid now (held ++ t)) (c.deref-in-loop-open.ensures.value ∙ c.in_ok-line.ensures ∙ ap (λ f. standing_text line.Opened (record { finding = f; since = c.open-item.result.since })) c.deref.ensures) c.in_err-send_line.ensures.part))

-- one line more
pub loop-open-preserved : goal.loop-open-preserved
loop-open-preserved g c =
    let before = (g.S.Sink.state c.args.out.now).written in
    let mid = (g.S.Sink.state c.loop-open.out).written in
    let now = (g.S.Sink.state c.send_line.new.out).written in
    let all = c.args.text.now.items ++ flat_map (standing_text line.Opened) (all_opened c.args.opened.now) in
    let told = standing_text line.Opened (opened_value c.open-item.result) in
    let held = c.loop-open.text.items in
    let left = flat_map (standing_text line.Opened) (all_opened (drop (c.loop-open.open-index + 1) c.args.opened.now)) in
    record {
      sent = sends_on before mid now all held told left
          (subst (λ t. SendsText before mid all (held ++ t)) (opened_from c.args.opened.now c.loop-open.open-index c.open-item.result c.loop-open-test.true c.open-item.is) c.loop-open.invariant.sent)
          c.send_line.new.text.items (subst (λ t. SendsText mid now (held ++ t) c.send_line.new.text.items) (c.deref-in-loop-open.ensures.value ∙ c.in_ok-line.ensures ∙ ap (λ f. standing_text line.Opened (record { finding = f; since = c.open-item.result.since })) c.deref.ensures) c.in_ok-send_line.ensures.sent);
      later = omega (arith, c.loop-open.invariant.later, c.in_ok-send_line.ensures.later);
    }
