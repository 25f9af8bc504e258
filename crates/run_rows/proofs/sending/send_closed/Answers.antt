use Rattle.std.proofs.Common.{◌∙◌, ◌++◌, ◌+◌, arith, drop, subst}
use Rattle.std.specs.List.{flat_map}
use Rattle.rt_outside.specs.Sink.{AppendsPrefix}
use Rattle.follow_engine.specs.Deltas.{all_closed, closed_value}
use Rattle.rt_report.specs.FindingLines.{closed_text}
use Rattle.run_base.specs.Sending.{SendsText}
use Rattle.run_rows.proofs.Sent.{at_err, closed_from, sends_cut, sends_on, sends_part}
use Rattle.run_rows.proofs.sending.send_closed.Goals as goal

-- no memory was found for a line
pub returns-in_err-line-clause-part : goal.returns-in_err-line-clause-part
returns-in_err-line-clause-part g c =
    at_err c.from_residual.result
    (sends_part (g.S.Sink.state c.args.out.now).written (g.S.Sink.state c.loop-close.out).written (c.args.text.now.items ++ flat_map closed_text (all_closed c.args.closed.now)) _ c.loop-close.invariant.sent)

-- or what is held back couldn't be written
pub returns-in_err-send_line-clause-part : goal.returns-in_err-send_line-clause-part
returns-in_err-send_line-clause-part g c =
    let before = (g.S.Sink.state c.args.out.now).written in
    let mid = (g.S.Sink.state c.loop-close.out).written in
    let now = (g.S.Sink.state c.send_line.new.out).written in
    let all = c.args.text.now.items ++ flat_map closed_text (all_closed c.args.closed.now) in
    let told = closed_text (closed_value c.close-item.result) in
    let held = c.loop-close.text.items in
    let left = flat_map closed_text (all_closed (drop (c.loop-close.close-index + 1) c.args.closed.now)) in
    at_err c.from_residual-in_err-send_line.result
    (sends_cut before mid now all held told left
    (subst (λ t. SendsText before mid all (held ++ t)) (closed_from c.args.closed.now c.loop-close.close-index c.close-item.result c.loop-close-test.true c.close-item.is) c.loop-close.invariant.sent)
    (subst (λ t. AppendsPrefix mid now (held ++ t)) (c.deref.ensures.value ∙ c.in_ok-line.ensures) c.in_err-send_line.ensures.part))

-- one line more
pub loop-close-preserved : goal.loop-close-preserved
loop-close-preserved g c =
    let before = (g.S.Sink.state c.args.out.now).written in
    let mid = (g.S.Sink.state c.loop-close.out).written in
    let now = (g.S.Sink.state c.send_line.new.out).written in
    let all = c.args.text.now.items ++ flat_map closed_text (all_closed c.args.closed.now) in
    let told = closed_text (closed_value c.close-item.result) in
    let held = c.loop-close.text.items in
    let left = flat_map closed_text (all_closed (drop (c.loop-close.close-index + 1) c.args.closed.now)) in
    record {
      sent = sends_on before mid now all held told left
          (subst (λ t. SendsText before mid all (held ++ t)) (closed_from c.args.closed.now c.loop-close.close-index c.close-item.result c.loop-close-test.true c.close-item.is) c.loop-close.invariant.sent)
          c.send_line.new.text.items (subst (λ t. SendsText mid now (held ++ t) c.send_line.new.text.items) (c.deref.ensures.value ∙ c.in_ok-line.ensures) c.in_ok-send_line.ensures.sent);
      later = omega (arith, c.loop-close.invariant.later, c.in_ok-send_line.ensures.later);
    }
