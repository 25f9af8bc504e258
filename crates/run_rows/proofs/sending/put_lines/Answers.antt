use Rattle.std.proofs.Common.{◌∙◌, ◌++◌, ap, subst}
use Rattle.std.specs.List.{flat_map}
use Rattle.std.specs.Io.KnownBytes.{append_known}
use Rattle.rt_outside.specs.Sink.{AppendsPrefix}
use Rattle.follow_engine.specs.Deltas.{all_closed, all_opened}
use Rattle.rt_report.specs.declared.finding.LineKind.TheVariants as line
use Rattle.rt_report.specs.FindingLines.{closed_text, standing_text}
use Rattle.run_base.specs.Sending.{SendsText}
use Rattle.run_rows.proofs.Sent.{at_err, behind_cut, first_cut, sends_all, sends_behind, sends_last}
use Rattle.run_rows.specs.Followed.{lines_text}
use Rattle.run_rows.proofs.sending.put_lines.Goals as goal

-- the lines of what opened couldn't be sent
pub returns-in_err-send_opened-clause-part : goal.returns-in_err-send_opened-clause-part
returns-in_err-send_opened-clause-part g c =
    let before = (g.S.Sink.state c.args.out.now).written in
    let mid = (g.S.Sink.state c.send_opened.new.out).written in
    let first = c.args.lines.first.items in
    at_err c.from_residual.result
    (first_cut before mid first _ _ (subst (λ xs. AppendsPrefix before mid (first ++ flat_map (standing_text line.Opened) (all_opened xs))) c.as_slice.ensures c.in_err-send_opened.ensures.part))

-- those of what closed
pub returns-in_err-send_closed-clause-part : goal.returns-in_err-send_closed-clause-part
returns-in_err-send_closed-clause-part g c =
    let before = (g.S.Sink.state c.args.out.now).written in
    let mid = (g.S.Sink.state c.send_opened.new.out).written in
    let now = (g.S.Sink.state c.send_closed.new.out).written in
    let first = c.args.lines.first.items in
    let held = c.send_opened.new.text.items in
    at_err c.from_residual-in_err-send_closed.result
    (behind_cut before mid now first _ _ held
    (subst (λ xs. SendsText before mid (first ++ flat_map (standing_text line.Opened) (all_opened xs)) held) c.as_slice.ensures c.in_ok-send_opened.ensures.sent)
    (subst (λ xs. AppendsPrefix mid now (held ++ flat_map closed_text (all_closed xs))) c.as_slice-2.ensures c.in_err-send_closed.ensures.part))

-- or what was held back at the end
pub returns-in_err-put_all-clause-part : goal.returns-in_err-put_all-clause-part
returns-in_err-put_all-clause-part g c =
    let before = (g.S.Sink.state c.args.out.now).written in
    let mid = (g.S.Sink.state c.send_opened.new.out).written in
    let next = (g.S.Sink.state c.send_closed.new.out).written in
    let now = (g.S.Sink.state c.put_all.new.sink).written in
    let first = c.args.lines.first.items in
    let held = c.send_opened.new.text.items in
    let rest = c.send_closed.new.text.items in
    let all : SendsText before next (lines_text c.args.lines) rest =
    sends_behind before mid next first _ _ held
    (subst (λ xs. SendsText before mid (first ++ flat_map (standing_text line.Opened) (all_opened xs)) held) c.as_slice.ensures c.in_ok-send_opened.ensures.sent) rest
    (subst (λ xs. SendsText mid next (held ++ flat_map closed_text (all_closed xs)) rest) c.as_slice-2.ensures c.in_ok-send_closed.ensures.sent) in
    at_err c.from_residual-in_err-put_all.result
    (sends_last before next now (lines_text c.args.lines) rest all (subst (AppendsPrefix next now) c.deref.ensures.value c.in_err-put_all.ensures.err))

-- all were written
pub returns-clause-whole : goal.returns-clause-whole
returns-clause-whole g c =
    let before = (g.S.Sink.state c.args.out.now).written in
    let mid = (g.S.Sink.state c.send_opened.new.out).written in
    let next = (g.S.Sink.state c.send_closed.new.out).written in
    let now = (g.S.Sink.state c.put_all.new.sink).written in
    let first = c.args.lines.first.items in
    let held = c.send_opened.new.text.items in
    let rest = c.send_closed.new.text.items in
    let all : SendsText before next (lines_text c.args.lines) rest =
    sends_behind before mid next first _ _ held
    (subst (λ xs. SendsText before mid (first ++ flat_map (standing_text line.Opened) (all_opened xs)) held) c.as_slice.ensures c.in_ok-send_opened.ensures.sent) rest
    (subst (λ xs. SendsText mid next (held ++ flat_map closed_text (all_closed xs)) rest) c.as_slice-2.ensures c.in_ok-send_closed.ensures.sent) in
    sends_all before next now (lines_text c.args.lines) rest all (c.in_ok-put_all.ensures.ok ∙ ap (append_known next) c.deref.ensures.value)
