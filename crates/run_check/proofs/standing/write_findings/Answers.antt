use Rattle.std.proofs.Common.{◌∙◌, [], arith, subst, sym, ap}
use Rattle.std.specs.Io.KnownBytes.{append_known}
use Rattle.rt_outside.proofs.Appends.{AppendsPrefix-whole}
use Rattle.rt_outside.specs.Sink.{AppendsPrefix}
use Rattle.rule_history.specs.Standing.{Standing}
use Rattle.run_rows.specs.follow_engine.Engines.{engine_data}
use Rattle.rt_report.specs.FindingLines.{all_text, any_error}
use Rattle.run_check.proofs.Standings.{Waits, error_done, error_more, handed_out, none_left, waits_cut, waits_done, waits_more, waits_moved, waits_none, waits_part}
use Rattle.run_check.proofs.standing.write_findings.Goals as goal

pub loop-finding-init : goal.loop-finding-init
loop-finding-init g c =
    let list = (engine_data c.args.engine.now).list in
    let start = c.into_iter-finding-iterator.ensures.into_iter_gives ∙ c.findings-finding-items.ensures in
    let written = (g.S.Sink.state c.args.out.now).written in
    record {
      waits = subst (λ waits. Waits written written waits c.into_iter-finding-iterator.result (all_text list)) (sym c.new.ensures.items)
          (subst (λ left. Waits written written [] left (all_text list)) (sym start) (waits_none written list));
      error_is = ap any_error start;
      later = omega arith;
    }

-- the line of one finding more
pub loop-finding-preserved : goal.loop-finding-preserved
loop-finding-preserved g c =
    let list = (engine_data c.args.engine.now).list in
    let x : Standing = record { finding = c.in-Some.finding.now; since = c.in-Some.since } in
    let before = (g.S.Sink.state c.args.out.now).written in
    let now = (g.S.Sink.state c.loop-finding.out).written in
    let held = c.loop-finding.invariant in
    let next = handed_out c.loop-finding.finding-iterator c.next.new.self c.next.result _ c.in-Some.is c.next.ensures.steps in
    record {
      waits = waits_moved before now c.push_standing.new.self.text.items c.next.new.self (all_text list)
          (waits_more before now c.loop-finding.lines.text.items c.loop-finding.finding-iterator (all_text list) held.waits c.push_standing.new.self.text.items x c.next.new.self next c.in_ok-push_standing.ensures.text_is)
          (g.S.Sink.state c.send_piece.new.out).written c.send_piece.new.text.items c.in_ok-send_piece.ensures.ok;
      error_is = error_more c.loop-finding.lines.error c.push_standing.new.self.error x c.loop-finding.finding-iterator c.next.new.self (any_error list) next c.in_ok-push_standing.ensures.error_is held.error_is;
      later = omega (arith, held.later, c.in_ok-send_piece.ensures.cause.later);
    }

-- no memory was found
pub returns-in_err-push_standing-clause-part : goal.returns-in_err-push_standing-clause-part
returns-in_err-push_standing-clause-part g c =
    waits_part (g.S.Sink.state c.args.out.now).written (g.S.Sink.state c.loop-finding.out).written c.loop-finding.lines.text.items c.loop-finding.finding-iterator (all_text (engine_data c.args.engine.now).list) c.loop-finding.invariant.waits

-- what waits can't be written
pub returns-in_err-send_piece-clause-part : goal.returns-in_err-send_piece-clause-part
returns-in_err-send_piece-clause-part g c =
    let list = (engine_data c.args.engine.now).list in
    let x : Standing = record { finding = c.in-Some.finding.now; since = c.in-Some.since } in
    let before = (g.S.Sink.state c.args.out.now).written in
    let now = (g.S.Sink.state c.loop-finding.out).written in
    let next = handed_out c.loop-finding.finding-iterator c.next.new.self c.next.result _ c.in-Some.is c.next.ensures.steps in
    waits_cut before now c.push_standing.new.self.text.items c.next.new.self (all_text list)
    (waits_more before now c.loop-finding.lines.text.items c.loop-finding.finding-iterator (all_text list) c.loop-finding.invariant.waits c.push_standing.new.self.text.items x c.next.new.self next c.in_ok-push_standing.ensures.text_is)
    (g.S.Sink.state c.send_piece.new.out).written c.in_err-send_piece.ensures.err

pub returns-in_err-put_all-clause-part : goal.returns-in_err-put_all-clause-part
returns-in_err-put_all-clause-part g c =
    waits_cut (g.S.Sink.state c.args.out.now).written (g.S.Sink.state c.loop-finding.out).written c.loop-finding.lines.text.items c.loop-finding.finding-iterator (all_text (engine_data c.args.engine.now).list) c.loop-finding.invariant.waits
    (g.S.Sink.state c.put_all.new.sink).written
    (subst (AppendsPrefix (g.S.Sink.state c.loop-finding.out).written (g.S.Sink.state c.put_all.new.sink).written) c.deref.ensures.value c.in_err-put_all.ensures.err)

-- all were written
pub returns-clause-part : goal.returns-clause-part
returns-clause-part g c =
    AppendsPrefix-whole (g.S.Sink.state c.args.out.now).written (g.S.Sink.state c.put_all.new.sink).written (all_text (engine_data c.args.engine.now).list)
    (waits_done (g.S.Sink.state c.args.out.now).written (g.S.Sink.state c.loop-finding.out).written c.loop-finding.lines.text.items c.loop-finding.finding-iterator (all_text (engine_data c.args.engine.now).list) c.loop-finding.invariant.waits
    (g.S.Sink.state c.put_all.new.sink).written (none_left c.loop-finding.finding-iterator c.next.new.self c.next.result c.in-None.is c.next.ensures.steps)
    (c.in_ok-put_all.ensures.ok ∙ ap (append_known (g.S.Sink.state c.loop-finding.out).written) c.deref.ensures.value))

pub returns-clause-whole : goal.returns-clause-whole
returns-clause-whole g c =
    let none = none_left c.loop-finding.finding-iterator c.next.new.self c.next.result c.in-None.is c.next.ensures.steps in
    record {
      written = waits_done (g.S.Sink.state c.args.out.now).written (g.S.Sink.state c.loop-finding.out).written c.loop-finding.lines.text.items c.loop-finding.finding-iterator (all_text (engine_data c.args.engine.now).list) c.loop-finding.invariant.waits
          (g.S.Sink.state c.put_all.new.sink).written none (c.in_ok-put_all.ensures.ok ∙ ap (append_known (g.S.Sink.state c.loop-finding.out).written) c.deref.ensures.value);
      error_is = error_done c.loop-finding.lines.error c.loop-finding.finding-iterator (any_error (engine_data c.args.engine.now).list) none c.loop-finding.invariant.error_is;
    }
