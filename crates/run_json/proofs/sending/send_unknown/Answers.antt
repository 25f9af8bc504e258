use Rattle.std.proofs.Common.{◌∙◌, ◌++◌, ap, arith, false, subst, sym, true}
use Rattle.rt_wire.specs.Placed.{Remaining}
use Rattle.feed_json.specs.Pieces.{array_from, end_piece, unknown_piece}
use Rattle.run_base.specs.Sending.{SendsText}
use Rattle.run_json.specs.Shown.{unknown_among}
use Rattle.run_json.proofs.Sent.{at_err, ends_cut, ends_on, err_on, nothing_sent, ok_on, sends_cut, sends_on, sends_part, unknown_shown}
use Rattle.run_json.proofs.sending.send_unknown.Goals as goal

pub loop-field-init : goal.loop-field-init
loop-field-init g c = record {
  sent = nothing_sent (g.S.Sink.state c.args.out.now).written _ _ (ap (λ (a : Remaining). c.args.held.now.items ++ array_from unknown_piece end_piece false (unknown_among a.left)) c.new-fields.ensures);
  later = omega arith;
}

-- no memory was found for a field
pub returns-in_err-text-clause-part : goal.returns-in_err-text-clause-part
returns-in_err-text-clause-part g c =
    at_err c.from_residual.result
    (sends_part (g.S.Sink.state c.args.out.now).written (g.S.Sink.state c.loop-field.out).written (c.args.held.now.items ++ unknown_shown c.args.bytes.now) _ c.loop-field.invariant.sent)

-- or what is held back couldn't be written
pub returns-in_err-send-clause-part : goal.returns-in_err-send-clause-part
returns-in_err-send-clause-part g c =
    let before = (g.S.Sink.state c.args.out.now).written in
    let mid = (g.S.Sink.state c.loop-field.out).written in
    let now = (g.S.Sink.state c.send.new.out).written in
    let all = c.args.held.now.items ++ unknown_shown c.args.bytes.now in
    let held = c.loop-field.held.items in
    let told = c.as_bytes.result.now in
    let left = array_from unknown_piece end_piece true (unknown_among c.next_unknown.new.fields.left) in
    let is = ap (array_from unknown_piece end_piece c.loop-field.later) c.in-Some.ensures ∙ ap (λ t. t ++ left) (sym (c.as_bytes.ensures.value ∙ c.as_str.ensures.value ∙ c.in_ok-text.ensures)) in
    at_err c.from_residual-in_err-send.result
    (sends_cut before mid now all held told left (subst (λ t. SendsText before mid all (held ++ t)) is c.loop-field.invariant.sent) c.in_err-send.ensures.part)

-- no memory was found for the end
pub returns-in_err-end-clause-part : goal.returns-in_err-end-clause-part
returns-in_err-end-clause-part g c =
    at_err c.from_residual-in_err-end.result
    (sends_part (g.S.Sink.state c.args.out.now).written (g.S.Sink.state c.loop-field.out).written (c.args.held.now.items ++ unknown_shown c.args.bytes.now) _ c.loop-field.invariant.sent)

-- one field more
pub loop-field-preserved : goal.loop-field-preserved
loop-field-preserved g c =
    let before = (g.S.Sink.state c.args.out.now).written in
    let mid = (g.S.Sink.state c.loop-field.out).written in
    let now = (g.S.Sink.state c.send.new.out).written in
    let all = c.args.held.now.items ++ unknown_shown c.args.bytes.now in
    let held = c.loop-field.held.items in
    let told = c.as_bytes.result.now in
    let left = array_from unknown_piece end_piece true (unknown_among c.next_unknown.new.fields.left) in
    let is = ap (array_from unknown_piece end_piece c.loop-field.later) c.in-Some.ensures ∙ ap (λ t. t ++ left) (sym (c.as_bytes.ensures.value ∙ c.as_str.ensures.value ∙ c.in_ok-text.ensures)) in
    record {
      sent = sends_on before mid now all held told left (subst (λ t. SendsText before mid all (held ++ t)) is c.loop-field.invariant.sent) c.send.new.held.items c.in_ok-send.ensures.sent;
      later = omega (arith, c.loop-field.invariant.later, c.in_ok-send.ensures.later);
    }

-- the end behind them
pub returns-clause-sent : goal.returns-clause-sent
returns-clause-sent g c =
    let before = (g.S.Sink.state c.args.out.now).written in
    let mid = (g.S.Sink.state c.loop-field.out).written in
    let now = (g.S.Sink.state c.send-2.new.out).written in
    let all = c.args.held.now.items ++ unknown_shown c.args.bytes.now in
    let held = c.loop-field.held.items in
    let last = c.as_bytes-2.result.now in
    let is = ap (array_from unknown_piece end_piece c.loop-field.later) c.in_default.ensures ∙ sym (c.as_bytes-2.ensures.value ∙ c.as_str-2.ensures.value ∙ c.in_ok-end.ensures) in
    ok_on c.send-2.result
    (ends_on before mid now all held last (subst (λ t. SendsText before mid all (held ++ t)) is c.loop-field.invariant.sent) c.send-2.new.held.items)
    c.send-2.ensures.sent

pub returns-clause-part : goal.returns-clause-part
returns-clause-part g c =
    let before = (g.S.Sink.state c.args.out.now).written in
    let mid = (g.S.Sink.state c.loop-field.out).written in
    let now = (g.S.Sink.state c.send-2.new.out).written in
    let all = c.args.held.now.items ++ unknown_shown c.args.bytes.now in
    let held = c.loop-field.held.items in
    let last = c.as_bytes-2.result.now in
    let is = ap (array_from unknown_piece end_piece c.loop-field.later) c.in_default.ensures ∙ sym (c.as_bytes-2.ensures.value ∙ c.as_str-2.ensures.value ∙ c.in_ok-end.ensures) in
    err_on c.send-2.result
    (ends_cut before mid now all held last (subst (λ t. SendsText before mid all (held ++ t)) is c.loop-field.invariant.sent))
    c.send-2.ensures.part
