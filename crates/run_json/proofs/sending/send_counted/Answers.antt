use Rattle.std.proofs.Common.{◌∙◌, ◌++◌, ◌+◌, arith, drop, map, subst, sym, true}
use Rattle.feed_values.specs.Snapshot.{entity_of, entity_payloads, header_of}
use Rattle.feed_json.specs.Pieces.{array_from, entity_piece, header_piece}
use Rattle.run_base.specs.Sending.{SendsText}
use Rattle.run_json.proofs.Sent.{at_err, ends_cut, ends_on, entities_end, entities_shown, entity_from, err_on, ok_on, sends_cut, sends_on, sends_part}
use Rattle.run_json.proofs.sending.send_counted.Goals as goal

pub entity-requires : goal.entity-requires
entity-requires g c = omega (arith, c.loop-place.invariant.many, c.loop-place-test.true)

-- no memory was found for an entity
pub returns-in_err-text-clause-part : goal.returns-in_err-text-clause-part
returns-in_err-text-clause-part g c =
    at_err c.from_residual.result
    (sends_part (g.S.Sink.state c.args.out.now).written (g.S.Sink.state c.loop-place.out).written (c.args.held.now.items ++ entities_shown c.args.kept.now) _ c.loop-place.invariant.sent)

-- or what is held back couldn't be written
pub returns-in_err-send-clause-part : goal.returns-in_err-send-clause-part
returns-in_err-send-clause-part g c =
    let before = (g.S.Sink.state c.args.out.now).written in
    let mid = (g.S.Sink.state c.loop-place.out).written in
    let now = (g.S.Sink.state c.send.new.out).written in
    let all = c.args.held.now.items ++ entities_shown c.args.kept.now in
    let end = header_piece (header_of c.args.kept.now) in
    let ps = entity_payloads c.args.kept.now in
    let place = c.loop-place.place in
    let held = c.loop-place.held.items in
    let told = c.as_bytes.result.now in
    let left = array_from entity_piece end true (map entity_of (drop (place + 1) ps)) in
    let is = c.as_bytes.ensures.value ∙ c.as_str.ensures.value ∙ c.in_ok-text.ensures in
    at_err c.from_residual-in_err-send.result
    (sends_cut before mid now all held told left
    (subst (λ t. SendsText before mid all (held ++ t)) (entity_from end ps place c.loop-place.later c.entity.result.now told (omega (arith, c.loop-place.invariant.many, c.loop-place-test.true)) c.entity.ensures.payload is) c.loop-place.invariant.sent)
    c.in_err-send.ensures.part)

-- no memory was found for the header
pub returns-in_err-header-clause-part : goal.returns-in_err-header-clause-part
returns-in_err-header-clause-part g c =
    at_err c.from_residual-in_err-header.result
    (sends_part (g.S.Sink.state c.args.out.now).written (g.S.Sink.state c.loop-place.out).written (c.args.held.now.items ++ entities_shown c.args.kept.now) _ c.loop-place.invariant.sent)

-- one entity more
pub loop-place-preserved : goal.loop-place-preserved
loop-place-preserved g c =
    let before = (g.S.Sink.state c.args.out.now).written in
    let mid = (g.S.Sink.state c.loop-place.out).written in
    let now = (g.S.Sink.state c.send.new.out).written in
    let all = c.args.held.now.items ++ entities_shown c.args.kept.now in
    let end = header_piece (header_of c.args.kept.now) in
    let ps = entity_payloads c.args.kept.now in
    let place = c.loop-place.place in
    let held = c.loop-place.held.items in
    let told = c.as_bytes.result.now in
    let left = array_from entity_piece end true (map entity_of (drop (place + 1) ps)) in
    let is = c.as_bytes.ensures.value ∙ c.as_str.ensures.value ∙ c.in_ok-text.ensures in
    record {
      sent = sends_on before mid now all held told left
          (subst (λ t. SendsText before mid all (held ++ t)) (entity_from end ps place c.loop-place.later c.entity.result.now told (omega (arith, c.loop-place.invariant.many, c.loop-place-test.true)) c.entity.ensures.payload is) c.loop-place.invariant.sent)
          c.send.new.held.items c.in_ok-send.ensures.sent;
      later = omega (arith, c.loop-place.invariant.later, c.in_ok-send.ensures.later);
      many = c.loop-place.invariant.many;
      within = omega (arith, c.loop-place.invariant.many, c.loop-place-test.true);
    }

-- the header behind them
pub returns-clause-sent : goal.returns-clause-sent
returns-clause-sent g c =
    let before = (g.S.Sink.state c.args.out.now).written in
    let mid = (g.S.Sink.state c.loop-place.out).written in
    let now = (g.S.Sink.state c.send-2.new.out).written in
    let all = c.args.held.now.items ++ entities_shown c.args.kept.now in
    let end = header_piece (header_of c.args.kept.now) in
    let ps = entity_payloads c.args.kept.now in
    let held = c.loop-place.held.items in
    let last = c.as_bytes-2.result.now in
    let is = entities_end end ps c.loop-place.place c.loop-place.later (omega (arith, c.loop-place.invariant.many, c.loop-place.invariant.within, c.loop-place-test.false))
    ∙ sym (c.as_bytes-2.ensures.value ∙ c.as_str-2.ensures.value ∙ c.in_ok-header.ensures) in
    ok_on c.send-2.result
    (ends_on before mid now all held last (subst (λ t. SendsText before mid all (held ++ t)) is c.loop-place.invariant.sent) c.send-2.new.held.items)
    c.send-2.ensures.sent

pub returns-clause-part : goal.returns-clause-part
returns-clause-part g c =
    let before = (g.S.Sink.state c.args.out.now).written in
    let mid = (g.S.Sink.state c.loop-place.out).written in
    let now = (g.S.Sink.state c.send-2.new.out).written in
    let all = c.args.held.now.items ++ entities_shown c.args.kept.now in
    let end = header_piece (header_of c.args.kept.now) in
    let ps = entity_payloads c.args.kept.now in
    let held = c.loop-place.held.items in
    let last = c.as_bytes-2.result.now in
    let is = entities_end end ps c.loop-place.place c.loop-place.later (omega (arith, c.loop-place.invariant.many, c.loop-place.invariant.within, c.loop-place-test.false))
    ∙ sym (c.as_bytes-2.ensures.value ∙ c.as_str-2.ensures.value ∙ c.in_ok-header.ensures) in
    err_on c.send-2.result
    (ends_cut before mid now all held last (subst (λ t. SendsText before mid all (held ++ t)) is c.loop-place.invariant.sent))
    c.send-2.ensures.part
