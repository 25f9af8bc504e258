use Rattle.std.proofs.Common.{◌∙◌, ◌++◌, ap, refl, subst}
use Rattle.std.specs.Io.KnownBytes.{append_known}
use Rattle.rt_outside.specs.Sink.{AppendsPrefix}
use Rattle.rt_outside.proofs.Appends.{AppendsPrefix-whole}
use Rattle.run_base.specs.Sending.{SendsText}
use Rattle.run_json.specs.Reports.{shown_report}
use Rattle.run_json.proofs.Sent.{end_cut, end_sent, entities_cut, sent_cut, unknown_cut, unknown_shown}
use Rattle.run_json.proofs.showing.put_form.Goals as goal

-- a part of the entities
pub returns-in_err-send_entities-clause-text : goal.returns-in_err-send_entities-clause-text
returns-in_err-send_entities-clause-text g c =
    entities_cut c.args.kept.now (g.S.Sink.state c.args.out.now).written (g.S.Sink.state c.send_entities.new.out).written (g.S.Sink.state c.send_entities.new.out).written c.in_ok-held.held.items c.send_entities.new.held.items c.send_entities.new.held.items c.in_ok-held.ensures c.in_err-send_entities.ensures.part

-- a part of the unknown fields
pub returns-in_err-send_unknown-clause-text : goal.returns-in_err-send_unknown-clause-text
returns-in_err-send_unknown-clause-text g c =
    unknown_cut c.args.kept.now (g.S.Sink.state c.args.out.now).written (g.S.Sink.state c.send_entities.new.out).written (g.S.Sink.state c.send_unknown.new.out).written c.in_ok-held.held.items c.send_entities.new.held.items c.send_entities.new.held.items c.in_ok-held.ensures c.in_ok-send_entities.ensures.sent
    (subst (λ bytes. AppendsPrefix (g.S.Sink.state c.send_entities.new.out).written (g.S.Sink.state c.send_unknown.new.out).written (c.send_entities.new.held.items ++ unknown_shown bytes)) c.bytes.ensures.bytes c.in_err-send_unknown.ensures.part)

-- no memory was found for the end of the line
pub returns-in_err-extend_from_slice-clause-text : goal.returns-in_err-extend_from_slice-clause-text
returns-in_err-extend_from_slice-clause-text g c =
    sent_cut c.args.kept.now (g.S.Sink.state c.args.out.now).written (g.S.Sink.state c.send_entities.new.out).written (g.S.Sink.state c.send_unknown.new.out).written c.in_ok-held.held.items c.send_entities.new.held.items c.send_unknown.new.held.items c.in_ok-held.ensures c.in_ok-send_entities.ensures.sent
    (subst (λ bytes. SendsText (g.S.Sink.state c.send_entities.new.out).written (g.S.Sink.state c.send_unknown.new.out).written (c.send_entities.new.held.items ++ unknown_shown bytes) c.send_unknown.new.held.items) c.bytes.ensures.bytes c.in_ok-send_unknown.ensures.sent)

-- a part of what was held back at the end
pub returns-in_err-put_all-clause-text : goal.returns-in_err-put_all-clause-text
returns-in_err-put_all-clause-text g c =
    end_cut c.args.kept.now (g.S.Sink.state c.args.out.now).written (g.S.Sink.state c.send_entities.new.out).written (g.S.Sink.state c.send_unknown.new.out).written c.in_ok-held.held.items c.send_entities.new.held.items c.send_unknown.new.held.items c.in_ok-held.ensures c.in_ok-send_entities.ensures.sent
    (subst (λ bytes. SendsText (g.S.Sink.state c.send_entities.new.out).written (g.S.Sink.state c.send_unknown.new.out).written (c.send_entities.new.held.items ++ unknown_shown bytes) c.send_unknown.new.held.items) c.bytes.ensures.bytes c.in_ok-send_unknown.ensures.sent)
    (g.S.Sink.state c.put_all.new.sink).written c.extend_from_slice.new.self.items c.in_ok-extend_from_slice.ensures.items (subst (AppendsPrefix (g.S.Sink.state c.send_unknown.new.out).written (g.S.Sink.state c.put_all.new.sink).written) c.deref.ensures.value c.in_err-put_all.ensures.err)

-- all of it
pub returns-clause-text : goal.returns-clause-text
returns-clause-text g c =
    AppendsPrefix-whole (g.S.Sink.state c.args.out.now).written (g.S.Sink.state c.put_all.new.sink).written (shown_report c.args.kept.now).text
    (end_sent c.args.kept.now (g.S.Sink.state c.args.out.now).written (g.S.Sink.state c.send_entities.new.out).written (g.S.Sink.state c.send_unknown.new.out).written c.in_ok-held.held.items c.send_entities.new.held.items c.send_unknown.new.held.items c.in_ok-held.ensures c.in_ok-send_entities.ensures.sent
    (subst (λ bytes. SendsText (g.S.Sink.state c.send_entities.new.out).written (g.S.Sink.state c.send_unknown.new.out).written (c.send_entities.new.held.items ++ unknown_shown bytes) c.send_unknown.new.held.items) c.bytes.ensures.bytes c.in_ok-send_unknown.ensures.sent)
    (g.S.Sink.state c.put_all.new.sink).written c.extend_from_slice.new.self.items c.in_ok-extend_from_slice.ensures.items (c.in_ok-put_all.ensures.ok ∙ ap (append_known (g.S.Sink.state c.send_unknown.new.out).written) c.deref.ensures.value))

pub returns-clause-whole : goal.returns-clause-whole
returns-clause-whole g c = (
  refl,
  end_sent c.args.kept.now (g.S.Sink.state c.args.out.now).written (g.S.Sink.state c.send_entities.new.out).written (g.S.Sink.state c.send_unknown.new.out).written c.in_ok-held.held.items c.send_entities.new.held.items c.send_unknown.new.held.items c.in_ok-held.ensures c.in_ok-send_entities.ensures.sent
      (subst (λ bytes. SendsText (g.S.Sink.state c.send_entities.new.out).written (g.S.Sink.state c.send_unknown.new.out).written (c.send_entities.new.held.items ++ unknown_shown bytes) c.send_unknown.new.held.items) c.bytes.ensures.bytes c.in_ok-send_unknown.ensures.sent)
      (g.S.Sink.state c.put_all.new.sink).written c.extend_from_slice.new.self.items c.in_ok-extend_from_slice.ensures.items (c.in_ok-put_all.ensures.ok ∙ ap (append_known (g.S.Sink.state c.send_unknown.new.out).written) c.deref.ensures.value),
)
