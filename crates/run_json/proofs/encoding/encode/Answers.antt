use Rattle.std.proofs.Common.{◌≡◌, refl, arith, rules, ◌∷◌, []}
use Rattle.std.specs.List.{Contains}
use Rattle.std.specs.Io.KnownBytes.{append_known}
use Rattle.rt_outside.specs.Sink.{AppendsPrefix}
use Rattle.feed_values.specs.Views.{feed_message_value}
use Rattle.run_base.specs.declared.status.Status.{Status}
use Rattle.run_base.specs.declared.status.Status.TheVariants as answer
use Rattle.run_base.proofs.Carried.{carried_fault}
use Rattle.run_base.proofs.Chosen.{carried_done}
use Rattle.run_json.specs.Reports.{encode_report}
use Rattle.run_json.proofs.Encodings.{carried_json, in_report}
use Rattle.run_json.proofs.encoding.encode.Goals as goal

-- the canonical bytes were written
pub returns-in-Ok-put_message : goal.returns-in-Ok-put_message
returns-in-Ok-put_message g c =
    let out = (g.S.Sink.state c.args.out.now).written in
    let new = (g.S.Sink.state c.put_message.new.out).written in
    carried_done (encode_report c.args.file.now) (Contains (c.args.file.now ∷ [])) _ _ answer.Clean tt refl
    (in_report _ c.args.file.now (feed_message_value c.in-Ok.message)
    (λ r. (new ≡ append_known out r.text) × ((let s : Status = answer.Clean in s) ≡ r.status) × (r.errors ≡ [])) c.in-Ok.ensures.ok (c.in-Ok-put_message.ensures.whole, refl, refl))

-- they couldn't be written
pub returns-in-Ok : goal.returns-in-Ok
returns-in-Ok g c =
    carried_fault (encode_report c.args.file.now) (Contains (c.args.file.now ∷ [])) _ _ c.say_fault.result
    (in_report _ c.args.file.now (feed_message_value c.in-Ok.message)
    (λ r. AppendsPrefix (g.S.Sink.state c.args.out.now).written (g.S.Sink.state c.put_message.new.out).written r.text) c.in-Ok.ensures.ok c.in-Err-put_message.ensures.part)
    c.in-Err-put_message.fault c.args.file.now (0, omega arith, refl) (λ e. absurd (c.in-Err-put_message.ensures.not_read (search rules)))
    (λ e. c.in-Err-put_message.ensures.write (search rules)) c.in-Ok.ensures.asked c.say_fault.ensures

-- the file was refused, or couldn't be read
pub returns : goal.returns
returns g c =
    carried_json _ _ _ _ _ c.say_input_fault.result c.args.file.now (Contains (c.args.file.now ∷ [])) c.in-Err.fault c.told_as.result (0, omega arith, refl)
    c.in-Err.ensures.err (λ e. c.in-Err.ensures.read (search rules)) c.in-Err.ensures.asked c.told_as.ensures c.say_input_fault.ensures
