use Rattle.std.proofs.Common.{◌≡◌, ◌∷◌, [], refl, arith, rules}
use Rattle.std.specs.List.{Contains}
use Rattle.std.specs.Io.KnownBytes.{append_known}
use Rattle.rt_outside.specs.Sink.{AppendsPrefix}
use Rattle.rt_outside.specs.Store.{contents_told}
use Rattle.run_base.proofs.Carried.{carried_fault}
use Rattle.run_base.proofs.Chosen.{carried_done}
use Rattle.run_verify.specs.Verified.{verify_report}
use Rattle.run_verify.proofs.PutLemmas.{carried_end, in_report}
use Rattle.run_verify.proofs.command.verify.Goals as goal

pub put_verdicts-requires : goal.put_verdicts-requires
put_verdicts-requires g c = rw (c.deref.ensures.value) (omega (arith, c.in-Ok.report.ok.0, c.in-Ok.report.ok.1, c.in-Ok.report.small))

-- the verdicts were written
pub returns-in-Ok-put_verdicts : goal.returns-in-Ok-put_verdicts
returns-in-Ok-put_verdicts g c =
    let out = (g.S.Sink.state c.args.out.now).written in
    let new = (g.S.Sink.state c.put_verdicts.new.out).written in
    let put = c.in-Ok-put_verdicts.ensures.whole in
    carried_done (verify_report c.args.file.now) (Contains (c.args.file.now ∷ [])) _ _ c.in-Ok-put_verdicts.status c.in-Ok-put_verdicts.ensures.carried_out refl
    (in_report (contents_told (g.F.Files.state c.args.files.now).told) c.args.file.now c.deref.result.now c.in-Ok.report.items
    (λ r. (new ≡ append_known out r.text) × (c.in-Ok-put_verdicts.status ≡ r.status) × (r.errors ≡ [])) c.deref.ensures.value c.in-Ok.ensures.whole (put.1, put.0, refl))

-- they couldn't be written
pub returns-in-Ok : goal.returns-in-Ok
returns-in-Ok g c =
    carried_fault (verify_report c.args.file.now) (Contains (c.args.file.now ∷ [])) _ _ c.say_fault.result
    (in_report (contents_told (g.F.Files.state c.args.files.now).told) c.args.file.now c.deref.result.now c.in-Ok.report.items
    (λ r. AppendsPrefix (g.S.Sink.state c.args.out.now).written (g.S.Sink.state c.put_verdicts.new.out).written r.text) c.deref.ensures.value c.in-Ok.ensures.whole c.in-Err-put_verdicts.ensures.text)
    c.in-Err-put_verdicts.fault c.args.file.now (0, omega arith, refl) (λ e. absurd (c.in-Err-put_verdicts.ensures.not_read (search rules)))
    (λ e. c.in-Err-put_verdicts.ensures.write (search rules)) c.in-Ok.ensures.asked c.say_fault.ensures

-- the file was refused, or couldn't be read
pub returns : goal.returns
returns g c =
    carried_end _ _ _ _ _ c.say_input_fault.result c.args.file.now (Contains (c.args.file.now ∷ [])) c.in-Err.end c.input_fault.result (0, omega arith, refl)
    c.in-Err.ensures.whole (λ e. c.in-Err.ensures.cause (search rules)) c.in-Err.ensures.asked c.input_fault.ensures c.say_input_fault.ensures
