use Rattle.std.proofs.Common.{◌≡◌, [], refl}
use Rattle.std.specs.Io.KnownBytes.{append_known}
use Rattle.rt_outside.specs.Sink.{AppendsPrefix}
use Rattle.rt_outside.specs.Store.{contents_told}
use Rattle.run_base.specs.Outside.{outside}
use Rattle.run_base.specs.Report.{Report}
use Rattle.run_base.proofs.Carried.{carried_other_fault}
use Rattle.run_base.proofs.Chosen.{any, carried_done, not_read}
use Rattle.run_merge.specs.Merged.{written}
use Rattle.run_merge.proofs.command.write_bytes.Goals as goal

pub returns-in-Ok : goal.returns-in-Ok
returns-in-Ok g c = λ files.
    let report : Report = written c.args.bytes.now c.args.meant in
    let out = g.S.Sink.state c.args.out.now in
    let new = g.S.Sink.state c.put_all.new.sink in
    carried_done (λ held. report) (λ name. ⊥) (outside files out (g.E.Sink.state c.args.err.now)) (outside files new (g.E.Sink.state c.args.err.now)) c.args.meant c.requires refl
    (any (contents_told files.told) ((new.written ≡ append_known out.written report.text) × (c.args.meant ≡ report.status) × (report.errors ≡ [])) (c.in-Ok.ensures.ok, refl, refl))

pub returns-in-Err : goal.returns-in-Err
returns-in-Err g c = λ files.
    let report : Report = written c.args.bytes.now c.args.meant in
    let out = g.S.Sink.state c.args.out.now in
    let new = g.S.Sink.state c.put_all.new.sink in
    carried_other_fault (λ held. report) (λ name. ⊥) (outside files out (g.E.Sink.state c.args.err.now)) (outside files new (g.E.Sink.state c.say_fault.new.err)) c.say_fault.result
    (any (contents_told files.told) (AppendsPrefix out.written new.written report.text) c.in-Err.ensures.err)
    c.from.result [] (not_read c.from.result c.from.ensures) (λ e. c.in-Err.ensures.cause.failed) c.say_fault.ensures
