use Rattle.std.proofs.Common.{IfOk}
use Rattle.rt_outside.specs.Sink.{AppendsPrefix}
use Rattle.rt_outside.specs.Store.{contents_told}
use Rattle.run_base.specs.Carried.{IsPut}
use Rattle.run_json.proofs.Shown.{shown_said}
use Rattle.run_json.proofs.showing.write_form.Goals as goal

pub returns-clause-text : goal.returns-clause-text
returns-clause-text g c =
    shown_said (contents_told (g.F.Files.state c.args.files.now).told) c.args.file.now _ c.in_ok-found.ensures.found
    (λ r. AppendsPrefix (g.S.Sink.state c.args.out.now).written (g.S.Sink.state c.put_found.new.out).written r.text) c.put_found.ensures.text

pub returns-clause-whole : goal.returns-clause-whole
returns-clause-whole g c =
    shown_said (contents_told (g.F.Files.state c.args.files.now).told) c.args.file.now _ c.in_ok-found.ensures.found
    (λ r. IfOk c.put_found.result (IsPut r (g.S.Sink.state c.args.out.now).written (g.S.Sink.state c.put_found.new.out).written)) c.put_found.ensures.whole
