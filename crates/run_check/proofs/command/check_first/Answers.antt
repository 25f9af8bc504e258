use Rattle.std.proofs.Common.{◌∷◌, [], refl, subst}
use Rattle.std.specs.List.{Contains}
use Rattle.rt_outside.specs.Store.{contents_told}
use Rattle.rule_history.specs.Answered.{tables_of}
use Rattle.run_base.specs.Carried.{CarriesOut, exactly}
use Rattle.run_snapshot.specs.Reports.{accepted_report}
use Rattle.run_base.specs.Outside.{outside}
use Rattle.run_base.specs.Report.{file_report}
use Rattle.run_check.specs.Check.{files_report}
use Rattle.run_base.proofs.Chosen.{all, carried_within}
use Rattle.std.specs.FinMap.{get}
use Rattle.run_base.specs.Counted.{IsCounted, counters}
use Rattle.run_base.proofs.Counted.{counted_within}
use Rattle.run_rows.specs.Counted.{files_work}
use Rattle.run_snapshot.specs.Counted.{snapshot_work}
use Rattle.run_check.proofs.OneFile.{one_file, one_work}
use Rattle.run_check.proofs.Together.{one_name}
use Rattle.run_check.proofs.command.check_first.Goals as goal

pub returns-clause-carried : goal.returns-clause-carried
returns-clause-carried g c =
    let t = tables_of c.args.timetable.now in
    let name = c.as_str.result.now in
    subst (λ names. CarriesOut (exactly (files_report t c.args.moment names)) (Contains names) (outside (g.F.Files.state c.args.files.now) (g.S.Sink.state c.args.out.now) (g.E.Sink.state c.args.err.now))
    (outside (g.F.Files.state c.report_file.new.files) (g.S.Sink.state c.report_file.new.out) (g.E.Sink.state c.report_file.new.err)) c.report_file.result)
    (one_name c.args.names.now c.as_slice.result.now c.index-as_slice-0.result c.as_str.result.now c.requires c.as_slice.ensures c.index-as_slice-0.is c.as_str.ensures)
    (carried_within (file_report (accepted_report t c.args.moment) name) (files_report t c.args.moment (name ∷ [])) (Contains (name ∷ [])) (Contains (name ∷ []))
    (g.F.Files.state c.args.files.now) (g.S.Sink.state c.args.out.now) (g.E.Sink.state c.args.err.now) _ c.report_file.result (λ n is. is) (g.F.Files.state c.args.files.now) (λ rose. rose) refl
    (all (contents_told (g.F.Files.state c.args.files.now).told) _ (one_file t c.args.moment name)) c.report_file.ensures.carried)

pub returns-clause-counted : goal.returns-clause-counted
returns-clause-counted g c =
    let t = tables_of c.args.timetable.now in
    let name = c.as_str.result.now in
    let told = contents_told (g.F.Files.state c.args.files.now).told in
    subst (λ names. IsCounted (files_work t c.args.moment names) told (counters c.args.decodes.now c.args.tests.now) (counters c.report_file.new.decodes c.report_file.new.tests) c.report_file.result)
    (one_name c.args.names.now c.as_slice.result.now c.index-as_slice-0.result c.as_str.result.now c.requires c.as_slice.ensures c.index-as_slice-0.is c.as_str.ensures)
    (counted_within (λ held. snapshot_work (get held name)) told _ _ c.report_file.result (files_work t c.args.moment (name ∷ [])) told refl (all told _ (one_work t c.args.moment name)) c.report_file.ensures.counted)
