use Rattle.std.proofs.Common.{ap, subst}
use Rattle.std.specs.List.{Contains}
use Rattle.rule_history.specs.Answered.{tables_of}
use Rattle.run_rows.specs.follow_engine.Entities.{entities_held}
use Rattle.run_base.specs.Carried.{CarriesOut, exactly}
use Rattle.run_base.specs.Counted.{IsCounted, counters}
use Rattle.run_base.specs.Outside.{outside}
use Rattle.run_base.proofs.Counted.{counted_whole, counted_part}
use Rattle.run_rows.specs.Counted.{files_work}
use Rattle.rt_outside.specs.Store.{contents_told}
use Rattle.run_rows.specs.Files.{files_ended}
use Rattle.run_rows.proofs.Ended.{told_ended}
use Rattle.run_alerts.specs.Alerts.{alerts_after, alerts_ending}
use Rattle.run_alerts.proofs.Given.{absent_tables}
use Rattle.run_alerts.proofs.command.alerts.Goals as goal

-- the snapshots were taken, and the alerts were written or it was told why not
pub returns-in-Ok-clause-carried : goal.returns-in-Ok-clause-carried
returns-in-Ok-clause-carried g c =
    let t = tables_of c.absent-table.result in
    let moment = c.args.moment in
    let query = c.args.query.now in
    let names = c.args.names.now in
    let engine = c.in-Ok.end.engine in
    subst (λ t. CarriesOut (exactly (files_ended (alerts_after moment query) t moment names)) (Contains names)
    (outside (g.F.Files.state c.args.files.now) (g.S.Sink.state c.args.out.now) (g.E.Sink.state c.args.err.now))
    (outside (g.F.Files.state c.take_files.new.files) (g.S.Sink.state c.end_with_alerts.new.out) (g.E.Sink.state c.end_with_alerts.new.err)) c.end_with_alerts.result)
    (absent_tables c.absent-table.result c.absent-table.ensures.present)
    (told_ended (alerts_after moment query) t moment names _ _ (g.S.Sink.state c.take_files.new.out) engine c.in-Ok.end.error (alerts_ending moment query (entities_held engine.feeds)) c.end_with_alerts.result
    c.in-Ok.ensures.whole c.take_files.ensures.later (λ h stands. ap (alerts_ending moment query) (c.end_with_alerts.ensures.after t h stands.matches)) (g.E.Sink.state c.take_files.new.err) c.in-Ok.ensures.silent
    c.end_with_alerts.ensures.ends)

-- a fault was told before
pub returns-in-Err-clause-carried : goal.returns-in-Err-clause-carried
returns-in-Err-clause-carried g c =
    let moment = c.args.moment in
    let names = c.args.names.now in
    subst (λ t. CarriesOut (exactly (files_ended (alerts_after moment c.args.query.now) t moment names)) (Contains names)
    (outside (g.F.Files.state c.args.files.now) (g.S.Sink.state c.args.out.now) (g.E.Sink.state c.args.err.now))
    (outside (g.F.Files.state c.take_files.new.files) (g.S.Sink.state c.take_files.new.out) (g.E.Sink.state c.take_files.new.err)) c.in-Err.told)
    (absent_tables c.absent-table.result c.absent-table.ensures.present)
    (c.in-Err.ensures.cut_off (alerts_after moment c.args.query.now))

pub returns-in-Ok-clause-counted : goal.returns-in-Ok-clause-counted
returns-in-Ok-clause-counted g c =
    subst (λ t. IsCounted (files_work t c.args.moment c.args.names.now) (contents_told (g.F.Files.state c.args.files.now).told) (counters c.args.decodes.now c.args.tests.now)
    (counters c.take_files.new.decodes c.take_files.new.tests) c.end_with_alerts.result) (absent_tables c.absent-table.result c.absent-table.ensures.present)
    (counted_whole (files_work (tables_of c.absent-table.result) c.args.moment c.args.names.now) _ _ _ c.end_with_alerts.result c.in-Ok.ensures.counted)

pub returns-in-Err-clause-counted : goal.returns-in-Err-clause-counted
returns-in-Err-clause-counted g c =
    subst (λ t. IsCounted (files_work t c.args.moment c.args.names.now) (contents_told (g.F.Files.state c.args.files.now).told) (counters c.args.decodes.now c.args.tests.now)
    (counters c.take_files.new.decodes c.take_files.new.tests) c.in-Err.told) (absent_tables c.absent-table.result c.absent-table.ensures.present)
    (counted_part (files_work (tables_of c.absent-table.result) c.args.moment c.args.names.now) _ _ _ c.in-Err.told c.in-Err.ensures.undone c.take_files.ensures.most)
