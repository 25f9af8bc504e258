use Rattle.std.proofs.Common.{ap}
use Rattle.rt_outside.specs.Store.{contents_told}
use Rattle.timetable.specs.Lookups.{tables_in}
use Rattle.trip_calendar.specs.Zones.{zone_of}
use Rattle.run_base.specs.Found.{kept_bytes}
use Rattle.run_base.specs.declared.status.Status.TheVariants as answer
use Rattle.run_base.proofs.Chosen.{all, nothing_written}
use Rattle.run_predict.proofs.Tabled.{accepted_part, accepted_whole, refused_part, refused_put}
use Rattle.run_predict.proofs.prediction.write_report.Goals as goal

pub returns-in_err-kept-clause-part : goal.returns-in_err-kept-clause-part
returns-in_err-kept-clause-part g c = all _ _ (λ held. nothing_written _ _)

-- an accepted snapshot
pub returns-in_err-put_table-in-Ok-clause-part : goal.returns-in_err-put_table-in-Ok-clause-part
returns-in_err-put_table-in-Ok-clause-part g c =
    accepted_part (tables_in c.args.table.now) (zone_of c.args.zone.now) c.args.moment (contents_told (g.F.Files.state c.args.files.now).told) c.args.file.now _ c.in_ok-kept.ensures.found
    (g.S.Sink.state c.args.out.now).written (g.S.Sink.state c.put_table.new.out).written c.in-Ok.kept (ap kept_bytes c.in-Ok.is) c.in_err-put_table-in-Ok.ensures.part

pub returns-in_ok-put_table-in-Ok-clause-part : goal.returns-in_ok-put_table-in-Ok-clause-part
returns-in_ok-put_table-in-Ok-clause-part g c =
    accepted_part (tables_in c.args.table.now) (zone_of c.args.zone.now) c.args.moment (contents_told (g.F.Files.state c.args.files.now).told) c.args.file.now _ c.in_ok-kept.ensures.found
    (g.S.Sink.state c.args.out.now).written (g.S.Sink.state c.put_table.new.out).written c.in-Ok.kept (ap kept_bytes c.in-Ok.is) c.in_ok-put_table-in-Ok.ensures.part

pub returns-in_ok-put_table-in-Ok-clause-whole : goal.returns-in_ok-put_table-in-Ok-clause-whole
returns-in_ok-put_table-in-Ok-clause-whole g c =
    accepted_whole (tables_in c.args.table.now) (zone_of c.args.zone.now) c.args.moment (contents_told (g.F.Files.state c.args.files.now).told) c.args.file.now _ c.in_ok-kept.ensures.found
    (g.S.Sink.state c.args.out.now).written (g.S.Sink.state c.put_table.new.out).written c.in-Ok.kept (ap kept_bytes c.in-Ok.is) answer.Clean c.in_ok-put_table-in-Ok.ensures.whole

-- a refused one
pub returns-in-Err-clause-part : goal.returns-in-Err-clause-part
returns-in-Err-clause-part g c =
    refused_part (tables_in c.args.table.now) (zone_of c.args.zone.now) c.args.moment (contents_told (g.F.Files.state c.args.files.now).told) c.args.file.now _ c.in_ok-kept.ensures.found
    (g.S.Sink.state c.args.out.now).written (g.S.Sink.state c.put_refused.new.out).written c.in-Err.refusal (ap kept_bytes c.in-Err.is) c.put_refused.ensures.text

pub returns-in-Err-clause-whole : goal.returns-in-Err-clause-whole
returns-in-Err-clause-whole g c =
    refused_put (tables_in c.args.table.now) (zone_of c.args.zone.now) c.args.moment (contents_told (g.F.Files.state c.args.files.now).told) c.args.file.now _ c.in_ok-kept.ensures.found
    (g.S.Sink.state c.args.out.now).written (g.S.Sink.state c.put_refused.new.out).written c.in-Err.refusal (ap kept_bytes c.in-Err.is) c.put_refused.result c.put_refused.ensures.whole
