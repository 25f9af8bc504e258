use Rattle.std.proofs.Common.{ap, ◌∙◌, subst}
use Rattle.std.specs.Io.KnownBytes.{append_known}
use Rattle.feed_values.specs.Snapshot.{entities_of}
use Rattle.rt_outside.specs.Sink.{AppendsPrefix}
use Rattle.timetable.specs.Lookups.{tables_in}
use Rattle.trip_calendar.specs.Zones.{zone_of}
use Rattle.run_predict.specs.Predicted.{IsTable}
use Rattle.run_predict.proofs.Tabled.{on_ok}
use Rattle.run_base.proofs.Chosen.{nothing_written}
use Rattle.run_predict.proofs.Texts.{table_head, table_part, table_whole}
use Rattle.run_predict.proofs.prediction.put_table.Goals as goal

pub returns-in_err-head-clause-part : goal.returns-in_err-head-clause-part
returns-in_err-head-clause-part g c =
    nothing_written (λ extent. IsTable extent (tables_in c.args.table.now) (zone_of c.args.zone.now) c.args.moment (entities_of c.args.kept.now)) (g.S.Sink.state c.args.out.now).written

pub returns-in_err-put_all-clause-part : goal.returns-in_err-put_all-clause-part
returns-in_err-put_all-clause-part g c =
    table_head (tables_in c.args.table.now) (zone_of c.args.zone.now) c.args.moment (entities_of c.args.kept.now) _ _
    (subst (AppendsPrefix _ _) (c.deref.ensures.value ∙ c.in_ok-head.ensures) c.in_err-put_all.ensures.err)

pub returns-clause-part : goal.returns-clause-part
returns-clause-part g c =
    table_part (tables_in c.args.table.now) (zone_of c.args.zone.now) c.args.moment (entities_of c.args.kept.now) _ _ _
    (c.in_ok-put_all.ensures.ok ∙ ap (append_known _) (c.deref.ensures.value ∙ c.in_ok-head.ensures)) c.put_entities.ensures.part

pub returns-clause-whole : goal.returns-clause-whole
returns-clause-whole g c =
    on_ok c.put_entities.result
    (table_whole (tables_in c.args.table.now) (zone_of c.args.zone.now) c.args.moment (entities_of c.args.kept.now) _ _ _
    (c.in_ok-put_all.ensures.ok ∙ ap (append_known _) (c.deref.ensures.value ∙ c.in_ok-head.ensures))) c.put_entities.ensures.whole
