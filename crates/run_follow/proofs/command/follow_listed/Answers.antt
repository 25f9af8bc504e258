use Rattle.std.proofs.Common.{refl}
use Rattle.rt_outside.specs.Store.{contents_told}
use Rattle.rule_history.specs.Answered.{tables_of}
use Rattle.run_base.proofs.Chosen.{carried_done}
use Rattle.run_base.proofs.Counted.{counted_whole, counted_part, fault_ends}
use Rattle.run_list.specs.Listed.{Outcome, list_outcome}
use Rattle.run_list.specs.Stops.{IsReadByRows, fault_of, name_of}
use Rattle.run_follow.specs.Follow.{followed}
use Rattle.run_follow.proofs.Listed.{carried_stop, rows_done}
use Rattle.run_follow.proofs.command.follow_listed.Goals as goal

pub returns-in-Ok-clause-carried : goal.returns-in-Ok-clause-carried
returns-in-Ok-clause-carried g c =
    carried_done (λ held. followed (list_outcome (tables_of c.args.timetable) held c.args.rows.now)) (IsReadByRows c.args.rows.now) _ _ c.found.result c.found.ensures.carried_out refl
    (rows_done (contents_told (g.F.Files.state c.args.files.now).told) (tables_of c.args.timetable) c.args.rows.now c.in-Ok.error (g.S.Sink.state c.args.out.now).written (g.S.Sink.state c.follow_rows.new.out).written
    c.found.result c.found.ensures.answer c.in-Ok.ensures.whole)

pub returns-in-Err-clause-carried : goal.returns-in-Err-clause-carried
returns-in-Err-clause-carried g c =
    carried_stop (λ held. followed (list_outcome (tables_of c.args.timetable) held c.args.rows.now)) (IsReadByRows c.args.rows.now) _ _ c.say_stop.result c.follow_rows.ensures.text
    c.in-Err.stop c.in-Err.ensures.stop c.say_stop.ensures

pub returns-in-Ok-clause-counted : goal.returns-in-Ok-clause-counted
returns-in-Ok-clause-counted g c =
    counted_whole (λ held. let o : Outcome = list_outcome (tables_of c.args.timetable) held c.args.rows.now in o.work) _ _ _ c.found.result c.in-Ok.ensures.counted

pub returns-in-Err-clause-counted : goal.returns-in-Err-clause-counted
returns-in-Err-clause-counted g c =
    counted_part (λ held. let o : Outcome = list_outcome (tables_of c.args.timetable) held c.args.rows.now in o.work) _ _ _ c.say_stop.result
    (fault_ends (fault_of c.in-Err.stop) (name_of c.in-Err.stop) _ _ c.say_stop.result c.say_stop.ensures) c.follow_rows.ensures.most
