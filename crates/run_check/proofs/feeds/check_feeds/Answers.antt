use Rattle.rule_history.specs.Answered.{tables_of}
use Rattle.run_rows.specs.follow_engine.Engines.{engine_data}
use Rattle.run_check.specs.Check.{all_findings, findings_ending}
use Rattle.run_check.proofs.Together.{findings_held}
use Rattle.run_base.proofs.Counted.{counted_whole, counted_part}
use Rattle.run_rows.specs.Counted.{files_work}
use Rattle.run_rows.proofs.Ended.{told_ended}
use Rattle.run_check.proofs.feeds.check_feeds.Goals as goal

pub returns-in-Ok-clause-carried : goal.returns-in-Ok-clause-carried
returns-in-Ok-clause-carried g c =
    let t = tables_of c.args.timetable in
    let engine = c.in-Ok.end.engine in
    told_ended (all_findings t) t c.args.moment c.args.names.now _ _ (g.S.Sink.state c.take_files.new.out) engine c.in-Ok.end.error (findings_ending (engine_data engine).list) c.end_with_findings.result
    c.in-Ok.ensures.whole c.take_files.ensures.later (findings_held t engine) (g.E.Sink.state c.take_files.new.err) c.in-Ok.ensures.silent c.end_with_findings.ensures

pub returns-in-Err-clause-carried : goal.returns-in-Err-clause-carried
returns-in-Err-clause-carried g c = c.in-Err.ensures.cut_off (all_findings (tables_of c.args.timetable))

pub returns-in-Ok-clause-counted : goal.returns-in-Ok-clause-counted
returns-in-Ok-clause-counted g c = counted_whole (files_work (tables_of c.args.timetable) c.args.moment c.args.names.now) _ _ _ c.end_with_findings.result c.in-Ok.ensures.counted

pub returns-in-Err-clause-counted : goal.returns-in-Err-clause-counted
returns-in-Err-clause-counted g c =
    counted_part (files_work (tables_of c.args.timetable) c.args.moment c.args.names.now) _ _ _ c.in-Err.told c.in-Err.ensures.undone c.take_files.ensures.most
