use Rattle.std.proofs.Common.{◌≡◌, [], ◌∙◌, refl, ap, subst}
use Rattle.std.specs.Io.KnownBytes.{append_known}
use Rattle.rt_outside.proofs.Appends.{AppendsPrefix-nothing}
use Rattle.rt_outside.specs.Sink.{AppendsPrefix}
use Rattle.rt_outside.specs.Store.{contents_told}
use Rattle.rule_history.specs.Answered.{tables_of}
use Rattle.trial_feed.specs.Snapshots.{trial_snapshots}
use Rattle.run_trial.specs.Tried.{IsTrialFile, history_report}
use Rattle.run_base.specs.Outside.{outside}
use Rattle.run_base.specs.Report.{Report}
use Rattle.run_base.specs.declared.status.Status.{Status}
use Rattle.run_base.specs.declared.status.Status.TheVariants as answer
use Rattle.run_base.proofs.Carried.{carried_memory, carried_other_fault}
use Rattle.run_base.proofs.Counted.{counted_whole, counted_part, says_ends}
use Rattle.run_rows.specs.Counted.{history_work}
use Rattle.run_base.proofs.Chosen.{all, carried_done, not_read}
use Rattle.run_trial.proofs.command.write_sum.Goals as goal

pub returns-in_default-clause-carried : goal.returns-in_default-clause-carried
returns-in_default-clause-carried g c = λ files.
    let report : Report = history_report (tables_of c.args.timetable) (trial_snapshots c.args.seed) in
    let old = (g.S.Sink.state c.args.out.now).written in
    carried_memory (λ held. report) IsTrialFile (outside files (g.S.Sink.state c.args.out.now) (g.E.Sink.state c.args.err.now)) (outside files (g.S.Sink.state c.args.out.now) (g.E.Sink.state c.say_memory.new.err)) c.say_memory.result
    (all (contents_told files.told) (λ held. AppendsPrefix old old report.text) (λ held. AppendsPrefix-nothing old report.text)) c.say_memory.ensures

-- the line was written
pub returns-in-Ok-put_all-clause-carried : goal.returns-in-Ok-put_all-clause-carried
returns-in-Ok-put_all-clause-carried g c = λ files.
    let report : Report = history_report (tables_of c.args.timetable) (trial_snapshots c.args.seed) in
    let out = g.S.Sink.state c.args.out.now in
    let new = g.S.Sink.state c.put_all.new.sink in
    carried_done (λ held. report) IsTrialFile (outside files out (g.E.Sink.state c.args.err.now)) (outside files new (g.E.Sink.state c.args.err.now)) answer.Clean tt refl
    (all (contents_told files.told) (λ held. (new.written ≡ append_known out.written report.text) × ((let s : Status = answer.Clean in s) ≡ report.status) × (report.errors ≡ []))
    (λ held. (c.in-Ok-put_all.ensures.ok ∙ ap (append_known out.written) (c.deref.ensures.value ∙ c.in-Ok.ensures.text), refl, refl)))

-- it couldn't be written
pub returns-clause-carried : goal.returns-clause-carried
returns-clause-carried g c = λ files.
    let report : Report = history_report (tables_of c.args.timetable) (trial_snapshots c.args.seed) in
    let out = g.S.Sink.state c.args.out.now in
    let new = g.S.Sink.state c.put_all.new.sink in
    carried_other_fault (λ held. report) IsTrialFile (outside files out (g.E.Sink.state c.args.err.now)) (outside files new (g.E.Sink.state c.say_fault.new.err)) c.say_fault.result
    (all (contents_told files.told) (λ held. AppendsPrefix out.written new.written report.text)
    (λ held. subst (AppendsPrefix out.written new.written) (c.deref.ensures.value ∙ c.in-Ok.ensures.text) c.in-Err.ensures.err))
    c.from.result [] (not_read c.from.result c.from.ensures) (λ e. c.in-Err.ensures.cause.failed) c.say_fault.ensures

pub returns-in_default-clause-counted : goal.returns-in_default-clause-counted
returns-in_default-clause-counted g c = λ told.
    counted_part (λ held. history_work (tables_of c.args.timetable) (trial_snapshots c.args.seed)) told _ _ c.say_memory.result (says_ends _ answer.Memory _ _ c.say_memory.result (λ done. done) c.say_memory.ensures)
    (all told _ (λ held. c.sum_up.ensures.most))

pub returns-in-Ok-put_all-clause-counted : goal.returns-in-Ok-put_all-clause-counted
returns-in-Ok-put_all-clause-counted g c = λ told.
    counted_whole (λ held. history_work (tables_of c.args.timetable) (trial_snapshots c.args.seed)) told _ _ answer.Clean (all told _ (λ held. c.in-Ok.ensures.counted))

pub returns-clause-counted : goal.returns-clause-counted
returns-clause-counted g c = λ told.
    counted_whole (λ held. history_work (tables_of c.args.timetable) (trial_snapshots c.args.seed)) told _ _ c.say_fault.result (all told _ (λ held. c.in-Ok.ensures.counted))
