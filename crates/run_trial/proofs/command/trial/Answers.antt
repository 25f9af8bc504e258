use Rattle.std.proofs.Common.{◌≡◌, ap, subst, Err, IfSome}
use Rattle.rt_outside.proofs.Appends.{AppendsPrefix-nothing}
use Rattle.rt_outside.specs.Quiet.{Quiet}
use Rattle.rt_outside.specs.Sink.{AppendsPrefix}
use Rattle.rt_outside.specs.Store.{contents_told}
use Rattle.run_base.specs.Carried.{CarriesOut, exactly}
use Rattle.run_trial.specs.Tried.{IsTrialFile, trial_folder, trial_report, trial_work}
use Rattle.run_timetable.specs.Timetables.{refusal_text}
use Rattle.run_base.specs.Outside.{outside}
use Rattle.run_base.specs.Report.{Report, refused_input}
use Rattle.run_timetable.proofs.GivenTable.{load_input}
use Rattle.run_base.specs.Faults.{IsErrorText}
use Rattle.run_base.specs.Inputs.{FailsAt}
use Rattle.run_base.proofs.Carried.{carried_input, carried_memory}
use Rattle.run_base.specs.declared.status.Status.TheVariants as answer
use Rattle.run_base.specs.Counted.{IsCounted, Work, counters}
use Rattle.run_base.proofs.Counted.{counted_none, input_ends, says_ends}
use Rattle.run_base.proofs.Chosen.{all}
use Rattle.run_trial.proofs.Trying.{never_rises, refused_trial, with_timetable_of_trial, work_with_timetable_of_trial}
use Rattle.run_trial.proofs.command.trial.Goals as goal

pub returns-in_default-clause-carried : goal.returns-in_default-clause-carried
returns-in_default-clause-carried g c = λ files.
    let report : Report = trial_report c.args.seed in
    let old = (g.S.Sink.state c.args.out.now).written in
    carried_memory (λ held. report) IsTrialFile (outside files (g.S.Sink.state c.args.out.now) (g.E.Sink.state c.args.err.now)) (outside files (g.S.Sink.state c.args.out.now) (g.E.Sink.state c.say_memory.new.err)) c.say_memory.result
    (all (contents_told files.told) (λ held. AppendsPrefix old old report.text) (λ held. AppendsPrefix-nothing old report.text)) c.say_memory.ensures

-- with the timetable that its files hold
pub returns-in-Ok-load-clause-carried : goal.returns-in-Ok-load-clause-carried
returns-in-Ok-load-clause-carried g c = λ files.
    let timetable = c.in-Ok-load.timetable in
    subst (λ (report : Report). CarriesOut (exactly (λ held. report)) IsTrialFile (outside files (g.S.Sink.state c.args.out.now) (g.E.Sink.state c.args.err.now))
    (outside files (g.S.Sink.state c.write_sum.new.out) (g.E.Sink.state c.write_sum.new.err)) c.write_sum.result)
    (with_timetable_of_trial c.args.seed timetable c.in-Ok.files.contents (ap (λ (q : Quiet). q.contents) c.in-Ok.ensures) c.in-Ok-load.ensures.present c.in-Ok-load.ensures.ok)
    (c.write_sum.ensures.carried files)

-- where the timetable isn't loaded, no read of its files failed
pub returns-clause-carried : goal.returns-clause-carried
returns-clause-carried g c = λ files.
    let report : Report = trial_report c.args.seed in
    carried_input (λ held. report) IsTrialFile files files (g.S.Sink.state c.args.out.now) (g.E.Sink.state c.args.err.now) (g.E.Sink.state c.say_input_fault.new.err) c.say_input_fault.result c.load_fault.result
    (load_input trial_folder c.in-Err.fault c.load_fault.result (FailsAt IsTrialFile files files)
    (λ text. IsErrorText IsTrialFile text × IfSome (contents_told files.told) (λ held. report ≡ refused_input text)) c.load_fault.ensures
    (λ file e. absurd (never_rises (c.in-Err.ensures.cause file (ap Err e))))
    (λ read memory may. (
      may,
      all (contents_told files.told) (λ held. report ≡ refused_input (refusal_text trial_folder c.in-Err.fault))
          (λ held. refused_trial c.args.seed c.in-Ok.files.contents c.in-Err.fault (ap (λ (q : Quiet). q.contents) c.in-Ok.ensures) (c.in-Err.ensures.err memory read)),
    ))) c.say_input_fault.ensures

pub returns-in_default-clause-counted : goal.returns-in_default-clause-counted
returns-in_default-clause-counted g c = λ told.
    counted_none (λ held. trial_work c.args.seed) told _ c.say_memory.result (says_ends _ answer.Memory _ _ c.say_memory.result (λ done. done) c.say_memory.ensures)

pub returns-in-Ok-load-clause-counted : goal.returns-in-Ok-load-clause-counted
returns-in-Ok-load-clause-counted g c = λ told.
    let timetable = c.in-Ok-load.timetable in
    subst (λ (work : Work). IsCounted (λ held. work) told (counters c.args.decodes.now c.args.tests.now) (counters c.write_sum.new.decodes c.write_sum.new.tests) c.write_sum.result)
    (work_with_timetable_of_trial c.args.seed timetable c.in-Ok.files.contents (ap (λ (q : Quiet). q.contents) c.in-Ok.ensures) c.in-Ok-load.ensures.present c.in-Ok-load.ensures.ok)
    (c.write_sum.ensures.counted told)

pub returns-clause-counted : goal.returns-clause-counted
returns-clause-counted g c = λ told.
    counted_none (λ held. trial_work c.args.seed) told _ c.say_input_fault.result (input_ends c.load_fault.result _ _ c.say_input_fault.result c.say_input_fault.ensures)
