use Rattle.std.proofs.Common.{inl, inr, refl, map, string_bytes, subst}
use Rattle.rt_outside.specs.Store.{contents_told}
use Rattle.run_base.specs.declared.status.Status.TheVariants as answer
use Rattle.run_base.specs.Counted.{IsCounted, counters}
use Rattle.run_base.proofs.Counted.{counted_none, says_ends}
use Rattle.rt_run.specs.Counted.{JudgesNothing, run_work}
use Rattle.run_base.specs.Faults.{says_memory, memory_text, TellsOneOf}
use Rattle.rt_run.specs.Reads.{IsRunText, Reads}
use Rattle.rt_run.specs.Reported.{IsReport}
use Rattle.rt_run.proofs.Asked.{tells_asked, tells_nothing_more, tells_run, tells_usage, memory_reported}
use Rattle.run_words.specs.Words.{request}
use Rattle.run_words.proofs.Requests.{request_names_files}
use Rattle.run_base.proofs.Told.{tells}
use Rattle.rt_run.proofs.running.run.Goals as goal

pub returns-in-Err-clause-report : goal.returns-in-Err-clause-report
returns-in-Err-clause-report g c = tells_nothing_more (IsReport (map string_bytes c.args.words.now) c.args.now) _ _ _ _ _ c.say_memory.result (memory_reported memory_text _ _ c.say_memory.result c.say_memory.ensures)

pub returns-in-Err-clause-told : goal.returns-in-Err-clause-told
returns-in-Err-clause-told g c = tells _ _ _ _ _ _ answer.Memory c.say_memory.result (inr says_memory) (λ w. w) c.say_memory.ensures

pub returns-in-Ok-None-clause-report : goal.returns-in-Ok-None-clause-report
returns-in-Ok-None-clause-report g c = tells_usage _ c.args.now _ _ _ _ _ c.say.result (rw c.in-Ok-None.field-0-is at c.in-Ok-None.ensures) c.say.ensures

pub returns-in-Ok-None-clause-told : goal.returns-in-Ok-None-clause-told
returns-in-Ok-None-clause-told g c = tells _ _ _ _ _ _ answer.Usage c.say.result (inl refl) (λ w. tt) c.say.ensures

pub returns-in-Ok-Some-clause-report : goal.returns-in-Ok-Some-clause-report
returns-in-Ok-Some-clause-report g c = tells_asked _ _ c.args.now _ _ _ c.carry_out.result (rw c.in-Ok-Some.field-0-is at c.in-Ok-Some.ensures) c.carry_out.ensures.carried

pub returns-in-Ok-Some-clause-told : goal.returns-in-Ok-Some-clause-told
returns-in-Ok-Some-clause-told g c =
    subst (λ asked. let reads = Reads asked (contents_told (g.F.Files.state c.args.files.now).told) in
    TellsOneOf (IsRunText reads) reads (g.F.Files.state c.carry_out.new.files).asked (g.E.Sink.state c.args.err.now) (g.E.Sink.state c.carry_out.new.err) c.carry_out.result)
    (rw c.in-Ok-Some.field-0-is at c.in-Ok-Some.ensures) (tells_run _ _ _ _ c.carry_out.result c.carry_out.ensures.carried.told)

pub carry_out-requires : goal.carry_out-requires
carry_out-requires g c = request_names_files (map string_bytes c.args.words.now) _ (rw c.in-Ok-Some.field-0-is at c.in-Ok-Some.ensures)

pub returns-in-Err-clause-counted : goal.returns-in-Err-clause-counted
returns-in-Err-clause-counted g c = counted_none (run_work (request (map string_bytes c.args.words.now)) c.args.now) _ _ c.say_memory.result (says_ends _ answer.Memory _ _ c.say_memory.result (λ done. done) c.say_memory.ensures)

pub returns-in-Ok-None-clause-counted : goal.returns-in-Ok-None-clause-counted
returns-in-Ok-None-clause-counted g c = counted_none (run_work (request (map string_bytes c.args.words.now)) c.args.now) _ _ c.say.result (says_ends _ answer.Usage _ _ c.say.result (λ done. done) c.say.ensures)

pub returns-in-Ok-Some-clause-counted : goal.returns-in-Ok-Some-clause-counted
returns-in-Ok-Some-clause-counted g c =
    subst (λ asked. IsCounted (run_work asked c.args.now) (contents_told (g.F.Files.state c.args.files.now).told) (counters c.args.decodes.now c.args.tests.now) (counters c.carry_out.new.decodes c.carry_out.new.tests) c.carry_out.result)
    (rw c.in-Ok-Some.field-0-is at c.in-Ok-Some.ensures) c.carry_out.ensures.counted
