use Rattle.std.proofs.Common.{◌≡◌, inl, inr, refl, rules, subst, None, Err}
use Rattle.std.specs.FinMap.{get}
use Rattle.rt_outside.specs.Store.{contents_told}
use Rattle.feed_list.specs.Lists.{list_in}
use Rattle.rule_history.specs.Answered.{tables_of}
use Rattle.run_base.specs.Carried.{CarriesOut, exactly}
use Rattle.run_base.specs.Counted.{IsCounted, counters}
use Rattle.run_base.proofs.Counted.{counted_none, counted_within, input_ends}
use Rattle.run_list.specs.Listed.{Outcome, list_outcome}
use Rattle.run_list.specs.Stops.{IsReadByRows}
use Rattle.run_follow.specs.Follow.{IsFollowed, list_report, list_work, followed}
use Rattle.run_base.specs.Outside.{outside}
use Rattle.run_base.proofs.Chosen.{carried_within}
use Rattle.run_follow.proofs.Listed.{carried_list, rows_listed, work_listed}
use Rattle.run_base.proofs.Chosen.{each, rose_later}
use Rattle.run_follow.proofs.command.follow_list.Goals as goal

pub returns-in-Ok-clause-carried : goal.returns-in-Ok-clause-carried
returns-in-Ok-clause-carried g c =
    let list = c.args.list.now in
    let t = tables_of c.args.timetable in
    let told = contents_told (g.F.Files.state c.args.files.now).told in
    carried_within (λ held. followed (list_outcome t held c.in-Ok.rows)) (list_report list t) (IsReadByRows c.in-Ok.rows) (IsFollowed told None list)
    (g.F.Files.state c.read_list.new.files) (g.S.Sink.state c.args.out.now) (g.E.Sink.state c.args.err.now)
    (outside (g.F.Files.state c.follow_listed.new.files) (g.S.Sink.state c.follow_listed.new.out) (g.E.Sink.state c.follow_listed.new.err)) c.follow_listed.result
    (λ name is. inr (inl (record { rows = c.in-Ok.rows; rows_are = c.in-Ok.ensures.ok; there = is }))) (g.F.Files.state c.args.files.now)
    (rose_later _ _ _ c.read_list.ensures.later) c.read_list.ensures.contents (rows_listed told t list c.in-Ok.rows c.in-Ok.ensures.ok)
    (subst (λ rows. CarriesOut (exactly (λ held. followed (list_outcome t held rows))) (IsReadByRows rows)
    (outside (g.F.Files.state c.read_list.new.files) (g.S.Sink.state c.args.out.now) (g.E.Sink.state c.args.err.now))
    (outside (g.F.Files.state c.follow_listed.new.files) (g.S.Sink.state c.follow_listed.new.out) (g.E.Sink.state c.follow_listed.new.err)) c.follow_listed.result) c.as_slice.ensures c.follow_listed.ensures.carried)

pub returns-in-Err-clause-carried : goal.returns-in-Err-clause-carried
returns-in-Err-clause-carried g c =
    let list = c.args.list.now in
    let told = contents_told (g.F.Files.state c.args.files.now).told in
    carried_list (tables_of c.args.timetable) _ _ _ _ _ c.say_input_fault.result list (IsFollowed told None list) c.in-Err.fault c.told_as.result (inl refl)
    (λ read memory. each told _ (λ held. list_in (get held list) ≡ Err c.in-Err.fault) (λ held f. f read memory) c.in-Err.ensures.err)
    (λ e. c.in-Err.ensures.cause (search rules)) c.in-Err.ensures.asked c.told_as.ensures c.say_input_fault.ensures

pub returns-in-Ok-clause-counted : goal.returns-in-Ok-clause-counted
returns-in-Ok-clause-counted g c =
    let list = c.args.list.now in
    let t = tables_of c.args.timetable in
    let mid = contents_told (g.F.Files.state c.read_list.new.files).told in
    let told = contents_told (g.F.Files.state c.args.files.now).told in
    counted_within (λ held. let o : Outcome = list_outcome t held c.in-Ok.rows in o.work) mid _ _ c.follow_listed.result (list_work list t) told c.read_list.ensures.contents (work_listed told t list c.in-Ok.rows c.in-Ok.ensures.ok)
    (subst (λ rows. IsCounted (λ held. let o : Outcome = list_outcome t held rows in o.work) mid (counters c.args.decodes.now c.args.tests.now) (counters c.follow_listed.new.decodes c.follow_listed.new.tests) c.follow_listed.result)
    c.as_slice.ensures c.follow_listed.ensures.counted)

pub returns-in-Err-clause-counted : goal.returns-in-Err-clause-counted
returns-in-Err-clause-counted g c =
    counted_none (list_work c.args.list.now (tables_of c.args.timetable)) _ _ c.say_input_fault.result (input_ends c.told_as.result _ _ c.say_input_fault.result c.say_input_fault.ensures)
