use Rattle.std.proofs.Common.{◌∙◌, subst, arith, rules, sym, refl, [], IfSome}
use Rattle.rt_outside.specs.Store.{contents_told}
use Rattle.rt_outside.proofs.Appends.{append_known-nil}
use Rattle.rule_history.specs.Answered.{tables_of}
use Rattle.run_base.specs.Counted.{RoseAtMost, RoseBy, counters}
use Rattle.run_base.proofs.Chosen.{all, each, rose_later}
use Rattle.run_base.proofs.Counted.{at_most, by_none}
use Rattle.run_list.specs.Listed.{input_in, row_outcome, started}
use Rattle.run_list.specs.Taken.{Counts, IsRowEnd}
use Rattle.run_list.proofs.RowByRow.{counted_all, counted_next, cut, done_all, done_next, done_none, got, most_next, stopped}
use Rattle.run_list.proofs.States.{begins, read_by_rows, within_next}
use Rattle.run_list.proofs.rows.follow_rows.Goals as goal

pub loop-index-init : goal.loop-index-init
loop-index-init g c =
    let is_in = begins c.new-engine.result (tables_of c.args.table) c.new-engine.ensures in
    record {
      told = refl;
      within = record { state = started (tables_of c.args.table); is_in = is_in; within = omega arith };
      done = done_none (contents_told (g.F.Files.state c.args.files.now).told) (tables_of c.args.table) (g.S.Sink.state c.args.out.now).written c.args.rows.now c.new-engine.result is_in
          (sym (append_known-nil (g.S.Sink.state c.args.out.now).written));
      counted = all (contents_told (g.F.Files.state c.args.files.now).told) _ (λ held. by_none (counters c.args.decodes.now c.args.tests.now));
      read_later = omega arith;
      write_later = omega arith;
    }

pub loop-index-preserved : goal.loop-index-preserved
loop-index-preserved g c =
    let told = contents_told (g.F.Files.state c.args.files.now).told in
    let t = tables_of c.args.table in
    let row = c.index-rows-index.result in
    let end = c.in_ok-end.end in
    let is : IsRowEnd told c.loop-index.index row c.loop-index.engine end = subst (λ told. IsRowEnd told c.loop-index.index row c.loop-index.engine end) c.loop-index.invariant.told c.in_ok-end.ensures.outcome in
    record {
      told = c.take_listed.ensures.contents ∙ c.loop-index.invariant.told;
      within = within_next told c.loop-index.index c.loop-index.index row c.loop-index.engine end c.loop-index.invariant.within is;
      done = done_next told t (g.S.Sink.state c.args.out.now).written (g.S.Sink.state c.loop-index.out).written (g.S.Sink.state c.put_lines.new.out).written c.args.rows.now c.loop-index.engine c.loop-index.error c.either-error.result
          c.loop-index.index row end c.loop-index-test.true c.index-rows-index.is c.loop-index.invariant.done is c.either-error.ensures c.in-Ok.ensures.whole;
      counted = counted_next t c.args.rows.now (counters c.args.decodes.now c.args.tests.now) (g.S.Sink.state c.args.out.now).written (g.S.Sink.state c.loop-index.out).written c.loop-index.engine c.loop-index.error
          c.loop-index.index row c.loop-index-test.true c.index-rows-index.is (counters c.loop-index.decodes c.loop-index.tests) (counters c.take_listed.new.decodes c.take_listed.new.tests) told c.loop-index.invariant.done
          c.loop-index.invariant.counted (subst (λ told. IfSome told (λ held. Counts RoseBy (λ st. row_outcome st c.loop-index.index row (input_in row held)) c.loop-index.engine (counters c.loop-index.decodes c.loop-index.tests) (counters c.take_listed.new.decodes c.take_listed.new.tests)))
          c.loop-index.invariant.told c.in_ok-end.ensures.counted);
      read_later = omega (arith, c.loop-index.invariant.read_later, c.take_listed.ensures.later);
      write_later = omega (arith, c.loop-index.invariant.write_later, c.in-Ok.ensures.later);
    }

-- the row can't be taken
pub returns-in_err-end-clause-text : goal.returns-in_err-end-clause-text
returns-in_err-end-clause-text g c =
    stopped (contents_told (g.F.Files.state c.args.files.now).told) (tables_of c.args.table) (g.S.Sink.state c.args.out.now).written (g.S.Sink.state c.loop-index.out).written c.args.rows.now
    c.loop-index.engine c.loop-index.error c.loop-index.index c.loop-index.invariant.done

pub returns-in_err-end-clause-most : goal.returns-in_err-end-clause-most
returns-in_err-end-clause-most g c =
    most_next (tables_of c.args.table) c.args.rows.now (counters c.args.decodes.now c.args.tests.now) (g.S.Sink.state c.args.out.now).written (g.S.Sink.state c.loop-index.out).written c.loop-index.engine c.loop-index.error
    c.loop-index.index c.index-rows-index.result c.loop-index-test.true c.index-rows-index.is (counters c.loop-index.decodes c.loop-index.tests) (counters c.take_listed.new.decodes c.take_listed.new.tests)
    (contents_told (g.F.Files.state c.args.files.now).told) c.loop-index.invariant.done c.loop-index.invariant.counted
    (subst (λ told. IfSome told (λ held. Counts RoseAtMost (λ st. row_outcome st c.loop-index.index c.index-rows-index.result (input_in c.index-rows-index.result held)) c.loop-index.engine (counters c.loop-index.decodes c.loop-index.tests) (counters c.take_listed.new.decodes c.take_listed.new.tests)))
    c.loop-index.invariant.told c.take_listed.ensures.most)

-- its lines can't be written
pub returns-in-Err-clause-text : goal.returns-in-Err-clause-text
returns-in-Err-clause-text g c =
    let told = contents_told (g.F.Files.state c.args.files.now).told in
    let row = c.index-rows-index.result in
    let end = c.in_ok-end.end in
    cut told (tables_of c.args.table) (g.S.Sink.state c.args.out.now).written (g.S.Sink.state c.loop-index.out).written (g.S.Sink.state c.put_lines.new.out).written c.args.rows.now c.loop-index.engine c.loop-index.error
    c.loop-index.index row end c.loop-index-test.true c.index-rows-index.is c.loop-index.invariant.done
    (subst (λ told. IsRowEnd told c.loop-index.index row c.loop-index.engine end) c.loop-index.invariant.told c.in_ok-end.ensures.outcome)
    c.in-Err.ensures.part

pub returns-in-Err-clause-whole : goal.returns-in-Err-clause-whole
returns-in-Err-clause-whole g c = all (contents_told (g.F.Files.state c.args.files.now).told) _ (λ held. tt)

pub returns-in-Err-clause-counted : goal.returns-in-Err-clause-counted
returns-in-Err-clause-counted g c = all (contents_told (g.F.Files.state c.args.files.now).told) _ (λ held. tt)

pub returns-in-Err-clause-most : goal.returns-in-Err-clause-most
returns-in-Err-clause-most g c =
    most_next (tables_of c.args.table) c.args.rows.now (counters c.args.decodes.now c.args.tests.now) (g.S.Sink.state c.args.out.now).written (g.S.Sink.state c.loop-index.out).written c.loop-index.engine c.loop-index.error
    c.loop-index.index c.index-rows-index.result c.loop-index-test.true c.index-rows-index.is (counters c.loop-index.decodes c.loop-index.tests) (counters c.take_listed.new.decodes c.take_listed.new.tests)
    (contents_told (g.F.Files.state c.args.files.now).told) c.loop-index.invariant.done c.loop-index.invariant.counted
    (subst (λ told. IfSome told (λ held. Counts RoseAtMost (λ st. row_outcome st c.loop-index.index c.index-rows-index.result (input_in c.index-rows-index.result held)) c.loop-index.engine (counters c.loop-index.decodes c.loop-index.tests) (counters c.take_listed.new.decodes c.take_listed.new.tests)))
    c.loop-index.invariant.told c.take_listed.ensures.most)

-- all rows were followed
pub returns-clause-text : goal.returns-clause-text
returns-clause-text g c =
    stopped (contents_told (g.F.Files.state c.args.files.now).told) (tables_of c.args.table) (g.S.Sink.state c.args.out.now).written (g.S.Sink.state c.loop-index.out).written c.args.rows.now
    c.loop-index.engine c.loop-index.error c.loop-index.index c.loop-index.invariant.done

pub returns-clause-whole : goal.returns-clause-whole
returns-clause-whole g c =
    each (contents_told (g.F.Files.state c.args.files.now).told) _ _ (λ held d. (d.error_is, d.written))
    (done_all (contents_told (g.F.Files.state c.args.files.now).told) (tables_of c.args.table) (g.S.Sink.state c.args.out.now).written (g.S.Sink.state c.loop-index.out).written c.args.rows.now
    c.loop-index.engine c.loop-index.error c.loop-index.index (omega (arith, c.loop-index-test.false)) c.loop-index.invariant.done)

pub returns-clause-counted : goal.returns-clause-counted
returns-clause-counted g c =
    counted_all (tables_of c.args.table) c.args.rows.now (counters c.args.decodes.now c.args.tests.now) (contents_told (g.F.Files.state c.args.files.now).told) (counters c.loop-index.decodes c.loop-index.tests)
    c.loop-index.index (omega (arith, c.loop-index-test.false)) c.loop-index.invariant.counted

pub returns-clause-most : goal.returns-clause-most
returns-clause-most g c =
    each (contents_told (g.F.Files.state c.args.files.now).told) _ _ (λ held rose. at_most _ _ _ rose) (returns-clause-counted g c)
