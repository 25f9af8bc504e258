use Rattle.std.proofs.Common.{◌∙◌, subst, arith, rules, sym, refl, [], IfSome}
use Rattle.rt_outside.specs.Store.{contents_told}
use Rattle.rt_outside.proofs.Appends.{append_known-nil}
use Rattle.rule_history.specs.Answered.{tables_of}
use Rattle.std.specs.FinMap.{get}
use Rattle.run_base.specs.Counted.{RoseAtMost, RoseBy, counters}
use Rattle.run_base.specs.Found.{bytes_in}
use Rattle.run_base.proofs.Chosen.{all, each, rose_later}
use Rattle.run_base.proofs.Counted.{at_most, by_none}
use Rattle.run_rows.specs.Followed.{IsRowEnd, RowCounts}
use Rattle.run_rows.proofs.Counted.{counted_all_rows, counted_next, most_next}
use Rattle.run_rows.proofs.RowByRow.{done_none, done_all, stopped, cut, done_next, within_next, got}
use Rattle.run_rows.proofs.rows.follow_rows.Goals as goal

pub loop-index-init : goal.loop-index-init
loop-index-init g c =
    record {
      told = refl;
      within = record { history = []; stands_for = c.new-engine.ensures; within = omega arith };
      done = done_none (contents_told (g.F.Files.state c.args.files.now).told) c.args.telling (tables_of c.args.table) (g.S.Sink.state c.args.out.now).written c.args.rows.now c.new-engine.result c.new-engine.ensures
          (sym (append_known-nil (g.S.Sink.state c.args.out.now).written));
      counted = all (contents_told (g.F.Files.state c.args.files.now).told) _ (λ held. by_none (counters c.args.decodes.now c.args.tests.now));
      read_later = omega arith;
      write_later = omega arith;
    }

pub loop-index-preserved : goal.loop-index-preserved
loop-index-preserved g c =
    let told = contents_told (g.F.Files.state c.args.files.now).told in
    let t = tables_of c.args.table in
    let row = c.index-rows-index.result in
    let end = c.in-Ok.end in
    let is : IsRowEnd told c.args.telling c.loop-index.index row c.loop-index.engine end = subst (λ told. IsRowEnd told c.args.telling c.loop-index.index row c.loop-index.engine end) c.loop-index.invariant.told c.in-Ok.ensures.outcome in
    record {
      told = c.take_row.ensures.contents ∙ c.loop-index.invariant.told;
      within = within_next told c.args.telling t c.loop-index.index c.loop-index.index row c.loop-index.engine end c.loop-index.invariant.within is;
      done = done_next told c.args.telling t (g.S.Sink.state c.args.out.now).written (g.S.Sink.state c.loop-index.out).written (g.S.Sink.state c.put_lines.new.out).written c.args.rows.now c.loop-index.engine c.loop-index.error c.either-error.result
          c.loop-index.index row end c.loop-index-test.true c.index-rows-index.is c.loop-index.invariant.done is c.either-error.ensures c.in-Ok-put_lines.ensures.whole;
      counted = counted_next c.args.telling t c.args.rows.now (counters c.args.decodes.now c.args.tests.now) (g.S.Sink.state c.args.out.now).written (g.S.Sink.state c.loop-index.out).written c.loop-index.engine c.loop-index.error
          c.loop-index.index row c.loop-index-test.true c.index-rows-index.is (counters c.loop-index.decodes c.loop-index.tests) (counters c.take_row.new.decodes c.take_row.new.tests) told c.loop-index.invariant.done
          c.loop-index.invariant.counted (subst (λ told. IfSome told (λ held. RowCounts RoseBy c.loop-index.engine row (bytes_in (get held row.path)) (counters c.loop-index.decodes c.loop-index.tests) (counters c.take_row.new.decodes c.take_row.new.tests)))
          c.loop-index.invariant.told c.in-Ok.ensures.counted);
      read_later = omega (arith, c.loop-index.invariant.read_later, c.take_row.ensures.later);
      write_later = omega (arith, c.loop-index.invariant.write_later, c.in-Ok-put_lines.ensures.later);
    }

-- the row can't be judged
pub returns-in-Err-clause-text : goal.returns-in-Err-clause-text
returns-in-Err-clause-text g c =
    stopped (contents_told (g.F.Files.state c.args.files.now).told) c.args.telling (tables_of c.args.table) (g.S.Sink.state c.args.out.now).written (g.S.Sink.state c.loop-index.out).written c.args.rows.now
    c.loop-index.engine c.loop-index.error c.loop-index.index c.loop-index.invariant.done

pub returns-in-Err-clause-most : goal.returns-in-Err-clause-most
returns-in-Err-clause-most g c =
    most_next c.args.telling (tables_of c.args.table) c.args.rows.now (counters c.args.decodes.now c.args.tests.now) (g.S.Sink.state c.args.out.now).written (g.S.Sink.state c.loop-index.out).written c.loop-index.engine c.loop-index.error
    c.loop-index.index c.index-rows-index.result c.loop-index-test.true c.index-rows-index.is (counters c.loop-index.decodes c.loop-index.tests) (counters c.take_row.new.decodes c.take_row.new.tests)
    (contents_told (g.F.Files.state c.args.files.now).told) c.loop-index.invariant.done c.loop-index.invariant.counted
    (subst (λ told. IfSome told (λ held. RowCounts RoseAtMost c.loop-index.engine c.index-rows-index.result (bytes_in (get held c.index-rows-index.result.path)) (counters c.loop-index.decodes c.loop-index.tests) (counters c.take_row.new.decodes c.take_row.new.tests)))
    c.loop-index.invariant.told c.take_row.ensures.most)

pub returns-in-Err-clause-faults : goal.returns-in-Err-clause-faults
returns-in-Err-clause-faults g c = record {
  row = c.index-rows-index.result;
  there = got c.args.rows.now c.loop-index.index c.index-rows-index.result c.loop-index-test.true c.index-rows-index.is;
  named = c.take_row.ensures.asked;
  read = λ e. rose_later _ _ _ c.loop-index.invariant.read_later (c.in-Err.ensures.read (search rules));
  write = λ e. absurd (c.in-Err.ensures.not_write (search rules));
}

-- its lines can't be written
pub returns-in-Err-put_lines-clause-text : goal.returns-in-Err-put_lines-clause-text
returns-in-Err-put_lines-clause-text g c =
    let told = contents_told (g.F.Files.state c.args.files.now).told in
    let row = c.index-rows-index.result in
    let end = c.in-Ok.end in
    cut told c.args.telling (tables_of c.args.table) (g.S.Sink.state c.args.out.now).written (g.S.Sink.state c.loop-index.out).written (g.S.Sink.state c.put_lines.new.out).written c.args.rows.now c.loop-index.engine c.loop-index.error
    c.loop-index.index row end c.loop-index-test.true c.index-rows-index.is c.loop-index.invariant.done
    (subst (λ told. IsRowEnd told c.args.telling c.loop-index.index row c.loop-index.engine end) c.loop-index.invariant.told c.in-Ok.ensures.outcome)
    c.in-Err-put_lines.ensures.part

pub returns-in-Err-put_lines-clause-whole : goal.returns-in-Err-put_lines-clause-whole
returns-in-Err-put_lines-clause-whole g c = all (contents_told (g.F.Files.state c.args.files.now).told) _ (λ held. tt)

pub returns-in-Err-put_lines-clause-counted : goal.returns-in-Err-put_lines-clause-counted
returns-in-Err-put_lines-clause-counted g c = all (contents_told (g.F.Files.state c.args.files.now).told) _ (λ held. tt)

pub returns-in-Err-put_lines-clause-most : goal.returns-in-Err-put_lines-clause-most
returns-in-Err-put_lines-clause-most g c =
    most_next c.args.telling (tables_of c.args.table) c.args.rows.now (counters c.args.decodes.now c.args.tests.now) (g.S.Sink.state c.args.out.now).written (g.S.Sink.state c.loop-index.out).written c.loop-index.engine c.loop-index.error
    c.loop-index.index c.index-rows-index.result c.loop-index-test.true c.index-rows-index.is (counters c.loop-index.decodes c.loop-index.tests) (counters c.take_row.new.decodes c.take_row.new.tests)
    (contents_told (g.F.Files.state c.args.files.now).told) c.loop-index.invariant.done c.loop-index.invariant.counted
    (subst (λ told. IfSome told (λ held. RowCounts RoseAtMost c.loop-index.engine c.index-rows-index.result (bytes_in (get held c.index-rows-index.result.path)) (counters c.loop-index.decodes c.loop-index.tests) (counters c.take_row.new.decodes c.take_row.new.tests)))
    c.loop-index.invariant.told c.take_row.ensures.most)

pub returns-in-Err-put_lines-clause-faults : goal.returns-in-Err-put_lines-clause-faults
returns-in-Err-put_lines-clause-faults g c = record {
  row = c.index-rows-index.result;
  there = got c.args.rows.now c.loop-index.index c.index-rows-index.result c.loop-index-test.true c.index-rows-index.is;
  named = c.take_row.ensures.asked;
  read = λ e. absurd (c.in-Err-put_lines.ensures.not_read (search rules));
  write = λ e. rose_later _ _ _ c.loop-index.invariant.write_later (c.in-Err-put_lines.ensures.write (search rules));
}

-- all rows were followed
pub returns-clause-text : goal.returns-clause-text
returns-clause-text g c =
    stopped (contents_told (g.F.Files.state c.args.files.now).told) c.args.telling (tables_of c.args.table) (g.S.Sink.state c.args.out.now).written (g.S.Sink.state c.loop-index.out).written c.args.rows.now
    c.loop-index.engine c.loop-index.error c.loop-index.index c.loop-index.invariant.done

pub returns-clause-whole : goal.returns-clause-whole
returns-clause-whole g c =
    done_all (contents_told (g.F.Files.state c.args.files.now).told) c.args.telling (tables_of c.args.table) (g.S.Sink.state c.args.out.now).written (g.S.Sink.state c.loop-index.out).written c.args.rows.now
    c.loop-index.engine c.loop-index.error c.loop-index.index (omega (arith, c.loop-index-test.false)) c.loop-index.invariant.done

pub returns-clause-counted : goal.returns-clause-counted
returns-clause-counted g c =
    counted_all_rows c.args.telling (tables_of c.args.table) c.args.rows.now (counters c.args.decodes.now c.args.tests.now) (contents_told (g.F.Files.state c.args.files.now).told) (counters c.loop-index.decodes c.loop-index.tests)
    c.loop-index.index (omega (arith, c.loop-index-test.false)) c.loop-index.invariant.counted

pub returns-clause-most : goal.returns-clause-most
returns-clause-most g c =
    each (contents_told (g.F.Files.state c.args.files.now).told) _ _ (λ held rose. at_most _ _ _ rose) (returns-clause-counted g c)
