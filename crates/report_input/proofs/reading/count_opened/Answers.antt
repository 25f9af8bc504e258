use Rattle.std.proofs.Common.{◌≡◌, arith}
use Rattle.std.proofs.lemmas.Grind.{common_steps}
use Rattle.std.proofs.lemmas.Bool.Decides.{nat_tests}
use Rattle.rt_outside.proofs.Pulls.{left_told-next}
use Rattle.report_input.proofs.FileLemmas.{all_came, none_came}
use Rattle.report_input.proofs.reading.count_opened.Goals as goal

pub loop-init : goal.loop-init
loop-init g c = record {
  come = none_came c.args.ignored.now (g.F.Files.state c.args.files.now).told c.in_ok-reader.reader (c.in_ok-reader.ensures c.args.ignored.now);
  later = omega arith;
}

pub returns-then-count-eq0-clause-counts : goal.returns-then-count-eq0-clause-counts
returns-then-count-eq0-clause-counts g c =
    let none : c.in_ok-count.count ≡ 0 = grind (arith, nat_tests, c.if-count-eq0.true) in
    all_came c.args.ignored.now (g.F.Files.state c.args.files.now).told _ c.loop.reader c.pull.new.buf c.in_ok-count.count c.in_ok-finish.field-0 c.loop.invariant.come c.in_ok-count.ensures.bytes none (grind (arith, common_steps))
    c.in_ok-finish.ensures

pub loop-preserved : goal.loop-preserved
loop-preserved g c =
    let come = c.loop.invariant.come in
    let came = c.in_ok-take_piece.ensures come.0 come.1 in
    record {
      come = (_, came, left_told-next _ _ _ come.0 _ c.pull.new.buf c.in_ok-count.count come.2 c.in_ok-count.ensures.store c.in_ok-count.ensures.bytes (grind (arith, common_steps)));
      later = omega arith;
    }
