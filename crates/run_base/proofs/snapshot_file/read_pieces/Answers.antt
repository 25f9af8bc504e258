use Rattle.std.proofs.Common.{arith, sym, length, ◌∙◌}
use Rattle.std.proofs.lemmas.Grind.{common_steps}
use Rattle.rt_outside.proofs.Pulls.{left_told-next, contents_told-pulled}
use Rattle.run_base.proofs.Pieces.{at_limit, past}
use Rattle.run_base.proofs.snapshot_file.read_pieces.Goals as goal

pub loop-piece-preserved : goal.loop-piece-preserved
loop-piece-preserved g c =
    let store = c.in-Ok.ensures.store in
    let read = c.loop-piece.invariant.read in
    let came = c.in_ok-splitter.ensures.came read.0 read.1 in
    record {
      read = (_, came, left_told-next _ _ _ read.0 _ c.pull.new.buf c.in-Ok.count read.2 store c.in-Ok.ensures.bytes (grind (arith, common_steps)));
      contents = contents_told-pulled _ _ c.in-Ok.count store ∙ c.loop-piece.invariant.contents;
      asked = c.in-Ok.ensures.asked ∙ c.loop-piece.invariant.asked;
      later = omega arith;
    }

pub returns-clause-pieces : goal.returns-clause-pieces
returns-clause-pieces g c =
    let read = c.loop-piece.invariant.read in
    at_limit _ _ _ read (past (length read.0) (sym (c.is_full.ensures.came read.0 read.1) ∙ c.loop-piece-test.false))
