use Rattle.std.proofs.Common.{◌++◌, subst, take_all}
use Rattle.report_input.specs.Reading.{IsReading}
use Rattle.report_input.proofs.CutLemmas.{one_longer}
use Rattle.report_input.proofs.reading.take_piece.Goals as goal

pub loop-byte-preserved : goal.loop-byte-preserved
loop-byte-preserved c = λ before is.
    subst (λ bytes. IsReading c.args.ignored.now bytes c.take.new.self) (one_longer before c.args.piece.now c.loop-byte.byte-index _ c.loop-byte-test.true) (c.in_ok-take.ensures _ (c.loop-byte.invariant before is))

pub returns : goal.returns
returns c = λ before is.
    subst (λ bytes. IsReading c.args.ignored.now (before ++ bytes) c.loop-byte.reader) (take_all c.loop-byte.byte-index c.args.piece.now c.loop-byte-test.false) (c.loop-byte.invariant before is)
