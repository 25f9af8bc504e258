use Rattle.std.proofs.Common.{ℕ, List, ◌++◌, take}
use Rattle.report_input.specs.Reading.{IsReading}
use Rattle.report_input.proofs.reading.take_piece.Given as goal

-- the bytes so far came
abbrev pub invariant-loop-byte : goal.invariant-loop-byte
invariant-loop-byte l = (before : List ℕ) → IsReading l.fn.ignored before l.fn.reader → IsReading l.fn.ignored (before ++ take l.byte-index l.piece) l.reader
