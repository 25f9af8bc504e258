use Rattle.std.proofs.Common.{◌≡◌, ◌<◌, length, sym, ◌∙◌, arith}
use Rattle.std.proofs.lemmas.Bool.Decides.{nat_tests}
use Rattle.report_input.proofs.HeldLemmas.{ended, ended_with, nil_of}
use Rattle.report_input.proofs.reader.Reader.finish.Goals as goal

pub returns-then-is_empty : goal.returns-then-is_empty
returns-then-is_empty c = λ came is.
    let none : length c.as_slice-rest.result.now ≡ 0 = grind (arith, nat_tests, c.is_empty.ensures, c.if-is_empty.true) in
    ended c.args.ignored.now came c.args.self is (sym c.as_slice-rest.ensures.value ∙ nil_of c.as_slice-rest.result.now none)

pub returns : goal.returns
returns c = λ came is.
    let some : 0 < length c.as_slice-rest.result.now = grind (arith, nat_tests, c.is_empty.ensures, c.if-is_empty.false) in
    ended_with c.args.ignored.now came c.args.self is c.take.new.self c.as_slice-rest.result.now c.as_slice-rest.ensures.value some c.in_ok-take.ensures
