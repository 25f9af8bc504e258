use Rattle.std.proofs.Common.{◌≡◌, ◌==◌, false, refl, arith}
use Rattle.std.proofs.lemmas.Bool.Decides.{nat_tests}
use Rattle.std.proofs.lemmas.Result.{on_ok_weaker}
use Rattle.report_input.specs.declared.reader.Reader.{Reader}
use Rattle.report_input.proofs.HeldLemmas.{fed, passed}
use Rattle.report_input.proofs.reader.Reader.take.Goals as goal

pub returns-then-byte-eq10 : goal.returns-then-byte-eq10
returns-then-byte-eq10 c = λ before is.
    let after : Reader = record { counts = c.take.new.self; line = c.clear.new.self } in
    let feed : c.args.byte ≡ 10 = grind (arith, nat_tests, c.if-byte-eq10.true) in
    fed c.args.ignored.now before c.args.self.now after is c.args.byte feed c.deref.result.now c.deref.ensures.value c.in_ok-take.ensures c.clear.ensures.items

pub returns : goal.returns
returns c =
    let after : Reader = record { counts = c.args.self.now.counts; line = c.hold.new.line } in
    let other : (c.args.byte == 10) ≡ false = grind (arith, nat_tests, c.if-byte-eq10.false) in
    on_ok_weaker c.hold.result (λ more before is. passed c.args.ignored.now before c.args.self.now after is c.args.byte other refl more) c.hold.ensures
