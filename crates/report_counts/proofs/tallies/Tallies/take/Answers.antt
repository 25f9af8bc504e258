use Rattle.std.proofs.Common.{length, ap, ◌∙◌, arith}
use Rattle.std.proofs.lemmas.Result.{on_ok_weaker}
use Rattle.rule_tally.specs.Tallies.{told}
use Rattle.report_counts.proofs.RuleLemmas.{number_small, taken_at}
use Rattle.report_counts.proofs.tallies.Tallies.take.Goals as goal

pub returns-then-index-len : goal.returns-then-index-len
returns-then-index-len c =
    on_ok_weaker c.take.result
    (λ taken before start. taken_at before c.args.rule (told c.args.telling.now c.args.behind c.args.line.now) c.self.inside.tallies.items c.number-index.result c.index_mut-tally.result.now c.take.new.self
    (c.self.view_is ∙ start) c.number-index.ensures c.index_mut-tally.ensures.value taken)
    c.take.ensures

pub returns : goal.returns
returns c = λ before start.
    let small = number_small c.args.rule before in
    let len = ap length (c.self.view_is ∙ start) in
    let number = c.number-index.ensures in
    let held = c.len.ensures in
    let over = c.if-index-len.false in
    absurd (omega (arith, small, len, number, held, over))
