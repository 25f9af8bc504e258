use Rattle.std.proofs.Common.{◌∙◌, ap}
use Rattle.std.proofs.lemmas.Result.{on_ok_weaker}
use Rattle.rule_tally.specs.Tallies.{with_line}
use Rattle.rule_tally.proofs.LineLemmas.{one_line}
use Rattle.rule_tally.proofs.tally.Tally.take.Goals as goal

pub returns : goal.returns
returns c =
    on_ok_weaker c.add.result (λ e before same. e ∙ ap (λ t. with_line t c.args.telling.now c.args.behind c.args.line.now) same ∙ one_line before c.args.telling.now c.args.behind c.args.line.now) c.add.ensures
