use Rattle.std.proofs.Common.{◌∙◌, ap}
use Rattle.rule_tally.specs.Names.{by_text}
use Rattle.rule_tally.proofs.NameLemmas.{by_text-insert}
use Rattle.rule_tally.proofs.names.Names.mark.Goals as goal

pub returns : goal.returns
returns c =
    let h = ap by_text c.in_ok-insert.ensures.entries ∙ by_text-insert c.self.inside.marks.entries c.in_ok-name.name c.args.mark in
    let text = c.in_ok-name.ensures.ok in
    let view = c.self.view_is in
    rw (← text) (h ∙ cc)
