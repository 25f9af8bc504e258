use Rattle.std.proofs.Common.{ap, ◌∙◌}
use Rattle.rule_table.specs.Pairs.{any_row}
use Rattle.sorted_rows.proofs.Parts.{any_is}
use Rattle.sorted_rows.proofs.sorted_rows.SortedRows.any_row.Goals as goal

pub returns : goal.returns
returns c rows h = c.is_any.ensures ∙ ap (λ l. l.any) c.of_kind.ensures ∙ (h.each c.args.kind).any ∙ any_is c.args.kind h.from ∙ ap (λ xs. any_row xs c.args.kind) h.are
