use Rattle.std.proofs.Common.{ap, ◌∙◌}
use Rattle.rule_table.specs.declared.kind.Kind.TheVariants as kind
use Rattle.rule_table.specs.Pairs.{first_key}
use Rattle.sorted_rows.proofs.sorted_rows.SortedRows.first_key.Goals as goal

pub returns : goal.returns
returns c rows h = c.first_key.ensures h.from (h.each kind.Vehicle) ∙ ap (λ xs. first_key xs c.args.feed c.args.vehicle.now) h.are
