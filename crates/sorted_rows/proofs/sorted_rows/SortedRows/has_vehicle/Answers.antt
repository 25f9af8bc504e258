use Rattle.std.proofs.Common.{ap, sym, subst, ◌∙◌}
use Rattle.rule_table.specs.Pairs.{has_vehicle}
use Rattle.sorted_rows.specs.Rows.{SortsKind}
use Rattle.sorted_rows.proofs.sorted_rows.SortedRows.has_vehicle.Goals as goal

pub returns : goal.returns
returns c rows h = c.has_vehicle.ensures c.args.kind h.from (subst (λ l. SortsKind c.args.kind l h.from) (sym c.of_kind.ensures) (h.each c.args.kind)) ∙ ap (λ xs. has_vehicle xs c.args.kind c.args.vehicle.now) h.are
