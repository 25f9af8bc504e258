use Rattle.std.proofs.Common.{option_map, sym, ◌∙◌}
use Rattle.rule_table.specs.Ids.{ids_value}
use Rattle.rule_table.specs.Pairs.{has_row}
use Rattle.row_changes.proofs.Exchanged.{row-stays, row-moves}
use Rattle.row_changes.proofs.rows.update_row.Goals as goal

pub returns-then-are_same : goal.returns-then-are_same
returns-then-are_same c = λ r. row-stays c.args.kind c.args.key.now r (option_map ids_value c.args.old) (option_map ids_value c.args.new) (has_row c.args.index r) (sym c.are_same.ensures ∙ c.if-are_same.true)

pub returns : goal.returns
returns c = λ r.
    row-moves c.args.kind c.args.key.now r (option_map ids_value c.args.old) (option_map ids_value c.args.new) (has_row c.args.index r) (has_row c.take_row.new.index r) (has_row c.in_ok-next.next r)
    (sym c.are_same.ensures ∙ c.if-are_same.false) (c.in_ok-take_row.ensures r) (c.in_ok-next.ensures r)
