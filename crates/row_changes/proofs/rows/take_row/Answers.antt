use Rattle.std.proofs.Common.{◌&&◌, not, ap, ◌∙◌, sym, option_map}
use Rattle.std.proofs.Math.Bool.{or-false}
use Rattle.rule_table.specs.Ids.{ids_value}
use Rattle.rule_table.specs.Pairs.{row_with, same_row, has_row}
use Rattle.pairing_rules.specs.Rows.{pair_row}
use Rattle.pairing_rules.proofs.Members.{has-taken}
use Rattle.row_changes.specs.Given.{id_rows}
use Rattle.row_changes.proofs.Members.{row-symm}
use Rattle.row_changes.proofs.rows.take_row.Goals as goal

pub returns-in_ok-row-in-Some : goal.returns-in_ok-row-in-Some
returns-in_ok-row-in-Some c = λ r.
    let old = c.args.index.now in
    let row = pair_row c.in_ok-row-in-Some.row in
    ap (λ u. has_row u r) c.take_out.ensures ∙ has-taken old c.stands_in_order.ensures row r
    ∙ ap (λ b. not b && has_row old r) (ap (λ x. same_row x r) c.in_ok-row-in-Some.ensures ∙ row-symm (row_with c.args.kind c.args.key.now (ids_value c.in-Some.ids)) r ∙ sym (or-false (same_row r (row_with c.args.kind c.args.key.now (ids_value c.in-Some.ids)))))
    ∙ ap (λ o. not (has_row (id_rows c.args.kind c.args.key.now (option_map ids_value o)) r) && has_row old r) (sym c.in-Some.is)
