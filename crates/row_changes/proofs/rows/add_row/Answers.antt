use Rattle.std.proofs.Common.{◌||◌, ap, ◌∙◌, sym, option_map}
use Rattle.std.proofs.Math.Bool.{or-false}
use Rattle.rule_table.specs.Ids.{ids_value}
use Rattle.rule_table.specs.Pairs.{row_with, same_row, has_row}
use Rattle.pairing_rules.specs.Rows.{pair_row}
use Rattle.pairing_rules.proofs.Members.{has-put}
use Rattle.row_changes.specs.Given.{id_rows}
use Rattle.row_changes.proofs.rows.add_row.Goals as goal

pub returns-in_ok-next-in-Some : goal.returns-in_ok-next-in-Some
returns-in_ok-next-in-Some c = λ r.
    let old = c.args.index in
    ap (λ u. has_row u r) c.in_ok-next-in-Some.ensures.rows ∙ has-put old (pair_row c.in_ok-row-in-Some.row) r
    ∙ ap (λ b. b || has_row old r) (ap (same_row r) c.in_ok-row-in-Some.ensures ∙ sym (or-false (same_row r (row_with c.args.kind c.args.key.now (ids_value c.in-Some.ids)))))
    ∙ ap (λ o. has_row (id_rows c.args.kind c.args.key.now (option_map ids_value o)) r || has_row old r) (sym c.in-Some.is)
