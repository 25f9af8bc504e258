use Rattle.std.proofs.Common.{ap, ◌∙◌, option_map, option_copied}
use Rattle.feed_values.specs.Views.{entity_value}
use Rattle.rule_table.specs.declared.kind.Kind.TheVariants.{TripUpdate, Vehicle}
use Rattle.rule_table.specs.Ids.{ids_value}
use Rattle.rule_table.specs.Pairs.{has_row}
use Rattle.row_changes.specs.Given.{id_rows}
use Rattle.row_changes.specs.Updated.{exchanged}
use Rattle.row_changes.proofs.Exchanged.{of, both-moved}
use Rattle.row_changes.proofs.rows.update_rows.Goals as goal

pub returns : goal.returns
returns c = λ r.
    let key = c.args.key.now in
    let o = option_map entity_value (option_copied c.args.old) in
    let n = option_map entity_value (option_copied c.args.new) in
    let index = has_row c.args.index r in
    let updates = has_row c.in_ok-updates.updates r in
    both-moved key o n r index updates (has_row c.in_ok-next.next r)
    (c.in_ok-updates.ensures r ∙ ap (λ i. exchanged (has_row (id_rows TripUpdate key i) r) (has_row (id_rows TripUpdate key (option_map ids_value c.given_update-is.result)) r) index) c.given_update-was.ensures
    ∙ ap (λ i. exchanged (of key o n r TripUpdate o) (has_row (id_rows TripUpdate key i) r) index) c.given_update-is.ensures)
    (c.in_ok-next.ensures r ∙ ap (λ i. exchanged (has_row (id_rows Vehicle key i) r) (has_row (id_rows Vehicle key (option_map ids_value c.given_vehicle-is.result)) r) updates) c.given_vehicle-was.ensures
    ∙ ap (λ i. exchanged (of key o n r Vehicle o) (has_row (id_rows Vehicle key i) r) updates) c.given_vehicle-is.ensures)
