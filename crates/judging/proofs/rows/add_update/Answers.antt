use Rattle.std.proofs.Common.{ap, ◌∙◌, sym, ◌∷◌, []}
use Rattle.std.specs.Option.{option_map}
use Rattle.feed_values.specs.Views.{trip_update_value}
use Rattle.rule_table.specs.declared.kind.Kind.TheVariants as kind
use Rattle.rule_table.specs.Ids.{of_update}
use Rattle.rule_table.specs.Pairs.{update_rows, row_with}
use Rattle.judging.specs.Judged.{put_rows}
use Rattle.judging.proofs.rows.add_update.Goals as goal

pub returns-in_ok-next-in-Some : goal.returns-in_ok-next-in-Some
returns-in_ok-next-in-Some c =
    c.in_ok-next-in-Some.ensures.rows
    ∙ ap (λ r. put_rows c.args.index (r ∷ [])) (c.in_ok-row-in-Some.ensures ∙ ap (row_with kind.TripUpdate c.args.key.now) (c.ids_of_update.ensures ∙ ap (λ m. of_update (trip_update_value m)) c.deref.ensures))
    ∙ ap (λ o. put_rows c.args.index (update_rows c.args.key.now (option_map trip_update_value o))) (sym c.in-Some.is)
