use Rattle.std.proofs.Common.{◌++◌, ◌∷◌, [], take, flat_map, ap, ◌∙◌, subst, arith}
use Rattle.csv.specs.Writing.{default_writer, row_text}
use Rattle.prediction_table.specs.Predictions.{prediction_text}
use Rattle.prediction_table.specs.Writing.{HasWritten}
use Rattle.prediction_table.proofs.RowTexts.{one_more}
use Rattle.prediction_table.proofs.prediction.rows_text.Goals as goal

pub loop-row-preserved : goal.loop-row-preserved
loop-row-preserved c =
    let row = prediction_text (c.args.id.now ∷ c.args.occurrence.now ∷ c.args.trip.now ∷ c.args.day.now ∷ []) in
    let before = flat_map row (take c.loop-row.row-index c.args.rows.now) in
    subst (HasWritten c.write_row.new.writer)
    (ap (λ fields. before ++ row_text default_writer fields) c.in_ok-set_fields.ensures
    ∙ one_more row c.args.rows.now c.loop-row.row-index c.row-item.result (omega arith) c.row-item.is)
    (c.in_ok-write_row.ensures before c.loop-row.invariant)
