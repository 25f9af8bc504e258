use Rattle.std.proofs.Common.{◌∷◌, [], take, flat_map}
use Rattle.prediction_table.specs.Predictions.{prediction_text}
use Rattle.prediction_table.specs.Writing.{HasWritten}
use Rattle.prediction_table.proofs.prediction.rows_text.Given as goal

-- the rows so far are written
abbrev pub invariant-loop-row : goal.invariant-loop-row
invariant-loop-row l = HasWritten l.writer (flat_map (prediction_text (l.id ∷ l.occurrence ∷ l.trip ∷ l.day ∷ [])) (take l.row-index l.rows))
