use Rattle.std.proofs.Common.{refl, ◌∙◌}
use Rattle.std.proofs.lemmas.Result.{IfOk-weaker}
use Rattle.csv.specs.Writing.{fields_text, is_blank}
use Rattle.prediction_table.proofs.prediction.prediction_head.Goals as goal

pub returns : goal.returns
unfolding fields_text is_blank
returns c = IfOk-weaker c.from_slice.result _ _ (λ bytes h. h ∙ refl) c.from_slice.ensures.items
