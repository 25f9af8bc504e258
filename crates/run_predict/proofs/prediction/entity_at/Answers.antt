use Rattle.std.proofs.Common.{Some, ap, ◌∙◌, sym}
use Rattle.std.proofs.lemmas.Result.{IfOk-weaker}
use Rattle.run_predict.proofs.Placed.{meant}
use Rattle.run_predict.proofs.prediction.entity_at.Goals as goal

pub returns : goal.returns
returns g c =
    IfOk-weaker c.decode_entity.result _ _ (λ entity is. meant c.args.kept.now c.args.place c.entity.result.now c.entity.ensures.payload ∙ ap Some (sym is))
    c.decode_entity.ensures.value
