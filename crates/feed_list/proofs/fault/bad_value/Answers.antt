use Rattle.std.proofs.Common.{◌∙◌, append_assoc}
use Rattle.std.proofs.lemmas.Result.{IfOk-weaker}
use Rattle.feed_list.proofs.fault.bad_value.Goals as goal

pub returns : goal.returns
returns c = IfOk-weaker c.format.result _ _ (λ text h. h ∙ (rw c.name.ensures (simp append_assoc))) c.format.ensures.ok
