use Rattle.std.proofs.Common.{◌∙◌, sym, ap, append_assoc}
use Rattle.std.proofs.lemmas.Result.{IfOk-weaker}
use Rattle.schedule_tables.specs.Faults.{fault_text}
use Rattle.schedule_tables.proofs.fault.LoadFault.text.Goals as goal

pub returns-in-BadText : goal.returns-in-BadText
returns-in-BadText c =
    IfOk-weaker c.format-in-BadText.result _ _ (λ text h. h ∙ (rw c.name-in-BadText.ensures (simp append_assoc)) ∙ ap fault_text (sym c.in-BadText.is)) c.format-in-BadText.ensures.ok

pub returns-in-BadValue : goal.returns-in-BadValue
returns-in-BadValue c =
    IfOk-weaker c.format-in-BadValue.result _ _ (λ text h. h ∙ (rw (c.name-in-BadValue.ensures, c.name-in-BadValue-2.ensures) (simp append_assoc)) ∙ ap fault_text (sym c.in-BadValue.is)) c.format-in-BadValue.ensures.ok

pub returns-in-RepeatedKey : goal.returns-in-RepeatedKey
returns-in-RepeatedKey c =
    IfOk-weaker c.format-in-RepeatedKey.result _ _ (λ text h. h ∙ (rw c.name-in-RepeatedKey.ensures (simp append_assoc)) ∙ ap fault_text (sym c.in-RepeatedKey.is)) c.format-in-RepeatedKey.ensures.ok
