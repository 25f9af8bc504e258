use Rattle.std.proofs.Common.{◌++◌, ◌∷◌, [], ◌∙◌, ap, append_assoc}
use Rattle.serde_json.specs.Written.{compact_text}
use Rattle.run_alerts.specs.Lines.{alert}
use Rattle.run_alerts.proofs.Given.{text_behind}
use Rattle.run_alerts.proofs.lines.with_alert.Goals as goal

pub returns : goal.returns
returns c =
    c.in_ok-push.ensures.items
    ∙ ap (λ bytes. bytes ++ 10 ∷ [])
    (text_behind (alert c.args.key.now) c.new-out.result c.push_alert.new.out c.args.text.items c.into_inner-longer.result.items c.new-out.ensures.before c.new-out.ensures.tokens c.in_ok-push_alert.ensures c.into_inner-longer.ensures.items)
    ∙ append_assoc c.args.text.items (compact_text (alert c.args.key.now)) (10 ∷ [])
