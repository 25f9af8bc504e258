use Rattle.std.proofs.Common.{subst}
use Rattle.rule_table.specs.declared.key.EntityKey.{EntityKey}
use Rattle.rt_report.specs.Tokens.{Adds, tokens_of}
use Rattle.rt_report.proofs.Given.{last, one, then}
use Rattle.run_alerts.specs.Lines.{alert}
use Rattle.run_alerts.proofs.lines.push_alert.Goals as goal

pub returns : goal.returns
returns c =
    let given = c.args.key.now in
    last c.end_object.result _ _ _ c.end_object.ensures (λ end.
    subst (λ id. Adds c.args.out.now c.end_object.new.self (tokens_of (alert (let key : EntityKey = record { feed = given.feed; id = id; occurrence = given.occurrence } in key)))) c.as_str.ensures
    (then (one c.in_ok-begin_object.ensures) (then (one c.in_ok-key.ensures) (then (one c.in_ok-u64.ensures) (then (one c.in_ok-key-2.ensures) (then (one c.in_ok-string.ensures)
    (then (one c.in_ok-key-3.ensures) (then (one c.in_ok-string-2.ensures) (then (one c.in_ok-key-4.ensures) (then (one c.in_ok-u64-2.ensures) end))))))))))
