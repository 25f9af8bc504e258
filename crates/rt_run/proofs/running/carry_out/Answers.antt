use Rattle.std.proofs.Common.{ap, refl, subst, sym, ◌∙◌}
use Rattle.std.specs.Option.{option_copied}
use Rattle.rt_outside.specs.Store.{contents_told}
use Rattle.run_base.specs.Counted.{counters}
use Rattle.run_alerts.specs.Alerts.{alerts_work}
use Rattle.run_check.specs.Check.{check_work}
use Rattle.run_follow.specs.Follow.{follow_work}
use Rattle.rt_run.proofs.Asked.{alerts_at, carried_at, carried_listed, counted_same, nothing_counted}
use Rattle.rt_run.proofs.running.carry_out.Goals as goal

pub returns-in-Check-clause-carried : goal.returns-in-Check-clause-carried
returns-in-Check-clause-carried g c =
    rw c.in-Check.is (carried_at _ _ c.unwrap_or-moment.result _ _ _ _ _ c.check.result c.as_ref-folder.ensures.value c.unwrap_or-moment.ensures refl c.check.ensures.carried)

pub returns-in-Check-clause-counted : goal.returns-in-Check-clause-counted
returns-in-Check-clause-counted g c =
    rw c.in-Check.is (counted_same _ _ _ _ _ c.check.result
    (ap (λ folder. check_work folder c.unwrap_or-moment.result c.in-Check.names) c.as_ref-folder.ensures.value ∙ ap (λ moment. check_work c.in-Check.folder moment c.in-Check.names) c.unwrap_or-moment.ensures) c.check.ensures.counted)

pub returns-in-Follow-clause-carried : goal.returns-in-Follow-clause-carried
returns-in-Follow-clause-carried g c =
    rw c.in-Follow.is (carried_listed _ _ _ _ _ _ _ c.follow.result c.as_ref-folder-in-Follow.ensures.value c.as_str-list.ensures c.follow.ensures.carried)

pub returns-in-Follow-clause-counted : goal.returns-in-Follow-clause-counted
returns-in-Follow-clause-counted g c =
    rw c.in-Follow.is (counted_same _ _ _ _ _ c.follow.result
    (ap (λ folder. follow_work folder c.as_str-list.result.now) c.as_ref-folder-in-Follow.ensures.value ∙ ap (follow_work _) c.as_str-list.ensures) c.follow.ensures.counted)

pub returns-in-Trial-clause-carried : goal.returns-in-Trial-clause-carried
returns-in-Trial-clause-carried g c = rw c.in-Trial.is (c.trial.ensures.carried (g.F.Files.state c.args.files.now))

pub returns-in-Trial-clause-counted : goal.returns-in-Trial-clause-counted
returns-in-Trial-clause-counted g c = rw c.in-Trial.is (c.trial.ensures.counted (contents_told (g.F.Files.state c.args.files.now).told))

pub returns-in-Alerts-clause-carried : goal.returns-in-Alerts-clause-carried
returns-in-Alerts-clause-carried g c =
    rw c.in-Alerts.is (alerts_at c.unwrap_or-moment-in-Alerts.result _ c.in-Alerts.query _ _ _ c.alerts.result c.unwrap_or-moment-in-Alerts.ensures c.alerts.ensures.carried)

pub returns-in-Alerts-clause-counted : goal.returns-in-Alerts-clause-counted
returns-in-Alerts-clause-counted g c =
    rw c.in-Alerts.is (counted_same _ _ _ _ _ c.alerts.result (ap (λ moment. alerts_work moment c.in-Alerts.names) c.unwrap_or-moment-in-Alerts.ensures) c.alerts.ensures.counted)
