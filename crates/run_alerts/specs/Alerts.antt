-- What `alerts` is to write and to answer. (This profile.)
use Rattle.std.specs.Prelude.{ℕ, false, List, ◌++◌, None, length}
use Rattle.std.specs.List.{flat_map}
use Rattle.rt_outside.specs.Store.{Contents}
use Rattle.rule_history.specs.History.{Snapshot}
use Rattle.run_rows.specs.follow_engine.Entities.{entities_after}
use Rattle.alert_terms.specs.declared.query.Query.{Query}
use Rattle.alert_terms.specs.InForce.{KeyedEntity, alerts_in, in_force, next_change}
use Rattle.snapshot_lines.specs.Lines.{line_of}
use Rattle.run_base.specs.Counted.{Work}
use Rattle.run_base.specs.Report.{Report}
use Rattle.run_rows.specs.Counted.{files_work}
use Rattle.run_rows.specs.Files.{Ending, files_ended}
use Rattle.run_alerts.specs.Lines.{alert_text, sum}

-- the lines of the alerts of these entities that are in force for whom is asked for, and their sum; the next change is that of all
-- alerts, also of those that concern others
abbrev pub alerts_text : ℕ → Query → List KeyedEntity → List ℕ
alerts_text moment query entities =
    flat_map alert_text (in_force moment query (alerts_in entities))
    ++ line_of (sum (length (in_force moment query (alerts_in entities))) (next_change moment (alerts_in entities)))

-- an alert that is in force is no error
abbrev pub alerts_ending : ℕ → Query → List KeyedEntity → Ending
alerts_ending moment query entities = record { text = alerts_text moment query entities; error = false }

-- those of the entities that a history comes to
abbrev pub alerts_after : ℕ → Query → List Snapshot → Ending
alerts_after moment query h = alerts_ending moment query (entities_after h)

-- the report on files, which are snapshots of as many feeds, at one moment; they are taken without a timetable
abbrev pub alerts_report : ℕ → Query → List (List ℕ) → Contents → Report
alerts_report moment query files contents = files_ended (alerts_after moment query) None moment files contents

-- how much it decodes and tests
abbrev pub alerts_work : ℕ → List (List ℕ) → Contents → Work
alerts_work moment files contents = files_work None moment files contents
