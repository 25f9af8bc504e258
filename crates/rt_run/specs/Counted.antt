-- How much a run decodes and tests, by its request, the moment and what the files hold. (This profile.)
use Rattle.std.specs.Prelude.{ℕ, Option, Some, None, unwrap_or, ⊤}
use Rattle.rt_outside.specs.Store.{Contents}
use Rattle.run_words.specs.declared.request.Request.{Request}
use Rattle.run_words.specs.declared.request.Request.TheVariants.{Check, Follow, Predict, Show, Encode, Merge, Trial, Verify, Alerts}
use Rattle.run_base.specs.Counted.{Work, no_work}
use Rattle.run_alerts.specs.Alerts.{alerts_work}
use Rattle.run_check.specs.Check.{check_work}
use Rattle.run_follow.specs.Follow.{follow_work}
use Rattle.run_trial.specs.Tried.{trial_work}

-- The work of a run: that of its accepted snapshots, each after those before it, or none.
abbrev pub run_work : Option Request → ℕ → Contents → Work
run_work None now contents = no_work
run_work (Some (Check folder moment files)) now contents = check_work folder (unwrap_or moment now) files contents
run_work (Some (Follow folder list)) now contents = follow_work folder list contents
run_work (Some (Predict folder zone moment file)) now contents = no_work
run_work (Some (Show file)) now contents = no_work
run_work (Some (Encode file)) now contents = no_work
run_work (Some (Merge files)) now contents = no_work
run_work (Some (Trial seed)) now contents = trial_work seed
run_work (Some (Verify file)) now contents = no_work
run_work (Some (Alerts moment query files)) now contents = alerts_work (unwrap_or moment now) files contents

-- the requests that judge no snapshot, and none
abbrev pub JudgesNothing : Option Request → Type 0
JudgesNothing None = ⊤
JudgesNothing (Some (Check folder moment files)) = ⊥
JudgesNothing (Some (Follow folder list)) = ⊥
JudgesNothing (Some (Predict folder zone moment file)) = ⊤
JudgesNothing (Some (Show file)) = ⊤
JudgesNothing (Some (Encode file)) = ⊤
JudgesNothing (Some (Merge files)) = ⊤
JudgesNothing (Some (Trial seed)) = ⊥
JudgesNothing (Some (Verify file)) = ⊤
JudgesNothing (Some (Alerts moment query files)) = ⊥
