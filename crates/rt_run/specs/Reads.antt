-- Which files a request reads, and how a run without a request ends. (This profile.)
use Rattle.std.specs.Prelude.{◌≡◌, ℕ, List, [], ◌∷◌, ◌⊎◌, Option, Some, None, Contains, ⊤}
use Rattle.rt_outside.specs.Store.{Contents}
use Rattle.run_words.specs.declared.request.Request.{Request}
use Rattle.run_words.specs.declared.request.Request.TheVariants.{Check, Follow, Predict, Show, Encode, Merge, Trial, Verify, Alerts}
use Rattle.run_base.specs.declared.status.Status.{Status}
use Rattle.run_base.specs.declared.status.Status.TheVariants as answer
use Rattle.run_base.specs.Faults.{IsErrorText}
use Rattle.run_timetable.specs.Timetables.{IsTableFile}
use Rattle.run_check.specs.Check.{IsInput}
use Rattle.run_follow.specs.Follow.{IsFollowed}
use Rattle.run_predict.specs.Zones.{IsZoneFile}
use Rattle.run_trial.specs.Tried.{IsTrialFile}
use Rattle.rt_run.specs.Reported.{usage_text}

-- the file of this name is one that the request reads
abbrev pub Reads : Option Request → Option Contents → List ℕ → Type 0
Reads None told name = ⊥
Reads (Some (Check folder now files)) told name = IsInput folder files name
Reads (Some (Follow folder list)) told name = IsFollowed told folder list name
Reads (Some (Predict folder zone now file)) told name = (Contains (file ∷ []) name ⊎ IsZoneFile zone name) ⊎ IsTableFile (Some folder) name
Reads (Some (Show file)) told name = Contains (file ∷ []) name
Reads (Some (Encode file)) told name = Contains (file ∷ []) name
Reads (Some (Merge files)) told name = Contains files name
Reads (Some (Trial seed)) told name = IsTrialFile name
Reads (Some (Verify file)) told name = Contains (file ∷ []) name
Reads (Some (Alerts now query files)) told name = Contains files name

-- the answers where the words give no request
abbrev pub IsWithoutRequest : Status → Type 0
IsWithoutRequest answer.Clean = ⊥
IsWithoutRequest answer.Found = ⊥
IsWithoutRequest answer.Usage = ⊤
IsWithoutRequest answer.ReadFault = ⊥
IsWithoutRequest answer.WriteFault = ⊤
IsWithoutRequest answer.Memory = ⊤
IsWithoutRequest answer.Refused = ⊥

-- the texts that may stand on the error stream of a run that reads these files
abbrev pub IsRunText : (List ℕ → Type 0) → List ℕ → Type 0
IsRunText reads text = (text ≡ usage_text) ⊎ IsErrorText reads text
