-- What a run is to write and to answer, by its words, the moment and what the files hold. (This profile.)
use Rattle.std.specs.Prelude.{◌≡◌, ℕ, List, [], codes, Option, Some, None, unwrap_or}
use Rattle.rt_outside.specs.Store.{Contents}
use Rattle.run_words.specs.declared.request.Request.{Request}
use Rattle.run_words.specs.declared.request.Request.TheVariants.{Check, Follow, Predict, Show, Encode, Merge, Trial, Verify, Alerts}
use Rattle.run_words.specs.Words.{request}
use Rattle.run_base.specs.declared.status.Status.TheVariants as answer
use Rattle.run_base.specs.Carried.{Extent}
use Rattle.run_base.specs.Report.{Report, file_report}
use Rattle.run_alerts.specs.Alerts.{alerts_report}
use Rattle.run_check.specs.Check.{check_report}
use Rattle.run_follow.specs.Follow.{follow_report}
use Rattle.run_json.specs.Reports.{encode_report, shown_report}
use Rattle.run_merge.specs.Merged.{merge_report}
use Rattle.run_predict.specs.Predicted.{IsPredictReport}
use Rattle.run_trial.specs.Tried.{trial_report}
use Rattle.run_verify.specs.Verified.{verify_report}

abbrev pub usage_text : List ℕ
usage_text = codes "usage: rt_command check [--timetable DIR] [--now N] FILE...\n       rt_command follow [--timetable DIR] --list FILE\n       rt_command predict --timetable DIR (--zone-rule TEXT | --zone-file FILE) [--now N] FILE\n       rt_command show FILE\n       rt_command encode FILE\n       rt_command trial N\n       rt_command verify REPORT\n       rt_command merge FILE...\n       rt_command alerts [--now N] (--agency ID | --route ID | --trip ID | --stop ID) FILE...\n"

-- the report where the words give no request
abbrev pub usage_report : Report
usage_report = record { text = []; errors = usage_text; status = answer.Usage }

-- A report on a request. That of `predict` is one of a relation, which may be begun; the others are functions. The moment of
-- `check`, `predict` and `alerts` is that of the words, or else the clock's.
abbrev pub IsAsked : Request → ℕ → Extent → Contents → Report → Type 0
IsAsked (Check folder moment files) now extent contents report = report ≡ check_report folder (unwrap_or moment now) files contents
IsAsked (Follow folder list) now extent contents report = report ≡ follow_report folder list contents
IsAsked (Predict folder zone moment file) now extent contents report = IsPredictReport folder zone (unwrap_or moment now) file extent contents report
IsAsked (Show file) now extent contents report = report ≡ file_report shown_report file contents
IsAsked (Encode file) now extent contents report = report ≡ encode_report file contents
IsAsked (Merge files) now extent contents report = report ≡ merge_report files contents
IsAsked (Trial seed) now extent contents report = report ≡ trial_report seed
IsAsked (Verify file) now extent contents report = report ≡ verify_report file contents
IsAsked (Alerts moment query files) now extent contents report = report ≡ alerts_report (unwrap_or moment now) query files contents

abbrev pub IsReportOf : Option Request → ℕ → Extent → Contents → Report → Type 0
IsReportOf None now extent contents report = report ≡ usage_report
IsReportOf (Some asked) now extent contents report = IsAsked asked now extent contents report

-- a report on these words at this moment over these files
abbrev pub IsReport : List (List ℕ) → ℕ → Extent → Contents → Report → Type 0
IsReport words now extent contents report = IsReportOf (request words) now extent contents report
