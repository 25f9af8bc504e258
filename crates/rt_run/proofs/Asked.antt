-- From a request to the words that give it.
use Rattle.std.proofs.Common.{◌≡◌, ℕ, List, [], ◌⊎◌, inl, inr, refl, sym, subst, unwrap_or, Some, None, IfSome}
use Rattle.std.specs.declared.option.Option.{Option}
use Rattle.rt_outside.specs.Sink.{AppendsPrefix, SinkState}
use Rattle.rt_outside.specs.Store.{Contents, FilesState, contents_told}
use Rattle.rt_outside.proofs.Appends.{append_known-nil, AppendsPrefix-nothing}
use Rattle.run_words.specs.declared.request.Request.{Request}
use Rattle.run_words.specs.declared.request.Request.TheVariants.{Alerts, Check, Encode, Follow, Merge, Predict, Show, Trial, Verify}
use Rattle.run_words.specs.declared.zone_word.ZoneWord.{ZoneWord}
use Rattle.run_base.specs.declared.status.Status.{Status}
use Rattle.run_base.specs.declared.status.Status.TheVariants as answer
use Rattle.run_base.specs.Carried.{CarriesOut, Extent, TellsReport, exactly}
use Rattle.run_base.specs.Counted.{IsCounted, Work, no_work}
use Rattle.run_base.specs.Faults.{IsErrorText, IsReported, Says, TellsFault, TellsOneOf}
use Rattle.run_base.specs.Outside.{Outside, outside}
use Rattle.run_base.specs.Report.{Report}
use Rattle.run_base.proofs.Carried.{nothing}
use Rattle.run_base.proofs.Chosen.{all}
use Rattle.run_base.proofs.Counted.{counted_whole, by_none}
use Rattle.run_base.proofs.Told.{tells_more}
use Rattle.std.specs.List.{Contains}
use Rattle.alert_terms.specs.declared.query.Query.{Query}
use Rattle.run_alerts.specs.Alerts.{alerts_report}
use Rattle.run_check.specs.Check.{IsInput, check_report}
use Rattle.run_follow.specs.Follow.{IsFollowed, follow_report}
use Rattle.run_predict.specs.Predicted.{IsPredictInput, IsPredictReport}
use Rattle.rt_run.specs.Counted.{JudgesNothing, run_work}
use Rattle.rt_run.specs.Reads.{IsRunText, Reads}
use Rattle.rt_run.specs.Reported.{IsAsked, IsReportOf, usage_report, usage_text}

-- ---- of equal words
-- the same of an equal folder, an equal moment and equal names
pub carried_at : (f g : Option (List ℕ)) (m n : ℕ) (a b : List (List ℕ)) (before after : Outside) (result : Status) → f ≡ g → m ≡ n → a ≡ b →
    CarriesOut (exactly (check_report f m a)) (IsInput f a) before after result → CarriesOut (exactly (check_report g n b)) (IsInput g b) before after result
carried_at f g m n a b before after result folder moment names carried =
    subst (λ x. CarriesOut (exactly (check_report x n b)) (IsInput x b) before after result) folder
    (subst (λ x. CarriesOut (exactly (check_report f n x)) (IsInput f x) before after result) names
    (subst (λ x. CarriesOut (exactly (check_report f x a)) (IsInput f a) before after result) moment carried))

-- the same of an equal folder and an equal list
pub carried_listed : (told : Option Contents) (f g : Option (List ℕ)) (a b : List ℕ) (before after : Outside) (result : Status) → f ≡ g → a ≡ b →
    CarriesOut (exactly (follow_report f a)) (IsFollowed told f a) before after result → CarriesOut (exactly (follow_report g b)) (IsFollowed told g b) before after result
carried_listed told f g a b before after result folder list carried =
    subst (λ x. CarriesOut (exactly (follow_report x b)) (IsFollowed told x b) before after result) folder
    (subst (λ x. CarriesOut (exactly (follow_report f x)) (IsFollowed told f x) before after result) list carried)

-- of an equal folder, an equal moment and an equal file
pub one_predicted : (told : Option Contents) (zone : ZoneWord) (moment : Option ℕ) (now : ℕ) (f g : List ℕ) (m : ℕ) (a b : List ℕ) (before after : Outside) (result : Status) → f ≡ g → m ≡ unwrap_or moment now → a ≡ b →
    CarriesOut (IsPredictReport f zone m a) (IsPredictInput f zone a) before after result →
    CarriesOut (IsAsked (Predict g zone moment b) now) (Reads (Some (Predict g zone moment b)) told) before after result
one_predicted told zone moment now f g m a b before after result folder at file one =
    subst (λ x. CarriesOut (IsPredictReport x zone (unwrap_or moment now) b) (IsPredictInput x zone b) before after result) folder
    (subst (λ x. CarriesOut (IsPredictReport f zone (unwrap_or moment now) x) (IsPredictInput f zone x) before after result) file
    (subst (λ x. CarriesOut (IsPredictReport f zone x a) (IsPredictInput f zone a) before after result) at one))

-- of an equal moment
pub alerts_at : (m n : ℕ) (query : Query) (files : List (List ℕ)) (before after : Outside) (result : Status) → m ≡ n →
    CarriesOut (exactly (alerts_report m query files)) (Contains files) before after result → CarriesOut (exactly (alerts_report n query files)) (Contains files) before after result
alerts_at m n query files before after result moment = subst (λ x. CarriesOut (exactly (alerts_report x query files)) (Contains files) before after result) moment

-- ---- counted
-- of equal work
pub counted_same : (work whole : Contents → Work) (told : Option Contents) (old new : Work) (result : Status) → work ≡ whole → IsCounted work told old new result → IsCounted whole told old new result
counted_same work whole told old new result same = subst (λ w. IsCounted w told old new result) same

-- no work, and the counters stayed
no_work_counted : (told : Option Contents) (old : Work) (result : Status) → IsCounted (λ held. no_work) told old old result
no_work_counted told old result = counted_whole (λ held. no_work) told old old result (all told _ (λ held. by_none old))

pub nothing_counted : (asked : Option Request) (now : ℕ) (told : Option Contents) (old : Work) (result : Status) → JudgesNothing asked → IsCounted (run_work asked now) told old old result
nothing_counted None now told old result none = no_work_counted told old result
nothing_counted (Some (Check folder moment files)) now told old result none = absurd none
nothing_counted (Some (Follow folder list)) now told old result none = absurd none
nothing_counted (Some (Predict folder zone moment file)) now told old result none = no_work_counted told old result
nothing_counted (Some (Show file)) now told old result none = no_work_counted told old result
nothing_counted (Some (Encode file)) now told old result none = no_work_counted told old result
nothing_counted (Some (Merge files)) now told old result none = no_work_counted told old result
nothing_counted (Some (Trial seed)) now told old result none = absurd none
nothing_counted (Some (Verify file)) now told old result none = no_work_counted told old result
nothing_counted (Some (Alerts moment query files)) now told old result none = absurd none

-- ---- what was carried out is told
pub tells_asked : (asked : Request) (found : Option Request) (now : ℕ) (reads : List ℕ → Type 0) (before after : Outside) (result : Status) → Some asked ≡ found →
    CarriesOut (IsAsked asked now) reads before after result → TellsReport (IsReportOf found now) before after result
tells_asked asked found now reads before after result is one = subst (λ o. TellsReport (IsReportOf o now) before after result) is one.tells

-- and its faults are among those of a run
pub tells_run : (reads : List ℕ → Type 0) (last : Option (List ℕ)) (before after : SinkState) (result : Status) → TellsFault reads last before after result →
    TellsOneOf (IsRunText reads) reads last before after result
tells_run reads last before after result told = tells_more (IsErrorText reads) (IsRunText reads) reads reads last before after result (λ text is. inr is) (λ name is. is) told

-- nothing was written to the output, and the answer is none of a report
pub tells_nothing_more : (is : Extent → Contents → Report → Type 0) (files later : FilesState) (out eb ea : SinkState) (result : Status) → (IsReported result → ⊥) →
    TellsReport is (outside files out eb) (outside later out ea) result
tells_nothing_more is files later out eb ea result none = record {
  report = nothing;
  begun = all (contents_told files.told) _ (λ held. inl refl);
  whole = λ r. absurd (none r);
  text = all (contents_told files.told) _ (λ held. AppendsPrefix-nothing out.written []);
  all = λ r. absurd (none r);
  status = λ r. absurd (none r);
  errors = λ r. absurd (none r);
}

-- the usage text was said where there is no request
pub tells_usage : (found : Option Request) (now : ℕ) (files later : FilesState) (out eb ea : SinkState) (result : Status) → None ≡ found → Says usage_text answer.Usage eb ea result →
    TellsReport (IsReportOf found now) (outside files out eb) (outside later out ea) result
tells_usage found now files later out eb ea result none (inl said) = subst (λ o. TellsReport (IsReportOf o now) (outside files out eb) (outside later out ea) result) none (record {
  report = usage_report;
  begun = all (contents_told files.told) _ (λ held. inl refl);
  whole = λ r. all (contents_told files.told) _ (λ held. refl);
  text = all (contents_told files.told) _ (λ held. AppendsPrefix-nothing out.written []);
  all = λ r. all (contents_told files.told) _ (λ held. sym (append_known-nil out.written));
  status = λ r. all (contents_told files.told) _ (λ held. said.0);
  errors = λ r. all (contents_told files.told) _ (λ held. said.1);
})
tells_usage found now files later out eb ea result none (inr said) = tells_nothing_more (IsReportOf found now) files later out eb ea result (λ r. subst IsReported said.0 r)

-- want of memory was told
pub memory_reported : (text : List ℕ) (before after : SinkState) (result : Status) → Says text answer.Memory before after result → IsReported result → ⊥
memory_reported text before after result (inl said) r = subst IsReported said.0 r
memory_reported text before after result (inr said) r = subst IsReported said.0 r
