-- The snapshots of the trial, one after the other.
use Rattle.std.proofs.Common.{◌≡◌, ℕ, suc, ◌+◌, ◌-◌, ◌<◌, ◌≤◌, List, [], ◌∷◌, ◌++◌, length, sym, ap, ◌∙◌, subst, arith, length-append, append-nil, Vec, Global, Some, true, Result, Ok, Err}
use Rattle.std.specs.Prelude.{IfOk}
use Rattle.std.specs.declared.alloc.AllocError.{AllocError}
use Rattle.std.specs.declared.option.Option.{Option}
use Rattle.std.proofs.lemmas.List.{append_assoc}
use Rattle.std.proofs.lemmas.List.Sums.{sum_by_push}
use Rattle.rt_outside.specs.Causes.{Rose}
use Rattle.rt_outside.specs.Store.{Contents}
use Rattle.timetable.specs.Timetables.{Tables, tables_of}
use Rattle.timetable.specs.declared.LoadFault.{LoadFault}
use Rattle.rule_history.specs.Changed.{with}
use Rattle.rule_history.specs.History.{Snapshot}
use Rattle.engine_laws.specs.Computed.{delta_after, standings}
use Rattle.engine_laws.specs.Delta.{Delta, IsDelta}
use Rattle.engine_laws.proofs.Computed.{delta_is_computed, list_is_computed}
use Rattle.run_rows.specs.follow_engine.Engines.{engine_data}
use Rattle.trial_feed.specs.Files.{trial_contents}
use Rattle.trial_feed.specs.Messages.{feed_of, moment_of}
use Rattle.trial_feed.specs.Moving.{Moving, advanced, begun}
use Rattle.trial_feed.specs.Snapshots.{all_snapshots, first_snapshot, no_snapshots, snapshot_of, snapshots_from, trial_snapshots}
use Rattle.run_trial.specs.declared.sums.Sums.{Sums}
use Rattle.run_trial.specs.declared.summing.TrialEnd.{TrialEnd}
use Rattle.engine_laws.specs.Standings.{Matches, StandsFor, listed}
use Rattle.timetable.specs.Lookups.{is_present, tables_in}
use Rattle.timetable.specs.declared.timetable.Timetable.{Timetable}
use Rattle.run_timetable.specs.Timetables.{refusal_text, tables_had}
use Rattle.run_trial.specs.Tried.{trial_folder, IsSummedUp, added, deltas, history_report, history_text, numbered, summary_text, sums_of, sums_over, trial_report, trial_work}
use Rattle.run_base.specs.Counted.{RoseAtMost, RoseBy, Work}
use Rattle.run_base.specs.Report.{refused_input}
use Rattle.run_base.proofs.Counted.{most_both, at_most, by_none, by_both}
use Rattle.run_rows.specs.Counted.{history_work, work_of}
use Rattle.run_rows.proofs.Counted.{most_front, work_with}
use Rattle.run_timetable.proofs.GivenTable.{folder_given, report_given, report_refused, work_given}

-- ---- sums
-- what one snapshot more changes stands behind what those before it changed
deltas_more : (t : Option Tables) (before ss : List Snapshot) (s : Snapshot) → deltas t before (ss ++ s ∷ []) ≡ deltas t before ss ++ delta_after t (before ++ ss) s ∷ []
deltas_more t before [] s = ap (λ h. delta_after t h s ∷ []) (sym (append-nil before))
deltas_more t before (x ∷ xs) s =
    ap (λ ds. delta_after t before x ∷ ds) (deltas_more t (with before x) xs s)
    ∙ ap (λ h. delta_after t before x ∷ (deltas t (with before x) xs ++ delta_after t h s ∷ [])) (append_assoc before (x ∷ []) xs)

same_sums : (a b : Sums) → a.snapshots ≡ b.snapshots → a.opened ≡ b.opened → a.closed ≡ b.closed → a.tested ≡ b.tested → a.paired ≡ b.paired → a.bounded ≡ b.bounded → a.peaked ≡ b.peaked → a ≡ b
same_sums a b p q r s t u v =
    ap (λ n. let x : Sums = record { snapshots = n; opened = a.opened; closed = a.closed; tested = a.tested; paired = a.paired; bounded = a.bounded; peaked = a.peaked } in x) p
    ∙ ap (λ n. let x : Sums = record { snapshots = b.snapshots; opened = n; closed = a.closed; tested = a.tested; paired = a.paired; bounded = a.bounded; peaked = a.peaked } in x) q
    ∙ ap (λ n. let x : Sums = record { snapshots = b.snapshots; opened = b.opened; closed = n; tested = a.tested; paired = a.paired; bounded = a.bounded; peaked = a.peaked } in x) r
    ∙ ap (λ n. let x : Sums = record { snapshots = b.snapshots; opened = b.opened; closed = b.closed; tested = n; paired = a.paired; bounded = a.bounded; peaked = a.peaked } in x) s
    ∙ ap (λ n. let x : Sums = record { snapshots = b.snapshots; opened = b.opened; closed = b.closed; tested = b.tested; paired = n; bounded = a.bounded; peaked = a.peaked } in x) t
    ∙ ap (λ n. let x : Sums = record { snapshots = b.snapshots; opened = b.opened; closed = b.closed; tested = b.tested; paired = b.paired; bounded = n; peaked = a.peaked } in x) u
    ∙ ap (λ n. let x : Sums = record { snapshots = b.snapshots; opened = b.opened; closed = b.closed; tested = b.tested; paired = b.paired; bounded = b.bounded; peaked = n } in x) v

sums_added : (ds : List Delta) (d : Delta) → added (sums_over ds) d ≡ sums_over (ds ++ d ∷ [])
sums_added ds d = same_sums (added (sums_over ds) d) (sums_over (ds ++ d ∷ [])) (sym (length-append ds (d ∷ [])))
    (sym (sum_by_push (λ x. length x.opened) ds d)) (sym (sum_by_push (λ x. length x.closed) ds d)) (sym (sum_by_push (λ x. x.tested) ds d))
    (sym (sum_by_push (λ x. x.paired) ds d)) (sym (sum_by_push (λ x. x.bounded) ds d)) (sym (sum_by_push (λ x. x.peaked) ds d))

sums_more : (t : Option Tables) (h : List Snapshot) (s : Snapshot) → added (sums_of t h) (delta_after t h s) ≡ sums_of t (with h s)
sums_more t h s = sums_added (deltas t [] h) (delta_after t h s) ∙ ap sums_over (sym (deltas_more t [] h s))

-- ---- one snapshot more
pub same_snapshot : (number feed moment : ℕ) (bytes : List ℕ) → feed ≡ feed_of number → moment ≡ moment_of number →
    (let s : Snapshot = record { feed = feed; moment = moment; bytes = bytes } in s) ≡ numbered number bytes
same_snapshot number feed moment bytes p q =
    ap (λ f. let s : Snapshot = record { feed = f; moment = moment; bytes = bytes } in s) p
    ∙ ap (λ m. let s : Snapshot = record { feed = feed_of number; moment = m; bytes = bytes } in s) q

pub summed_next : (t : Option Tables) (h : List Snapshot) (s : Snapshot) (before after : TrialEnd) (d : Delta) → IsSummedUp t h before →
    ((t : Option Tables) (h : List Snapshot) → StandsFor (engine_data before.engine) t h → StandsFor (engine_data after.engine) t (with h s)) →
    ((t : Option Tables) (h : List Snapshot) → Matches (engine_data before.engine) t h → IsDelta t h s (engine_data after.engine).list d) →
    after.sums ≡ added before.sums d → IsSummedUp t (with h s) after
summed_next t h s before after d is stands changes sums =
    let stands_for = stands t h is.stands_for in
    let delta = delta_is_computed t h s (engine_data after.engine).list d (listed (engine_data after.engine) t (with h s) stands_for) (changes t h is.stands_for.matches) in
    record {
      stands_for = stands_for;
      sums_are = sums ∙ ap (added before.sums) delta ∙ ap (λ x. added x (delta_after t h s)) is.sums_are ∙ sums_more t h s;
    }

-- ---- all of them
-- the first so many were taken and counted, and what the state makes is the rest
pub record IsTrying (t : Option Tables) (seed number : ℕ) (m : Moving) (end : TrialEnd) (old now : Work) : Type 0 where
  pub history : List Snapshot
  pub summed_up : IsSummedUp t history end
  pub counted : RoseBy (history_work t history) old now
  pub within : length history < number + 1
  pub all_are : history ++ snapshots_from (40 - number) number m ≡ trial_snapshots seed

pub trying_none : (t : Option Tables) (seed : ℕ) (m : Moving) (end : TrialEnd) (old : Work) → StandsFor (engine_data end.engine) t [] → m ≡ begun seed → end.sums ≡ sums_over [] → IsTrying t seed 0 m end old old
trying_none t seed m end old stands start none = record {
  history = [];
  summed_up = record { stands_for = stands; sums_are = none };
  counted = by_none old;
  within = omega arith;
  all_are = ap (snapshots_from 40 0) start ∙ sym (all_snapshots seed);
}

module _ (t : Option Tables) (seed number : ℕ) (m : Moving) (end : TrialEnd) (old now : Work) (i : IsTrying t seed number m end old now) where
  -- one more
  module _ (next : Moving) (l : number < 40) (is : next ≡ advanced number m) where
    abbrev left : Moving → List Snapshot
    left x = snapshots_from (40 - (number + 1)) (number + 1) x

    all_are : with i.history (snapshot_of number next) ++ left next ≡ trial_snapshots seed
    all_are =
        append_assoc i.history (snapshot_of number next ∷ []) (left next)
        ∙ ap (λ x. i.history ++ (snapshot_of number x ∷ left x)) is
        ∙ ap (λ ss. i.history ++ ss) (sym (first_snapshot (40 - (number + 1)) number m) ∙ ap (λ n. snapshots_from n number m) (one_fewer number l))
        ∙ i.all_are
      where
        one_fewer : (n : ℕ) → n < 40 → suc (40 - (n + 1)) ≡ 40 - n
        one_fewer n l = omega (arith, l)

    pub trying_next : (after : TrialEnd) (new : Work) → IsSummedUp t (with i.history (snapshot_of number next)) after → RoseBy (work_of t i.history (snapshot_of number next)) now new →
        IsTrying t seed (number + 1) next after old new
    trying_next after new summed rose = record {
      history = with i.history (snapshot_of number next);
      summed_up = summed;
      counted = subst (λ w. RoseBy w old new) (sym (work_with t i.history (snapshot_of number next))) (by_both _ _ old now new i.counted rose);
      within = omega (arith, i.within, length-append i.history (snapshot_of number next ∷ []));
      all_are = all_are;
    }

    pub trying_most_next : (new : Work) → RoseAtMost (work_of t i.history (snapshot_of number next)) now new → RoseAtMost (history_work t (trial_snapshots seed)) old new
    trying_most_next new most =
        subst (λ h. RoseAtMost (history_work t h) old new) all_are
        (most_front t (with i.history (snapshot_of number next)) (left next) old new
        (subst (λ w. RoseAtMost w old new) (sym (work_with t i.history (snapshot_of number next))) (most_both _ _ old now new i.counted most)))

  -- no more than for all
  pub trying_most : RoseAtMost (history_work t (trial_snapshots seed)) old now
  trying_most =
      subst (λ h. RoseAtMost (history_work t h) old now) i.all_are
      (most_front t i.history (snapshots_from (40 - number) number m) old now (at_most _ old now i.counted))

  -- all of them
  module _ (l : 40 ≤ number) where
    history_is : i.history ≡ trial_snapshots seed
    history_is = sym (append-nil i.history) ∙ ap (λ ss. i.history ++ ss) (sym (none_left number l)) ∙ i.all_are
      where
        none_left : (n : ℕ) → 40 ≤ n → snapshots_from (40 - n) n m ≡ []
        none_left n l = ap (λ k. snapshots_from k n m) (zero_left n l) ∙ no_snapshots n m
          where
            zero_left : (n : ℕ) → 40 ≤ n → 40 - n ≡ 0
            zero_left n l = omega (arith, l)

    pub trying_all : IsSummedUp t (trial_snapshots seed) end
    trying_all = subst (λ h. IsSummedUp t h end) history_is i.summed_up

    pub trying_counted : RoseBy (history_work t (trial_snapshots seed)) old now
    trying_counted = subst (λ h. RoseBy (history_work t h) old now) history_is i.counted

-- ---- the line that sums up
pub summed_text : (t : Option Tables) (h : List Snapshot) (end : TrialEnd) (r : Result (Vec ℕ Global) AllocError) → IsSummedUp t h end →
    IfOk r (λ text. text.items ≡ summary_text (engine_data end.engine).list end.sums) → IfOk r (λ text. text.items ≡ history_text t h)
summed_text t h end (Ok text) is e =
    e
    ∙ ap (λ list. summary_text list end.sums) (list_is_computed.is_only t h (engine_data end.engine).list (listed (engine_data end.engine) t h is.stands_for))
    ∙ ap (summary_text (standings t h)) is.sums_are
summed_text t h end (Err e) is _ = tt

-- ---- the timetable of the trial
-- where it is accepted the report is the one with it
pub with_timetable_of_trial : (seed : ℕ) (t : Timetable) (contents : Contents) → contents ≡ trial_contents → is_present t ≡ true → tables_of trial_folder contents ≡ Ok (tables_in t) →
    history_report (tables_had t) (trial_snapshots seed) ≡ trial_report seed
with_timetable_of_trial seed t contents same present loaded =
    report_given (λ u c. history_report u (trial_snapshots seed)) (Some trial_folder) (Some trial_contents) t
    (folder_given (Some trial_contents) trial_folder t present (subst (λ c. tables_of trial_folder c ≡ Ok (tables_in t)) same loaded))

-- and so is the work
pub work_with_timetable_of_trial : (seed : ℕ) (t : Timetable) (contents : Contents) → contents ≡ trial_contents → is_present t ≡ true → tables_of trial_folder contents ≡ Ok (tables_in t) →
    history_work (tables_had t) (trial_snapshots seed) ≡ trial_work seed
work_with_timetable_of_trial seed t contents same present loaded =
    work_given (λ u c. history_work u (trial_snapshots seed)) (Some trial_folder) (Some trial_contents) t
    (folder_given (Some trial_contents) trial_folder t present (subst (λ c. tables_of trial_folder c ≡ Ok (tables_in t)) same loaded))

-- where it is refused that is the report
pub refused_trial : (seed : ℕ) (contents : Contents) (why : LoadFault) → contents ≡ trial_contents → tables_of trial_folder contents ≡ Err why → trial_report seed ≡ refused_input (refusal_text trial_folder why)
refused_trial seed contents why same refused =
    report_refused (λ u c. history_report u (trial_snapshots seed)) (Some trial_contents) trial_folder why (subst (λ c. tables_of trial_folder c ≡ Err why) same refused)

-- a count that is always 0 never rises
pub never_rises : Rose 0 0 → ⊥
never_rises rose = omega (arith, rose)
