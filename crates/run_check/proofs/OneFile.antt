-- The report of `check` on one file is that of its snapshot by itself.
use Rattle.std.proofs.Common.{◌≡◌, ℕ, zero, suc, ◌+◌, ◌*◌, ◌<◌, Bool, true, false, cond, ◌||◌, List, [], ◌∷◌, ◌++◌, map, length, refl, sym, ◌∙◌, ap, subst, arith, append-nil, Some, None, Result, Ok, Err}
use Rattle.std.specs.declared.option.Option.{Option}
use Rattle.std.specs.FinMap.{get}
use Rattle.std.specs.List.{flat_map}
use Rattle.rt_outside.specs.Store.{Contents}
use Rattle.feed_values.specs.Snapshot.{entities_of}
use Rattle.feed_codec.specs.declared.refusal.Reason.TheVariants.{NoFile}
use Rattle.feed_codec.specs.declared.refusal.Refusal.{Refusal}
use Rattle.feed_codec.specs.Refusal.{refusal, refused as refused_at}
use Rattle.feed_list.specs.declared.row.SnapshotRow.{SnapshotRow}
use Rattle.timetable.specs.Timetables.{Tables}
use Rattle.rule_table.specs.Found.{Found}
use Rattle.rule_history.specs.History.{Snapshot, feed_limit, feed_limit-is}
use Rattle.rule_history.specs.Findings.{findings}
use Rattle.rule_history.specs.Changed.{bounded, paired, peaked, tested}
use Rattle.rule_history.specs.Standing.{Standing, Spot, stands_after}
use Rattle.engine_laws.specs.Computed.{standing, standings, delta_after, since_of}
use Rattle.engine_laws.specs.Delta.{Delta}
use Rattle.engine_laws.proofs.Computed.{first_is_new}
use Rattle.engine_laws.proofs.Proved.{no_findings}
use Rattle.rt_report.specs.declared.finding.LineKind.TheVariants as line
use Rattle.snapshot_lines.specs.Lines.{line_of, refused}
use Rattle.run_rows.specs.declared.telling.Telling.TheVariants.{Counts}
use Rattle.rt_report.specs.FindingLines.{standing_text, finding_text, is_error, has_error, any_error}
use Rattle.run_snapshot.specs.Reports.{accepted_report, accepted_text as first_text, snapshot_findings}
use Rattle.run_base.specs.Report.{Report, file_report, found, judged_report, refused_report, snapshot_report}
use Rattle.run_base.specs.Counted.{counters, no_work, plus}
use Rattle.run_snapshot.specs.Counted.{first_work, found_work, snapshot_work}
use Rattle.run_rows.specs.Counted.{files_work, outcome_work, work_of}
use Rattle.run_rows.proofs.Counted.{same_work}
use Rattle.run_check.specs.Check.{all_findings, files_report}
use Rattle.run_rows.specs.Files.{ended}
use Rattle.run_rows.specs.Rows.{accepted_text, row_outcome, taken}
use Rattle.run_base.specs.Found.{bytes_in, unless_faulty}
use Rattle.run_snapshot.proofs.Reports.{as_many}
use Rattle.run_rows.proofs.RowByRow.{then-none}

-- ---- reports that are one
same_report : (r s : Report) → r.text ≡ s.text → r.errors ≡ s.errors → r.status ≡ s.status → r ≡ s
same_report r s a b c =
    ap (λ x. let q : Report = record { text = x; errors = r.errors; status = r.status } in q) a
    ∙ ap (λ x. let q : Report = record { text = s.text; errors = x; status = r.status } in q) b
    ∙ ap (λ x. let q : Report = record { text = s.text; errors = s.errors; status = x } in q) c

-- ---- findings that have stood since the first snapshot
first_since : (after : ℕ → Bool) → since_of after (suc zero) ≡ zero
first_since after = elim (after zero) as (λ b. cond {A = ℕ} b zero zero ≡ zero) [ true ↦ refl | false ↦ refl ]

module _ (t : Option Tables) (s : Snapshot) where
  stands_first : (f : Found) → standing t (s ∷ []) f ≡ (let x : Standing = record { finding = f; since = 0 } in x)
  stands_first f = ap (λ n. let x : Standing = record { finding = f; since = n } in x) (first_since (stands_after t (s ∷ []) f))

  texts : (fs : List Found) → flat_map (standing_text line.Finding) (map (standing t (s ∷ [])) fs) ≡ flat_map finding_text fs
  texts [] = refl
  texts (f ∷ fs) =
      ap (λ x. standing_text line.Finding x ++ flat_map (standing_text line.Finding) (map (standing t (s ∷ [])) fs)) (stands_first f)
      ∙ ap (λ xs. finding_text f ++ xs) (texts fs)

  errors : (fs : List Found) → any_error (map (standing t (s ∷ [])) fs) ≡ has_error fs
  errors [] = refl
  errors (f ∷ fs) = ap (λ b. is_error f.rule || b) (errors fs)

-- ---- a refused snapshot
module _ (t : Option Tables) where
  nothing_stands : standings t [] ≡ []
  nothing_stands = ap (map (standing t [])) (no_findings t feed_limit)

  refused_is : (why : Refusal) → ended (all_findings t) (record { text = line_of (refused 0 why); after = []; error = true }) ≡ refused_report why
  refused_is why =
      same_report _ _ (ap (λ xs. line_of (refused 0 why) ++ flat_map (standing_text line.Finding) xs) nothing_stands ∙ append-nil (line_of (refused 0 why))) refl refl

-- ---- an accepted one
module _ (t : Option Tables) (moment : ℕ) (file bytes : List ℕ) where
  abbrev row : SnapshotRow
  row = record { feed = 0; moment = moment; path = file }

  abbrev first : Snapshot
  first = taken row bytes

  feed_fits : 0 < feed_limit
  feed_fits = subst (λ n. 0 < n) (sym feed_limit-is) (omega arith)

  counts : (e x y z w n : ℕ) → e ≡ n → x ≡ n → y ≡ n → z ≡ n → w ≡ n → (os : List Standing) (cs : List Spot) →
      accepted_text 0 row (record { snapshot = 0; entities = e; opened = os; closed = cs; tested = x; paired = y; bounded = z; peaked = w }) ≡ first_text moment n
  counts e x y z w n a b c d f os cs = rw (a, b, c, d, f) refl

  line_is : accepted_text 0 row (delta_after t [] first) ≡ first_text moment (length (entities_of bytes))
  line_is =
      let many = as_many bytes in
      let d : Delta = delta_after t [] first in
      counts d.entities d.tested d.paired d.bounded d.peaked (length (entities_of bytes)) many (first_is_new.all_tested first feed_fits ∙ many) (first_is_new.all_paired first feed_fits ∙ many)
      (first_is_new.all_bounded t first feed_fits ∙ many) (first_is_new.all_peaked first feed_fits ∙ many) d.opened d.closed

  accepted_is : ended (all_findings t) (row_outcome Counts t [] 0 row (Ok bytes)) ≡ accepted_report t moment bytes
  unfolding snapshot_findings
  accepted_is =
      same_report _ _
      (ap (λ xs. (accepted_text 0 row (delta_after t [] first) ++ []) ++ xs) (texts t first (findings t (first ∷ [])))
      ∙ ap (λ xs. xs ++ flat_map finding_text (findings t (first ∷ []))) (append-nil (accepted_text 0 row (delta_after t [] first)) ∙ line_is))
      refl (ap found (errors t first (findings t (first ∷ []))))

  -- all its entities are tested, paired, bounded and peaked
  work_is : plus (work_of t [] first) no_work ≡ first_work (length (entities_of bytes))
  work_is = all_new (tested [] first) (paired [] first) (bounded t [] first) (peaked [] first) (length (entities_of bytes)) (first_is_new.all_tested first feed_fits ∙ as_many bytes) (first_is_new.all_paired first feed_fits ∙ as_many bytes)
      (first_is_new.all_bounded t first feed_fits ∙ as_many bytes) (first_is_new.all_peaked first feed_fits ∙ as_many bytes)
    where
      all_new : (x y z w n : ℕ) → x ≡ n → y ≡ n → z ≡ n → w ≡ n → counters (x + 0) ((10 + (40 * x + 3 * y + 2 * z + w)) + 0) ≡ first_work n
      all_new x y z w n a b c d = same_work _ _ _ _ (omega (arith, a)) (omega (arith, a, b, c, d))

-- ---- a file
module _ (t : Option Tables) (moment : ℕ) (file : List ℕ) where
  at_fault : (bytes : List ℕ) (why : Option Refusal) → ended (all_findings t) (row_outcome Counts t [] 0 (row t moment file bytes) (unless_faulty bytes why)) ≡ judged_report (accepted_report t moment) bytes why
  at_fault bytes (Some why) = refused_is t why
  at_fault bytes None = accepted_is t moment file bytes

  held_is : (held : Option (List ℕ)) → ended (all_findings t) (row_outcome Counts t [] 0 (record { feed = 0; moment = moment; path = file }) (bytes_in held)) ≡ snapshot_report (accepted_report t moment) held
  held_is None = refused_is t (refused_at 0 NoFile)
  held_is (Some bytes) = at_fault bytes (refusal bytes)

  -- the report on one file is that on its snapshot by itself
  pub one_file : (contents : Contents) → file_report (accepted_report t moment) file contents ≡ files_report t moment (file ∷ []) contents
  one_file contents = sym (ap (ended (all_findings t)) (then-none (row_outcome Counts t [] 0 (record { feed = 0; moment = moment; path = file }) (bytes_in (get contents file)))) ∙ held_is (get contents file))

  -- ---- and so is the work for it
  work_found : (found : Result (List ℕ) Refusal) → outcome_work t (row_outcome Counts t [] 0 (record { feed = 0; moment = moment; path = file }) found) ≡ found_work found
  work_found (Ok bytes) = work_is t moment file bytes
  work_found (Err why) = refl

  pub one_work : (contents : Contents) → snapshot_work (get contents file) ≡ files_work t moment (file ∷ []) contents
  one_work contents =
      let found = bytes_in (get contents file) in
      sym (ap (outcome_work t) (then-none (row_outcome Counts t [] 0 (record { feed = 0; moment = moment; path = file }) found)) ∙ work_found found)
