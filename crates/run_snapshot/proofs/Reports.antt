-- Which report a file's bytes have.
use Rattle.std.proofs.Common.{◌≡◌, ℕ, suc, ◌<◌, ◌++◌, Bool, List, [], ◌∷◌, map, length, refl, ap, sym, ◌∙◌, Some, None, arith, subst, IfSome, Result}
use Rattle.std.specs.declared.option.Option.{Option}
use Rattle.std.specs.FinMap.{get}
use Rattle.std.specs.List.{flat_map}
use Rattle.std.proofs.lemmas.List.{length-map}
use Rattle.rt_outside.specs.Store.{Contents}
use Rattle.feed_values.specs.Snapshot.{entities_of, entity_of, entity_payloads, header_of}
use Rattle.feed_values.proofs.SnapshotFields.{snapshot_is_its_fields}
use Rattle.feed_codec.specs.declared.refusal.Refusal.{Refusal}
use Rattle.feed_codec.specs.Refusal.{refusal}
use Rattle.timetable.specs.Timetables.{Tables}
use Rattle.rule_table.specs.Found.{Found}
use Rattle.rule_history.specs.History.{entities_in, feed_limit, feed_limit-is}
use Rattle.snapshot_keys.specs.judging.Judged.{snapshot_found}
use Rattle.snapshot_keys.specs.judging.Seats.{seats}
use Rattle.snapshot_keys.specs.judging.OneSnapshotProofs.{one_snapshot, seats_are, value_of}
use Rattle.engine_laws.proofs.Seats.{none_is_lost}
use Rattle.snapshot_keys.specs.Places.{Places, entity_at, placed}
use Rattle.rt_report.specs.FindingLines.{finding_text, has_error}
use Rattle.run_base.specs.Counted.{Work}
use Rattle.run_base.specs.Found.{bytes_in, unless_faulty}
use Rattle.run_base.proofs.Chosen.{each}
use Rattle.run_base.specs.Report.{Report, found, snapshot_report, judged_report}
use Rattle.run_snapshot.specs.Counted.{found_work, snapshot_work}
use Rattle.run_snapshot.specs.Reports.{accepted_report, accepted_text, first_taken, found_report, listed_report, snapshot_findings}

-- what an accepted snapshot's bytes give is what it says gives
feed_fits : 0 < feed_limit
feed_fits = subst (λ n. 0 < n) (sym feed_limit-is) (omega arith)

pub as_many : (bytes : List ℕ) → length (entity_payloads bytes) ≡ length (entities_of bytes)
as_many bytes = sym (ap length (snapshot_is_its_fields.entities bytes) ∙ longs (entity_payloads bytes))
  where
    longs : (ps : List (List ℕ)) → length (map entity_of ps) ≡ length ps
    longs [] = refl
    longs (p ∷ ps) = ap suc (longs ps)

-- the places of a snapshot are as many as its entities
pub as_many_places : (bytes : List ℕ) (es : Places) → placed bytes es ≡ seats 0 (entities_of bytes) → length es ≡ length (entities_of bytes)
as_many_places bytes es are =
    sym (length-map es (λ e. (e.key, entity_at bytes e.number))) ∙ ap length (are ∙ sym (seats_are 0 bytes)) ∙ length-map (entities_in 0 bytes) value_of
    ∙ (none_is_lost (first_taken 0 bytes ∷ []) 0 (first_taken 0 bytes) refl).as_many ∙ as_many bytes

module _ (t : Option Tables) (moment : ℕ) (bytes : List ℕ) where
  abbrev listed : List Found
  listed = snapshot_found t 0 moment (header_of bytes) (entities_of bytes)

  accepted_is : accepted_report t moment bytes ≡ listed_report moment (length (entities_of bytes)) listed
  unfolding snapshot_findings
  accepted_is = ap (listed_report moment (length (entities_of bytes))) (one_snapshot t (first_taken moment bytes) feed_fits)

  -- the line of an accepted snapshot and those of its findings are the text of its report
  pub accepted_text_is : (count : ℕ) (line : List ℕ) → count ≡ length (entity_payloads bytes) → line ≡ accepted_text moment count → line ++ flat_map finding_text listed ≡ (accepted_report t moment bytes).text
  accepted_text_is count line many is =
      ap (λ front. front ++ flat_map finding_text listed) (is ∙ ap (accepted_text moment) (many ∙ as_many bytes)) ∙ sym (ap (λ r. r.text) accepted_is)

  pub accepted_status_is : (error : Bool) → error ≡ has_error listed → found error ≡ (accepted_report t moment bytes).status
  accepted_status_is error e = ap found e ∙ sym (ap (λ r. r.status) accepted_is)

-- what was found in a file is what its work is counted by
pub work_said : (told : Option Contents) (file : List ℕ) (found : Result (List ℕ) Refusal) → IfSome told (λ held. bytes_in (get held file) ≡ found) → (P : Work → Type 0) →
    P (found_work found) → IfSome told (λ held. P (snapshot_work (get held file)))
work_said told file found is P p = each told _ (λ held. P (snapshot_work (get held file))) (λ held e. subst (λ f. P (found_work f)) (sym e) p) is

judged_is : (accepts : List ℕ → Report) (bytes : List ℕ) (o : Option Refusal) → judged_report accepts bytes o ≡ found_report accepts (unless_faulty bytes o)
judged_is accepts bytes (Some refusal) = refl
judged_is accepts bytes None = refl

report_is : (accepts : List ℕ → Report) (held : Option (List ℕ)) → snapshot_report accepts held ≡ found_report accepts (bytes_in held)
report_is accepts None = refl
report_is accepts (Some bytes) = judged_is accepts bytes (refusal bytes)

-- what was found in a file gives its report
module _ (told : Option Contents) (accepts : List ℕ → Report) (file : List ℕ) (found : Result (List ℕ) Refusal) (is : IfSome told (λ held. bytes_in (get held file) ≡ found)) where
  abbrev report_in : Contents → Report
  report_in held = snapshot_report accepts (get held file)

  pub report_said : (P : Report → Type 0) → P (found_report accepts found) → IfSome told (λ held. P (report_in held))
  report_said P p = each told _ (λ held. P (report_in held)) (λ held e. subst P (sym (report_is accepts (get held file) ∙ ap (found_report accepts) e)) p) is
