-- The report of `show`, by what its file says.
use Rattle.std.proofs.Common.{◌≡◌, ℕ, List, refl, ap, sym, ◌∙◌, Some, None, subst, IfSome, Result}
use Rattle.std.specs.declared.option.Option.{Option}
use Rattle.std.specs.FinMap.{get}
use Rattle.rt_outside.specs.Store.{Contents}
use Rattle.feed_codec.specs.declared.refusal.Refusal.{Refusal}
use Rattle.feed_codec.specs.Refusal.{refusal}
use Rattle.run_base.specs.Found.{bytes_in, unless_faulty}
use Rattle.run_base.specs.Report.{Report, snapshot_report, judged_report}
use Rattle.run_base.proofs.Chosen.{each}
use Rattle.run_json.specs.Reports.{kept_report, shown_report}

shown_of : (bytes : List ℕ) (o : Option Refusal) → judged_report shown_report bytes o ≡ kept_report (unless_faulty bytes o)
shown_of bytes (Some refusal) = refl
shown_of bytes None = refl

shown_is : (held : Option (List ℕ)) → snapshot_report shown_report held ≡ kept_report (bytes_in held)
shown_is None = refl
shown_is (Some bytes) = shown_of bytes (refusal bytes)

module _ (told : Option Contents) (file : List ℕ) (found : Result (List ℕ) Refusal) (is : IfSome told (λ held. bytes_in (get held file) ≡ found)) where
  abbrev shown_in : Contents → Report
  shown_in held = snapshot_report shown_report (get held file)

  pub shown_said : (P : Report → Type 0) → P (kept_report found) → IfSome told (λ held. P (shown_in held))
  shown_said P p = each told _ (λ held. P (shown_in held)) (λ held e. subst P (sym (shown_is (get held file) ∙ ap kept_report e)) p) is
