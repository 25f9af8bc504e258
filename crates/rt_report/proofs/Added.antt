-- The lines of findings, one list after the other.
use Rattle.std.specs.Prelude.{◌≡◌, ◌++◌, ◌||◌, ℕ, Bool, List, [], ◌∷◌, refl}
use Rattle.std.specs.List.{flat_map}
use Rattle.std.proofs.Common.{sym, ap, ◌∙◌, append_assoc}
use Rattle.std.proofs.lemmas.Grind.{flat_map-append}
use Rattle.rule_table.specs.Found.{Found}
use Rattle.rt_report.proofs.Joined.{or_apart}
use Rattle.rt_report.specs.FindingLines.{finding_text, has_error, is_error}

error_append : (xs ys : List Found) → has_error (xs ++ ys) ≡ (has_error xs || has_error ys)
error_append [] ys = refl
error_append (x ∷ xs) ys = ap (λ b. is_error x.rule || b) (error_append xs ys) ∙ sym (or_apart (is_error x.rule) (has_error xs) (has_error ys))

-- behind a front, the lines of two lists
pub lines_apart : (front : List ℕ) (xs ys : List Found) → (front ++ flat_map finding_text xs) ++ flat_map finding_text ys ≡ front ++ flat_map finding_text (xs ++ ys)
lines_apart front xs ys = append_assoc front (flat_map finding_text xs) (flat_map finding_text ys) ∙ ap (λ t. front ++ t) (sym (flat_map-append finding_text xs ys))

pub errors_apart : (error : Bool) (xs ys : List Found) → ((error || has_error xs) || has_error ys) ≡ (error || has_error (xs ++ ys))
errors_apart error xs ys = or_apart error (has_error xs) (has_error ys) ∙ ap (λ e. error || e) (sym (error_append xs ys))
