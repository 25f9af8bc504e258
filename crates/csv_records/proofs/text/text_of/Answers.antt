use Rattle.std.proofs.Common.{◌≡◌, List, ℕ, Some, Result, Ok, Err, Bool, true, false, Bor, refl, ap, option_map}
use Rattle.std.specs.Result.{MatchResult, result_ok}
use Rattle.std.specs.Str.{IsUtf8, is_utf8}
use Rattle.std.proofs.lemmas.Str.{IsUtf8-from_is_utf8, is_utf8-from_IsUtf8}
use Rattle.csv_records.specs.Texts.{text_of}
use Rattle.csv_records.proofs.text.text_of.Goals as goal

not_text : (bytes : List ℕ) (b : Bool) → is_utf8 bytes ≡ b → ¬ (IsUtf8 bytes) → is_utf8 bytes ≡ false
not_text bytes true e refused = absurd (refused (IsUtf8-from_is_utf8 bytes e))
not_text bytes false e refused = e

read_so : {E : Type 0} (bytes : List ℕ) (r : Result (Bor (List ℕ)) E) (P : E → Type 0)
    → MatchResult r (λ s. (s.now ≡ bytes) × IsUtf8 bytes) (λ e. ¬ (IsUtf8 bytes) × P e)
    → option_map (λ s. s.now) (result_ok r) ≡ text_of bytes
read_so bytes (Ok s) P h = rw (is_utf8-from_IsUtf8 bytes h.1) (ap Some h.0)
read_so bytes (Err e) P h = rw (not_text bytes _ refl h.0)

pub returns : goal.returns
returns c = rw c.ok.ensures.value (read_so c.args.field.now c.from_utf8.result _ c.from_utf8.ensures.cases)
