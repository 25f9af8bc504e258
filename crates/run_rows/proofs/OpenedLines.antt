-- Whether something that opened is of an error.
use Rattle.std.specs.Prelude.{◌≡◌, ◌||◌, List, [], ◌∷◌, refl}
use Rattle.std.specs.List.{list_any}
use Rattle.std.proofs.Common.{ap}
use Rattle.follow_engine.specs.Deltas.{all_opened}
use Rattle.follow_engine.specs.declared.Opened.{Opened}
use Rattle.rt_report.specs.FindingLines.{is_error, any_error}

pub any_opened : (xs : List Opened) → list_any (λ x. is_error x.finding.rule) xs ≡ any_error (all_opened xs)
any_opened [] = refl
any_opened (x ∷ xs) = ap (λ b. is_error x.finding.rule || b) (any_opened xs)
