use Rattle.std.proofs.Common.{◌≡◌, ◌∷◌, [], ℤ, pos, negsuc, refl, subst, ap, ◌∙◌}
use Rattle.std.proofs.Math.Facts.{to_z-of_z}
use Rattle.std.specs.Fmt.{signed_decimal}
use Rattle.json.specs.Token as token
use Rattle.serde_json.specs.Find.{of_integer}
use Rattle.serde_json.specs.Written.{number_text}
use Rattle.rt_report.specs.Tokens.{Adds}
use Rattle.rt_report.proofs.Given.{last}
use Rattle.rt_report.proofs.finding.push_integer.Goals as goal

text_is : (z : ℤ) → signed_decimal z ≡ number_text (of_integer z)
text_is (pos n) = refl
text_is (negsuc n) = refl

pub returns : goal.returns
returns c =
    last c.i64.result _ _ _ c.i64.ensures (λ end.
    subst (λ t. Adds c.args.out.now c.i64.new.self (token.number t ∷ [])) (ap signed_decimal (to_z-of_z c.ranges.integer) ∙ text_is c.args.integer) end)
