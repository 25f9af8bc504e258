use Rattle.std.proofs.Common.{◌≡◌, ◌∙◌, List, [], ◌∷◌, ap, refl}
use Rattle.rule_history.specs.Standing.{Standing}
use Rattle.cached_laws.specs.standing_walks.Merged.{merged}
use Rattle.held_feeds.proofs.findings.alone.Goals as goal

merged_none : (xs : List Standing) → merged xs [] ≡ xs
merged_none [] = refl
merged_none (x ∷ xs) = ap (λ ys. x ∷ ys) (merged_none xs)

pub returns : goal.returns
returns c = c.new.ensures ∙ merged_none (merged c.args.list.now []) ∙ merged_none c.args.list.now
