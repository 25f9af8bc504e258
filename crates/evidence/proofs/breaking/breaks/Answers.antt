use Rattle.std.proofs.Common.{◌≡◌, ◌↔◌, true, subst}
use Rattle.rule_table.specs.Asked.{place_value}
use Rattle.rule_table.specs.Broken.{Breaks}
use Rattle.evidence.specs.DoesBreak.{does_break}
use Rattle.evidence.proofs.Decided.{does_break_is, one_answer}
use Rattle.evidence.proofs.breaking.breaks.Goals as goal

pub returns-clause-value : goal.returns-clause-value
returns-clause-value c =
    one_answer {P = Breaks c.args.rule c.args.place.now c.args.facts.now} c.is_broken.result (does_break c.args.rule c.args.place.now c.args.facts.now)
    (subst (λ at. (c.is_broken.result ≡ true) ↔ Breaks c.args.rule at c.args.facts.now) c.borrowed.ensures
    (subst (λ fs. (c.is_broken.result ≡ true) ↔ Breaks c.args.rule (place_value c.borrowed.result) fs) c.as_slice.ensures c.is_broken.ensures))
    (does_break_is c.args.rule c.args.place.now c.args.facts.now)
