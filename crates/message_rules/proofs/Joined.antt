-- The findings of two lists of rules are those of the one list, and then those of the other.
use Rattle.std.proofs.Common.{◌≡◌, List, [], ◌∷◌, ◌++◌, Option, append_assoc, ap, refl, ◌∙◌}
use Rattle.feed_values.specs.Schema.{Value}
use Rattle.feed_values.specs.Messages.{entity}
use Rattle.feed_values.specs.declared.cell_value.CellValue.{CellValue}
use Rattle.rule_table.specs.declared.ask.Ask.{Ask}
use Rattle.rule_table.specs.declared.key.EntityKey.{EntityKey}
use Rattle.rule_table.specs.declared.rule.RuleId.{RuleId}
use Rattle.rule_table.specs.Judged.{found_all, found_by}

pub found_both : (rules others : List RuleId) (answer : Ask → Option CellValue) (key : EntityKey) (e : Value entity)
    → found_all rules answer key e ++ found_all others answer key e ≡ found_all (rules ++ others) answer key e
found_both [] others answer key e = refl
found_both (rule ∷ rules) others answer key e =
    append_assoc (found_by rule answer key e) (found_all rules answer key e) (found_all others answer key e)
    ∙ ap (λ found. found_by rule answer key e ++ found) (found_both rules others answer key e)
