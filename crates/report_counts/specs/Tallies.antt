-- The tallies of all rules. (This profile.)
use Rattle.std.specs.Prelude.{ℕ, ◌==◌, List, [], ◌∷◌, ◌++◌, map, Option, Some, None, slice_get, if◌then◌else◌}
use Rattle.rule_table.specs.Rules.{rule_number}
use Rattle.rule_table.specs.Table.{all_rules}
use Rattle.rule_table.specs.declared.rule.RuleId.{RuleId}
use Rattle.rule_tally.specs.Tallies.{Told, tally_of}
use Rattle.rule_tally.specs.declared.tally.Tally.{Tally}

-- the lines that tell of each rule
abbrev pub Lines : Type 0
Lines = RuleId → List Told

unfoldable pub tallies_of : Lines → List Tally
tallies_of lines = map (λ rule. tally_of (lines rule)) all_rules

abbrev pub none_yet : Lines
none_yet rule = []

-- one line more of this rule
abbrev pub one_more_of : Lines → RuleId → Told → Lines
one_more_of lines rule t other = if rule_number other == rule_number rule then lines other ++ t ∷ [] else lines other

abbrev pub findings_in : Option Tally → ℕ
findings_in None = 0
findings_in (Some tally) = tally.findings

abbrev pub findings_at : List Tally → RuleId → ℕ
findings_at tallies rule = findings_in (slice_get tallies (rule_number rule))
