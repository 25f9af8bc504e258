-- A list of an entity's findings in four parts, each of rules of its own: what of the whole is had part by part.
use Rattle.std.specs.Prelude.{◌≡◌, ℕ, true, List, ◌++◌}
use Rattle.rule_table.specs.declared.rule.RuleId.{RuleId}
use Rattle.rule_table.specs.Found.{Found}
use Rattle.rule_table.specs.Groups.{Each, NoneInBoth, has_rule}
use Rattle.rule_table.specs.Table.{all_rules}
use Rattle.rule_history.specs.Standing.{Standing, Spot, opened, closed}
use Rattle.engine_laws.specs.Standings.{findings_of, renewed}
use Rattle.standing_walks.specs.Merged.{merged_four}
use Rattle.rule_table.specs.ByRule.{each_by_rule}

-- no rule is in two of four lists
pub record AreFourGroups (p q r s : List RuleId) : Type 0 where
  pub first_second : NoneInBoth p q
  pub first_third : NoneInBoth p r
  pub first_fourth : NoneInBoth p s
  pub second_third : NoneInBoth q r
  pub second_fourth : NoneInBoth q s
  pub third_fourth : NoneInBoth r s

-- findings, and standings, of some rules
abbrev pub AreFoundOf : List RuleId → List Found → Type 0
AreFoundOf rules fs = Each (λ f. has_rule rules f.rule ≡ true) fs

abbrev pub StandOf : List RuleId → List Standing → Type 0
StandOf rules xs = Each (λ x. has_rule rules x.finding.rule ≡ true) xs

-- four lists of standings, each of the rules of its group
pub record AreParts (p q r s : List RuleId) (a b c d : List Standing) : Type 0 where
  pub groups : AreFourGroups p q r s
  pub first : StandOf p a
  pub second : StandOf q b
  pub third : StandOf r c
  pub fourth : StandOf s d

-- ---- rule by rule
-- in the order of all rules' texts
abbrev pub found_in_order : List Found → List Found
found_in_order fs = each_by_rule (λ f. f.rule) all_rules fs

abbrev pub standings_in_order : List Standing → List Standing
standings_in_order xs = each_by_rule (λ x. x.finding.rule) all_rules xs

abbrev pub spots_in_order : List Spot → List Spot
spots_in_order xs = each_by_rule (λ x. x.rule) all_rules xs

abbrev pub IsInRuleOrder : List Standing → Type 0
IsInRuleOrder xs = standings_in_order xs ≡ xs

pub record AreInRuleOrder (a b c d : List Standing) : Type 0 where
  pub first : IsInRuleOrder a
  pub second : IsInRuleOrder b
  pub third : IsInRuleOrder c
  pub fourth : IsInRuleOrder d

-- ---- laws
-- Four parts in the order of rules, merged, are all of them in that order.
abbrev pub MergedIsByRule : Type 0
MergedIsByRule = (p q r s : List RuleId) (a b c d : List Standing) → AreParts p q r s a b c d → AreInRuleOrder a b c d →
    merged_four a b c d ≡ standings_in_order ((a ++ b) ++ (c ++ d))

-- Where each part is renewed by what is found of its rules, put rule by rule, their merge is the whole renewed by all that is found, rule by rule. The
-- parts may have been in any order.
abbrev pub MergedRenews : Type 0
MergedRenews = (p q r s : List RuleId) (a b c d : List Standing) → AreParts p q r s a b c d → (n : ℕ) (f g h i : List Found) →
    AreFoundOf p f → AreFoundOf q g → AreFoundOf r h → AreFoundOf s i →
    merged_four (renewed a n (found_in_order f)) (renewed b n (found_in_order g)) (renewed c n (found_in_order h)) (renewed d n (found_in_order i))
    ≡ renewed (merged_four a b c d) n (found_in_order ((f ++ g) ++ (h ++ i)))

-- What opened in the whole is what opened in each part, rule by rule.
abbrev pub MergedOpens : Type 0
MergedOpens = (p q r s : List RuleId) (a b c d e f g h : List Standing) → AreParts p q r s a b c d → AreParts p q r s e f g h → AreInRuleOrder e f g h →
    opened (findings_of (merged_four a b c d)) (merged_four e f g h)
    ≡ standings_in_order ((opened (findings_of a) e ++ opened (findings_of b) f) ++ (opened (findings_of c) g ++ opened (findings_of d) h))

-- What closed in the whole is what closed in each part, rule by rule.
abbrev pub MergedCloses : Type 0
MergedCloses = (p q r s : List RuleId) (a b c d e f g h : List Standing) → AreParts p q r s a b c d → AreParts p q r s e f g h → AreInRuleOrder a b c d →
    closed (findings_of (merged_four a b c d)) (findings_of (merged_four e f g h))
    ≡ spots_in_order ((closed (findings_of a) (findings_of e) ++ closed (findings_of b) (findings_of f)) ++ (closed (findings_of c) (findings_of g) ++ closed (findings_of d) (findings_of h)))
