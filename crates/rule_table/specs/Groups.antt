-- What is said of groups of rules: whose their findings are, and that no rule and place comes twice.
use Rattle.std.specs.Prelude.{◌≡◌, ℕ, ◌==◌, Bool, true, false, not, ◌&&◌, List, [], ◌∷◌}
use Rattle.std.specs.List.{list_any}
use Rattle.rule_table.specs.declared.rule.RuleId.{RuleId}
use Rattle.rule_table.specs.declared.key.EntityKey.{EntityKey}
use Rattle.rule_table.specs.declared.place.Place.{Place}
use Rattle.rule_table.specs.declared.place.Place.TheVariants.{Head, Entity}
use Rattle.rule_table.specs.Found.{Found}
use Rattle.rule_table.specs.Rules.{rule_number}

abbrev pub has_number : List RuleId → ℕ → Bool
has_number rules n = list_any (λ r. rule_number r == n) rules

-- whether a rule is one of a list
abbrev pub has_rule : List RuleId → RuleId → Bool
has_rule rules rule = has_number rules (rule_number rule)

-- no rule stands in both lists
abbrev pub NoneInBoth : List RuleId → List RuleId → Type 0
NoneInBoth rules others = list_any (has_rule others) rules ≡ false

-- whether no rule of a list comes twice
abbrev pub are_apart : List RuleId → Bool
are_apart [] = true
are_apart (rule ∷ rules) = not (list_any (has_rule rules) (rule ∷ [])) && are_apart rules

abbrev pub Each : {A : Type 0} → (A → Type 0) → List A → Type 0
Each P [] = Unit {0}
Each P (x ∷ xs) = P x × Each P xs

-- a place at the entity with a key
abbrev pub IsUnder : EntityKey → Place → Type 0
IsUnder k (Head feed slot) = ⊥
IsUnder k (Entity key path) = key ≡ k

-- a place on the header of a feed
abbrev pub IsOn : ℕ → Place → Type 0
IsOn f (Head feed slot) = feed ≡ f
IsOn f (Entity key path) = ⊥

-- a finding is of one of the rules, and its place is where it may be
pub record IsOf (rules : List RuleId) (where_ : Place → Type 0) (f : Found) : Type 0 where
  pub rule : has_rule rules f.rule ≡ true
  pub place : where_ f.place

abbrev pub AreOf : List RuleId → (Place → Type 0) → List Found → Type 0
AreOf rules where_ fs = Each (IsOf rules where_) fs

-- two findings are of different rules or at different places
abbrev pub Differ : Found → Found → Type 0
Differ f g = f.rule ≡ g.rule → f.place ≡ g.place → ⊥

-- no rule and place comes twice
abbrev pub Once : List Found → Type 0
Once [] = Unit {0}
Once (f ∷ fs) = Each (Differ f) fs × Once fs
