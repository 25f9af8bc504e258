-- The tallies of all rules, with one line more.
use Rattle.std.proofs.Common.{◌≡◌, ◌+◌, ◌<◌, ◌==◌, ℕ, zero, suc, Bool, true, false, List, [], ◌∷◌, ◌++◌, cond, length, map, take, Some, None, slice_get, slice_index_or, slice_set, refl, sym, ap, ◌∙◌, lit<, arith}
use Rattle.std.proofs.lemmas.Bool.Decides.{nat_tests}
use Rattle.rule_table.specs.Rules.{rule_number}
use Rattle.rule_table.specs.Table.{all_rules}
use Rattle.rule_table.specs.declared.rule.RuleId.{RuleId}
use Rattle.rule_table.specs.declared.rule.RuleId.TheVariants.{E001}
use Rattle.rule_tally.specs.Tallies.{Told, tally_of}
use Rattle.rule_tally.specs.declared.tally.Tally.{Tally}
use Rattle.report_counts.specs.Tallies.{Lines, one_more_of, tallies_of}

-- what is the same of each rule
same_over : (f g : Lines) → ((rule : RuleId) → f rule ≡ g rule) → (rules : List RuleId) → map (λ rule. tally_of (f rule)) rules ≡ map (λ rule. tally_of (g rule)) rules
same_over f g same [] = refl
same_over f g same (rule ∷ rules) = let rest = same_over f g same rules in let one = same rule in rw (one, rest) refl

pub same_tallies : (f g : Lines) → ((rule : RuleId) → f rule ≡ g rule) → tallies_of f ≡ tallies_of g
unfolding tallies_of
same_tallies f g same = same_over f g same all_rules

-- each rule has a tally
module _ {A : Type 0} (f : RuleId → A) where
  at_rule : (rule : RuleId) → slice_get (map f all_rules) (rule_number rule) ≡ Some (f rule)
  at_rule E001 = refl
  at_rule _ = refl

  -- one of them is another
  one_changed : (rule : RuleId) (x : A) → slice_set (map f all_rules) (rule_number rule) x ≡ map (λ other. cond (rule_number other == rule_number rule) x (f other)) all_rules
  one_changed E001 x = refl
  one_changed _ x = refl

pub number_small : (rule : RuleId) (f : Lines) → rule_number rule < length (tallies_of f)
unfolding tallies_of
number_small E001 f = lit< tt
number_small _ f = lit< tt

pub tally_at : (f : Lines) (rule : RuleId) → slice_get (tallies_of f) (rule_number rule) ≡ Some (tally_of (f rule))
unfolding tallies_of
tally_at f rule = at_rule (λ r. tally_of (f r)) rule

some_same : {A : Type 0} (x y : A) → Some x ≡ Some y → x ≡ y
some_same x y h = cc

-- rules of one number are one
same_number : {A : Type 0} (g : RuleId → A) (other rule : RuleId) → rule_number other ≡ rule_number rule → g other ≡ g rule
same_number g other rule e = some_same (g other) (g rule) (sym (at_rule g other) ∙ ap (slice_get (map g all_rules)) e ∙ at_rule g rule)

found_or : {A : Type 0} (xs : List A) (i : ℕ) (x d : A) → slice_get xs i ≡ Some x → slice_index_or xs i d ≡ x
found_or [] i x d h = let clash : None ≡ Some x = h in cc
found_or (y ∷ xs) zero x d h = some_same y x h
found_or (y ∷ xs) (suc i) x d h = found_or xs i x d h

same_map : {A : Type 0} (g h : RuleId → A) → ((rule : RuleId) → g rule ≡ h rule) → (rules : List RuleId) → map g rules ≡ map h rules
same_map g h same [] = refl
same_map g h same (rule ∷ rules) = let rest = same_map g h same rules in let one = same rule in rw (one, rest) refl

-- with one line more of a rule
changed_at : (f : Lines) (rule other : RuleId) (t : Told) (after : Tally) → after ≡ tally_of (f rule ++ t ∷ []) → (b : Bool) → (rule_number other == rule_number rule) ≡ b
    → cond b after (tally_of (f other)) ≡ tally_of (cond b (f other ++ t ∷ []) (f other))
changed_at f rule other t after is true h =
    let e : rule_number other ≡ rule_number rule = grind (arith, nat_tests, h) in
    is ∙ ap (λ lines. tally_of (lines ++ t ∷ [])) (sym (same_number f other rule e))
changed_at f rule other t after is false h = refl

pub taken_at : (f : Lines) (rule : RuleId) (t : Told) (items : List Tally) (n : ℕ) (e after : Tally) → items ≡ tallies_of f → n ≡ rule_number rule → e ≡ slice_index_or items n e
    → ((lines : List Told) → e ≡ tally_of lines → after ≡ tally_of (lines ++ t ∷ [])) → slice_set items n after ≡ tallies_of (one_more_of f rule t)
unfolding tallies_of
taken_at f rule t items n e after same number found taken =
    let first : slice_index_or items n e ≡ slice_index_or (tallies_of f) (rule_number rule) e = ap (λ xs. slice_index_or xs n e) same ∙ ap (λ k. slice_index_or (tallies_of f) k e) number in
    let was : e ≡ tally_of (f rule) = found ∙ first ∙ found_or (tallies_of f) (rule_number rule) (tally_of (f rule)) e (tally_at f rule) in
    let is : after ≡ tally_of (f rule ++ t ∷ []) = taken (f rule) was in
    ap (λ xs. slice_set xs n after) same ∙ ap (λ k. slice_set (tallies_of f) k after) number ∙ one_changed (λ r. tally_of (f r)) rule after
    ∙ same_map (λ other. cond (rule_number other == rule_number rule) after (tally_of (f other))) (λ other. tally_of (one_more_of f rule t other))
    (λ other. changed_at f rule other t after is (rule_number other == rule_number rule) refl) all_rules

-- one more that is the same for each rule
pub pushed : {X : Type 0} (x : X) (rules : List RuleId) (i : ℕ) → i < length rules → map (λ (rule : RuleId). x) (take i rules) ++ x ∷ [] ≡ map (λ (rule : RuleId). x) (take (i + 1) rules)
pushed x [] i h = absurd (omega (arith, h))
pushed x (rule ∷ rules) zero h = refl
pushed x (rule ∷ rules) (suc i) h =
    let next : suc i + 1 ≡ suc (i + 1) = omega arith in
    let rest = pushed x rules i (omega (arith, h)) in
    rw next (ap (λ ys. x ∷ ys) rest)
