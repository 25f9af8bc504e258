-- Four parts of a list, merged.
use Rattle.std.specs.Prelude.{◌≡◌, ◌⊎◌, ℕ, not, Bool, true, false, cond, List, [], ◌∷◌, ◌++◌, map, filter, refl}
use Rattle.std.specs.List.{list_any}
use Rattle.std.proofs.Common.{inl, inr, sym, ap, ◌∙◌}
use Rattle.std.proofs.lemmas.Bool.{and_parts}
use Rattle.std.proofs.lemmas.List.{map-append}
use Rattle.std.proofs.lemmas.List.Elements.{filter-append}
use borrow.Author.Tests.{eqb-true}
use Rattle.rule_table.specs.declared.rule.RuleId.{RuleId}
use Rattle.rule_table.specs.Rules.{rule_number, same_rule}
use Rattle.rule_table.specs.Order.{same_place}
use Rattle.rule_table.specs.Table.{all_rules}
use Rattle.rule_table.specs.Found.{Found}
use Rattle.rule_table.specs.Groups.{Each, NoneInBoth, has_number, has_rule}
use Rattle.rule_table.specs.GroupLaws.{any_both, each_weaken}
use Rattle.rule_history.specs.Standing.{Standing, Spot, same_spot, same_finding, stands, was, opened, closed, spots_of}
use Rattle.engine_laws.specs.Standings.{findings_of, since_in, numbered, renewed}
use Rattle.engine_laws.proofs.Lists.{filter-none, filter-same}
use Rattle.engine_laws.proofs.Since.{renewed-same, renewed-append}
use Rattle.engine_laws.proofs.Spots.{is_false, having, first_since, is_some_one, since-having, any-having, was-having}
use Rattle.standing_walks.specs.Merged.{merged, merged_four}
use Rattle.rule_table.specs.ByRule.{each_by_rule}
use Rattle.rule_table.specs.CitedLaws.{both_same}
use Rattle.part_laws.specs.FourParts.{AreFourGroups, AreFoundOf, StandOf, AreParts, IsInRuleOrder, found_in_order, standings_in_order, spots_in_order, MergedIsByRule, MergedRenews, MergedOpens, MergedCloses}
use Rattle.part_laws.proofs.ByRule.{of_rule, Apart, all_rise, merged-ruled, filter-ruled, mapped-ruled, twice_ruled}
use Rattle.part_laws.proofs.AtSpot.{left_alone, right_alone, neither}

-- ---- rules of one group are of no other
never : {b : Bool} → b ≡ false → b ≡ true → ⊥
never h k = cc (h, k)

not_second : (p q : List RuleId) → NoneInBoth p q → (n : ℕ) → has_number p n ≡ true → has_number q n ≡ false
not_second p q n m h = is_false (has_number q m) (λ k. never n (any_both p q m h k))

not_first : (p q : List RuleId) → NoneInBoth p q → (n : ℕ) → has_number q n ≡ true → has_number p n ≡ false
not_first p q n m h = is_false (has_number p m) (λ k. never n (any_both p q m k h))

-- a list has nothing where a test sees a rule that isn't of its group
none_of : (test : Found → Bool) (n : ℕ) → ((x : Found) → test x ≡ true → rule_number x.rule ≡ n) → (rules : List RuleId) → has_number rules n ≡ false → (xs : List Standing) → StandOf rules xs → having test xs ≡ []
none_of test n sees rules out xs all =
    filter-none (λ x. test x.finding) xs
    (each_weaken (λ x. has_rule rules x.finding.rule ≡ true) (λ x. test x.finding ≡ false)
    (λ x h. is_false (test x.finding) (λ e. never out (sym (ap (has_number rules) (sees x.finding e)) ∙ h))) xs all)

sees_spot : (f x : Found) → same_spot f x ≡ true → rule_number x.rule ≡ rule_number f.rule
sees_spot f x e = sym (eqb-true (rule_number f.rule) (rule_number x.rule) (and_parts (same_rule f.rule x.rule) (same_place f.place x.place) e).0)

sees_rule : (r : RuleId) (x : Found) → same_rule x.rule r ≡ true → rule_number x.rule ≡ rule_number r
sees_rule r x e = eqb-true (rule_number x.rule) (rule_number r) e

module _ (p q r s : List RuleId) (a b c d : List Standing) (are : AreParts p q r s a b c d) where
  abbrev groups : AreFourGroups p q r s
  groups = are.groups

  abbrev whole : List Standing
  whole = merged_four a b c d

  -- what the whole has where a test sees a rule of one group
  module _ (test : Found → Bool) (n : ℕ) (sees : (x : Found) → test x ≡ true → rule_number x.rule ≡ n) where
    abbrev t : Standing → Bool
    t x = test x.finding

    none_a : has_number p n ≡ false → having test a ≡ []
    none_a h = none_of test n sees p h a are.first

    none_b : has_number q n ≡ false → having test b ≡ []
    none_b h = none_of test n sees q h b are.second

    none_c : has_number r n ≡ false → having test c ≡ []
    none_c h = none_of test n sees r h c are.third

    none_d : has_number s n ≡ false → having test d ≡ []
    none_d h = none_of test n sees s h d are.fourth

    pub in_first : has_number p n ≡ true → having test whole ≡ having test a
    in_first h =
        left_alone t (merged a b) (merged c d) (neither t c d (none_c (not_second p r groups.first_third n h)) (none_d (not_second p s groups.first_fourth n h)))
        ∙ left_alone t a b (none_b (not_second p q groups.first_second n h))

    pub in_second : has_number q n ≡ true → having test whole ≡ having test b
    in_second h =
        left_alone t (merged a b) (merged c d) (neither t c d (none_c (not_second q r groups.second_third n h)) (none_d (not_second q s groups.second_fourth n h)))
        ∙ right_alone t a b (none_a (not_first p q groups.first_second n h))

    pub in_third : has_number r n ≡ true → having test whole ≡ having test c
    in_third h =
        right_alone t (merged a b) (merged c d) (neither t a b (none_a (not_first p r groups.first_third n h)) (none_b (not_first q r groups.second_third n h)))
        ∙ left_alone t c d (none_d (not_second r s groups.third_fourth n h))

    pub in_fourth : has_number s n ≡ true → having test whole ≡ having test d
    in_fourth h =
        right_alone t (merged a b) (merged c d) (neither t a b (none_a (not_first p s groups.first_fourth n h)) (none_b (not_first q s groups.second_fourth n h)))
        ∙ right_alone t c d (none_c (not_first r s groups.third_fourth n h))

-- ---- rule by rule
-- two lists of groups that have no rule in both
apart : (p q : List RuleId) → NoneInBoth p q → (a b : List Standing) → StandOf p a → StandOf q b → Apart a b
apart p q n a b ha hb r =
    elim (has_rule p r) as (λ x. has_rule p r ≡ x → (filter (of_rule r) a ≡ []) ⊎ (filter (of_rule r) b ≡ [])) [
      | true ↦ λ e. inr (none_of (λ x. same_rule x.rule r) (rule_number r) (sees_rule r) q (not_second p q n (rule_number r) e) b hb)
      | false ↦ λ e. inl (none_of (λ x. same_rule x.rule r) (rule_number r) (sees_rule r) p e a ha)
    ] refl

two_none : (test : Standing → Bool) (xs ys : List Standing) → filter test xs ≡ [] → filter test ys ≡ [] → filter test (xs ++ ys) ≡ []
two_none test xs ys h k = filter-append test xs ys ∙ both_same h k

module _ (p q r s : List RuleId) (a b c d : List Standing) (are : AreParts p q r s a b c d) where
  halves : Apart (a ++ b) (c ++ d)
  halves x = at_first (has_rule p x) (has_rule q x) refl refl
    where
      none : (rules : List RuleId) (xs : List Standing) → StandOf rules xs → has_rule rules x ≡ false → filter (of_rule x) xs ≡ []
      none rules xs all h = none_of (λ f. same_rule f.rule x) (rule_number x) (sees_rule x) rules h xs all

      last_none : has_rule r x ≡ false → has_rule s x ≡ false → filter (of_rule x) (c ++ d) ≡ []
      last_none h k = two_none (of_rule x) c d (none r c are.third h) (none s d are.fourth k)

      at_first : (u v : Bool) → has_rule p x ≡ u → has_rule q x ≡ v → (filter (of_rule x) (a ++ b) ≡ []) ⊎ (filter (of_rule x) (c ++ d) ≡ [])
      at_first true v e f = inr (last_none (not_second p r are.groups.first_third (rule_number x) e) (not_second p s are.groups.first_fourth (rule_number x) e))
      at_first false true e f = inr (last_none (not_second q r are.groups.second_third (rule_number x) f) (not_second q s are.groups.second_fourth (rule_number x) f))
      at_first false false e f = inl (two_none (of_rule x) a b (none p a are.first e) (none q b are.second f))

  -- the merge of four lists rule by rule
  pub merged-four-ruled : merged_four (standings_in_order a) (standings_in_order b) (standings_in_order c) (standings_in_order d) ≡ standings_in_order ((a ++ b) ++ (c ++ d))
  merged-four-ruled =
      ap (λ xs. merged xs (merged (standings_in_order c) (standings_in_order d))) (merged-ruled 0 all_rules all_rise a b (apart p q are.groups.first_second a b are.first are.second))
      ∙ ap (merged (standings_in_order (a ++ b))) (merged-ruled 0 all_rules all_rise c d (apart r s are.groups.third_fourth c d are.third are.fourth))
      ∙ merged-ruled 0 all_rules all_rise (a ++ b) (c ++ d) halves

four : {a b c d e f g h : List Standing} → a ≡ e → b ≡ f → c ≡ g → d ≡ h → merged_four a b c d ≡ merged_four e f g h
four i j k l = cc

joined : {A : Type 0} {a b c d e f g h : List A} → a ≡ e → b ≡ f → c ≡ g → d ≡ h → ((a ++ b) ++ (c ++ d)) ≡ ((e ++ f) ++ (g ++ h))
joined i j k l = both_same (both_same i j) (both_same k l)

pub merged_is_by_rule : MergedIsByRule
merged_is_by_rule p q r s a b c d are order = four (sym order.first) (sym order.second) (sym order.third) (sym order.fourth) ∙ merged-four-ruled p q r s a b c d are

-- ---- renewed
-- what is found of a group is numbered by its part as by the whole
same_numbers : (part whole : List Standing) (rules : List RuleId) → ((f : Found) → has_rule rules f.rule ≡ true → having (same_spot f) whole ≡ having (same_spot f) part) → (n : ℕ) (fs : List Found) → AreFoundOf rules fs → renewed part n fs ≡ renewed whole n fs
same_numbers part whole rules same n fs all =
    renewed-same part whole n fs
    (each_weaken (λ f. has_rule rules f.rule ≡ true) (λ f. since_in part f ≡ since_in whole f)
    (λ f h. since-having part f ∙ sym (ap first_since (same f h)) ∙ sym (since-having whole f)) fs all)

-- numbering keeps the order of rules
pub ordered-renewed : (whole : List Standing) (n : ℕ) (fs : List Found) → standings_in_order (renewed whole n fs) ≡ renewed whole n (found_in_order fs)
ordered-renewed whole n fs = mapped-ruled (numbered whole n) (λ f. f.rule) (λ x. x.finding.rule) (λ f. refl) all_rules fs

pub each_filtered : {A : Type 0} (P : A → Type 0) (test : A → Bool) (xs : List A) → Each P xs → Each P (filter test xs)
each_filtered P test [] h = tt
each_filtered P test (x ∷ xs) h =
    elim (test x) as (λ b. Each P (cond b (x ∷ filter test xs) (filter test xs))) [ true ↦ (h.0, each_filtered P test xs h.1) | false ↦ each_filtered P test xs h.1 ]

pub renewed_of : (rules : List RuleId) (base : List Standing) (n : ℕ) (fs : List Found) → AreFoundOf rules fs → StandOf rules (renewed base n fs)
renewed_of rules base n [] h = tt
renewed_of rules base n (f ∷ fs) h = (h.0, renewed_of rules base n fs h.1)

pub found_ruled : (rules all : List RuleId) (fs : List Found) → AreFoundOf rules fs → AreFoundOf rules (each_by_rule (λ f. f.rule) all fs)
found_ruled rules [] fs h = tt
found_ruled rules (r ∷ all) fs h =
    each_both (filter (λ f. same_rule f.rule r) fs) (each_by_rule (λ f. f.rule) all fs) (each_filtered (λ f. has_rule rules f.rule ≡ true) (λ f. same_rule f.rule r) fs h) (found_ruled rules all fs h)
  where
    each_both : (xs ys : List Found) → AreFoundOf rules xs → AreFoundOf rules ys → AreFoundOf rules (xs ++ ys)
    each_both [] ys h k = k
    each_both (x ∷ xs) ys h k = (h.0, each_both xs ys h.1 k)

module _ (p q r s : List RuleId) (a b c d : List Standing) (are : AreParts p q r s a b c d) (n : ℕ) where
  abbrev all : List Standing
  all = merged_four a b c d

  part : (xs : List Standing) (rules : List RuleId) → ((x : Found) → has_rule rules x.rule ≡ true → having (same_spot x) all ≡ having (same_spot x) xs) → (fs : List Found) → AreFoundOf rules fs →
      renewed xs n (found_in_order fs) ≡ standings_in_order (renewed all n fs)
  part xs rules same fs of = same_numbers xs all rules same n (found_in_order fs) (found_ruled rules all_rules fs of) ∙ sym (ordered-renewed all n fs)

  renews : (f g h i : List Found) → AreFoundOf p f → AreFoundOf q g → AreFoundOf r h → AreFoundOf s i →
      merged_four (renewed a n (found_in_order f)) (renewed b n (found_in_order g)) (renewed c n (found_in_order h)) (renewed d n (found_in_order i)) ≡ renewed all n (found_in_order ((f ++ g) ++ (h ++ i)))
  renews f g h i hf hg hh hi =
      four (part a p (λ x e. in_first p q r s a b c d are (same_spot x) (rule_number x.rule) (sees_spot x) e) f hf)
      (part b q (λ x e. in_second p q r s a b c d are (same_spot x) (rule_number x.rule) (sees_spot x) e) g hg)
      (part c r (λ x e. in_third p q r s a b c d are (same_spot x) (rule_number x.rule) (sees_spot x) e) h hh)
      (part d s (λ x e. in_fourth p q r s a b c d are (same_spot x) (rule_number x.rule) (sees_spot x) e) i hi)
      ∙ merged-four-ruled p q r s (renewed all n f) (renewed all n g) (renewed all n h) (renewed all n i)
      (record { groups = are.groups; first = renewed_of p all n f hf; second = renewed_of q all n g hg; third = renewed_of r all n h hh; fourth = renewed_of s all n i hi })
      ∙ ap standings_in_order (sym (renewed-append all n (f ++ g) (h ++ i) ∙ both_same (renewed-append all n f g) (renewed-append all n h i)))
      ∙ ordered-renewed all n ((f ++ g) ++ (h ++ i))

-- and findings in the order of rules, numbered, are so
pub in_order_renewed : (base : List Standing) (n : ℕ) (fs : List Found) → IsInRuleOrder (renewed base n (found_in_order fs))
in_order_renewed base n fs = ap standings_in_order (sym (ordered-renewed base n fs)) ∙ twice_ruled (renewed base n fs) ∙ ordered-renewed base n fs

pub merged_renews : MergedRenews
merged_renews p q r s a b c d are n f g h i hf hg hh hi = renews p q r s a b c d are n f g h i hf hg hh hi

-- ---- opened and closed
was_same : (part whole : List Standing) (f : Found) → having (same_spot f) whole ≡ having (same_spot f) part → was (findings_of whole) f ≡ was (findings_of part) f
was_same part whole f e = was-having whole f ∙ ap (list_any (λ x. same_finding f x.finding)) e ∙ sym (was-having part f)

stands_same : (part whole : List Standing) (f : Found) → having (same_spot f) whole ≡ having (same_spot f) part → stands (findings_of whole) f ≡ stands (findings_of part) f
stands_same part whole f e = any-having (same_spot f) whole ∙ ap is_some_one e ∙ sym (any-having (same_spot f) part)

module _ (p q r s : List RuleId) (a b c d : List Standing) (are : AreParts p q r s a b c d) (test : Standing → Bool) where
  -- four lists filtered, each by a test that is the same on it
  filter-four : (one two three last : Standing → Bool) → Each (λ x. test x ≡ one x) a → Each (λ x. test x ≡ two x) b → Each (λ x. test x ≡ three x) c → Each (λ x. test x ≡ last x) d →
      filter test (standings_in_order ((a ++ b) ++ (c ++ d))) ≡ standings_in_order ((filter one a ++ filter two b) ++ (filter three c ++ filter last d))
  filter-four one two three last h i j k =
      filter-ruled test all_rules ((a ++ b) ++ (c ++ d))
      ∙ ap standings_in_order
      (filter-append test (a ++ b) (c ++ d) ∙ both_same (filter-append test a b) (filter-append test c d)
      ∙ joined (filter-same test one a h) (filter-same test two b i) (filter-same test three c j) (filter-same test last d k))

abbrev new : List Standing → Standing → Bool
new before x = not (was (findings_of before) x.finding)

pub merged_opens : MergedOpens
merged_opens p q r s a b c d e f g h are later order =
    ap (opened (findings_of (merged_four a b c d))) (merged_is_by_rule p q r s e f g h later order)
    ∙ filter-four p q r s e f g h later (new (merged_four a b c d)) (new a) (new b) (new c) (new d)
    (each_weaken (λ x. has_rule p x.finding.rule ≡ true) (λ x. new (merged_four a b c d) x ≡ new a x) (λ x m. ap not (was_same a (merged_four a b c d) x.finding (in_first p q r s a b c d are (same_spot x.finding) (rule_number x.finding.rule) (sees_spot x.finding) m))) e later.first)
    (each_weaken (λ x. has_rule q x.finding.rule ≡ true) (λ x. new (merged_four a b c d) x ≡ new b x) (λ x m. ap not (was_same b (merged_four a b c d) x.finding (in_second p q r s a b c d are (same_spot x.finding) (rule_number x.finding.rule) (sees_spot x.finding) m))) f later.second)
    (each_weaken (λ x. has_rule r x.finding.rule ≡ true) (λ x. new (merged_four a b c d) x ≡ new c x) (λ x m. ap not (was_same c (merged_four a b c d) x.finding (in_third p q r s a b c d are (same_spot x.finding) (rule_number x.finding.rule) (sees_spot x.finding) m))) g later.third)
    (each_weaken (λ x. has_rule s x.finding.rule ≡ true) (λ x. new (merged_four a b c d) x ≡ new d x) (λ x m. ap not (was_same d (merged_four a b c d) x.finding (in_fourth p q r s a b c d are (same_spot x.finding) (rule_number x.finding.rule) (sees_spot x.finding) m))) h later.fourth)

-- the rule and place of a standing
spot_of : Standing → Spot
spot_of x = record { rule = x.finding.rule; place = x.finding.place }

abbrev gone : List Standing → Standing → Bool
gone now x = not (stands (findings_of now) x.finding)

closed-spots : (xs now : List Standing) → closed (findings_of xs) (findings_of now) ≡ map spot_of (filter (gone now) xs)
unfolding spot_of
closed-spots [] now = refl
closed-spots (x ∷ xs) now =
    elim (gone now x) as (λ b. spots_of (cond b (x.finding ∷ filter (λ f. not (stands (findings_of now) f)) (findings_of xs)) (filter (λ f. not (stands (findings_of now) f)) (findings_of xs))) ≡ map spot_of (cond b (x ∷ filter (gone now) xs) (filter (gone now) xs))) [
      | true ↦ ap (λ ys. spot_of x ∷ ys) (closed-spots xs now)
      | false ↦ closed-spots xs now
    ]

ordered-spots : (xs : List Standing) → map spot_of (standings_in_order xs) ≡ spots_in_order (map spot_of xs)
unfolding spot_of
ordered-spots xs = sym (mapped-ruled spot_of (λ x. x.finding.rule) (λ x. x.rule) (λ x. refl) all_rules xs)

map-four : (a b c d : List Standing) → map spot_of ((a ++ b) ++ (c ++ d)) ≡ ((map spot_of a ++ map spot_of b) ++ (map spot_of c ++ map spot_of d))
map-four a b c d = map-append spot_of (a ++ b) (c ++ d) ∙ both_same (map-append spot_of a b) (map-append spot_of c d)

pub merged_closes : MergedCloses
merged_closes p q r s a b c d e f g h are later order =
    closed-spots (merged_four a b c d) (merged_four e f g h)
    ∙ ap (λ xs. map spot_of (filter (gone (merged_four e f g h)) xs)) (merged_is_by_rule p q r s a b c d are order)
    ∙ ap (map spot_of)
    (filter-four p q r s a b c d are (gone (merged_four e f g h)) (gone e) (gone f) (gone g) (gone h)
    (each_weaken (λ x. has_rule p x.finding.rule ≡ true) (λ x. gone (merged_four e f g h) x ≡ gone e x) (λ x m. ap not (stands_same e (merged_four e f g h) x.finding (in_first p q r s e f g h later (same_spot x.finding) (rule_number x.finding.rule) (sees_spot x.finding) m))) a are.first)
    (each_weaken (λ x. has_rule q x.finding.rule ≡ true) (λ x. gone (merged_four e f g h) x ≡ gone f x) (λ x m. ap not (stands_same f (merged_four e f g h) x.finding (in_second p q r s e f g h later (same_spot x.finding) (rule_number x.finding.rule) (sees_spot x.finding) m))) b are.second)
    (each_weaken (λ x. has_rule r x.finding.rule ≡ true) (λ x. gone (merged_four e f g h) x ≡ gone g x) (λ x m. ap not (stands_same g (merged_four e f g h) x.finding (in_third p q r s e f g h later (same_spot x.finding) (rule_number x.finding.rule) (sees_spot x.finding) m))) c are.third)
    (each_weaken (λ x. has_rule s x.finding.rule ≡ true) (λ x. gone (merged_four e f g h) x ≡ gone h x) (λ x m. ap not (stands_same h (merged_four e f g h) x.finding (in_fourth p q r s e f g h later (same_spot x.finding) (rule_number x.finding.rule) (sees_spot x.finding) m))) d are.fourth))
    ∙ ordered-spots ((filter (gone e) a ++ filter (gone f) b) ++ (filter (gone g) c ++ filter (gone h) d))
    ∙ ap spots_in_order
    (map-four (filter (gone e) a) (filter (gone f) b) (filter (gone g) c) (filter (gone h) d)
    ∙ joined (sym (closed-spots a e)) (sym (closed-spots b f)) (sym (closed-spots c g)) (sym (closed-spots d h)))
