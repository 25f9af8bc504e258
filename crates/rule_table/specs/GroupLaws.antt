-- Laws of lists of findings, of the findings of one row, and of those of rules one after the other.
use Rattle.std.specs.Prelude.{◌≡◌, ℕ, ◌+◌, ◌<◌, ◌≤◌, ◌==◌, ◌||◌, ◌&&◌, not, nat_le, zero, suc, Bool, true, false, List, [], ◌∷◌, ◌++◌, Option, Some, None, cond, refl}
use Rattle.std.specs.List.{list_any}
use Rattle.std.proofs.Common.{ap, ◌∙◌, sym, subst, arith, append_assoc, eq-eqb}
use borrow.Author.Tests.{eqb-true, leb-true}
use Rattle.std.proofs.lemmas.Bool.{and_parts, not-true, or_right, or_left}
use Rattle.feed_values.specs.declared.slot.Slot.{Slot}
use Rattle.feed_values.specs.declared.path.Path.{Path}
use Rattle.feed_values.specs.declared.cell_value.CellValue.{CellValue}
use Rattle.feed_values.specs.Schema.{Value}
use Rattle.feed_values.specs.Messages.{entity}
use Rattle.rule_table.specs.declared.rule.RuleId.{RuleId}
use Rattle.rule_table.specs.declared.key.EntityKey.{EntityKey}
use Rattle.rule_table.specs.declared.place.Place.{Place}
use Rattle.rule_table.specs.declared.place.Place.TheVariants as place
use Rattle.rule_table.specs.declared.ask.Ask.{Ask}
use Rattle.rule_table.specs.declared.fact.Fact.{Fact}
use Rattle.rule_table.specs.Found.{Found}
use Rattle.rule_table.specs.Rules.{rule_number}
use Rattle.rule_table.specs.EachRule.{each_rule}
use Rattle.rule_table.specs.Order.{slot_number}
use Rattle.rule_table.specs.Asked.{index_of}
use Rattle.rule_table.specs.Table.{slots_of, first_of}
use Rattle.rule_table.specs.Rows.{cites_at, test_at}
use Rattle.rule_table.specs.Cited.{cited, values_of}
use Rattle.rule_table.specs.Passed.{passes}
use Rattle.rule_table.specs.Judged.{found_of, found_at, found_below, found_in, found_by, found_all, places_at}
use Rattle.rule_table.specs.Groups.{Each, Differ, Once, IsOf, AreOf, IsUnder, NoneInBoth, has_number, has_rule, are_apart}

-- ---- lists
pub each_append : {A : Type 0} (P : A → Type 0) (xs ys : List A) → Each P xs → Each P ys → Each P (xs ++ ys)
each_append P [] ys h k = k
each_append P (x ∷ xs) ys h k = (h.0, each_append P xs ys h.1 k)

pub each_weaken : {A : Type 0} (P Q : A → Type 0) → ((x : A) → P x → Q x) → (xs : List A) → Each P xs → Each Q xs
each_weaken P Q w [] h = tt
each_weaken P Q w (x ∷ xs) h = (w x h.0, each_weaken P Q w xs h.1)

pub once_append : (xs ys : List Found) → Once xs → Once ys → Each (λ f. Each (Differ f) ys) xs → Once (xs ++ ys)
once_append [] ys h k d = k
once_append (x ∷ xs) ys h k d = (each_append (Differ x) xs ys h.0 d.0, once_append xs ys h.1 k d.1)

has_append_left : (ra rb : List RuleId) (n : ℕ) → has_number ra n ≡ true → has_number (ra ++ rb) n ≡ true
has_append_left [] rb n h = cc
has_append_left (r ∷ ra) rb n h =
    elim (rule_number r == n) as (λ b. (b || has_number ra n) ≡ true → (b || has_number (ra ++ rb) n) ≡ true) [
      | true ↦ λ _. refl
      | false ↦ λ k. has_append_left ra rb n k
    ] h

has_append_right : (ra rb : List RuleId) (n : ℕ) → has_number rb n ≡ true → has_number (ra ++ rb) n ≡ true
has_append_right [] rb n h = h
has_append_right (r ∷ ra) rb n h = or_right (rule_number r == n) (has_number (ra ++ rb) n) (has_append_right ra rb n h)

-- a rule of two lists
pub any_both : (ra rb : List RuleId) (n : ℕ) → has_number ra n ≡ true → has_number rb n ≡ true → list_any (has_rule rb) ra ≡ true
any_both [] rb n h k = cc
any_both (r ∷ ra) rb n h k =
    elim (rule_number r == n) as (λ b. (rule_number r == n) ≡ b → (b || has_number ra n) ≡ true → (has_rule rb r || list_any (has_rule rb) ra) ≡ true) [
      | true ↦ λ e _. let same : rule_number r ≡ n = eqb-true (rule_number r) n e in or_left (has_rule rb r) (list_any (has_rule rb) ra) (ap (has_number rb) same ∙ k)
      | false ↦ λ _ m. or_right (has_rule rb r) (list_any (has_rule rb) ra) (any_both ra rb n m k)
    ] refl h

-- ---- two groups, one after the other
pub both_own : (ra rb : List RuleId) (P : Place → Type 0) (xs ys : List Found) → AreOf ra P xs → AreOf rb P ys → AreOf (ra ++ rb) P (xs ++ ys)
both_own ra rb P xs ys h m =
    each_append (IsOf (ra ++ rb) P) xs ys
    (each_weaken (IsOf ra P) (IsOf (ra ++ rb) P) (λ f o. record { rule = has_append_left ra rb (rule_number f.rule) o.rule; place = o.place }) xs h)
    (each_weaken (IsOf rb P) (IsOf (ra ++ rb) P) (λ f o. record { rule = has_append_right ra rb (rule_number f.rule) o.rule; place = o.place }) ys m)

differ : (ra rb : List RuleId) (P : Place → Type 0) → NoneInBoth ra rb → (f g : Found) → IsOf ra P f → IsOf rb P g → Differ f g
differ ra rb P n f g o q same _ =
    let m : has_number rb (rule_number f.rule) ≡ true = ap (λ r. has_rule rb r) same ∙ q.rule in
    let t : list_any (has_rule rb) ra ≡ true = any_both ra rb (rule_number f.rule) o.rule m in
    cc (n, t)

pub both_once : (ra rb : List RuleId) (P : Place → Type 0) (xs ys : List Found) → NoneInBoth ra rb → AreOf ra P xs → AreOf rb P ys → Once xs → Once ys → Once (xs ++ ys)
both_once ra rb P xs ys n h m o p =
    once_append xs ys o p
    (each_weaken (IsOf ra P) (λ f. Each (Differ f) ys) (λ f q. each_weaken (IsOf rb P) (Differ f) (λ g r. differ ra rb P n f g q r) ys m) xs h)

-- ---- one row
-- the finding is of the rule, at one of some places
pub record Stands (rule : RuleId) (Q : Place → Type 0) (f : Found) : Type 0 where
  pub rule_is : f.rule ≡ rule
  pub at : Q f.place

weaker : (rule : RuleId) (P Q : Place → Type 0) → ((q : Place) → P q → Q q) → (f : Found) → Stands rule P f → Stands rule Q f
weaker rule P Q w f o = record { rule_is = o.rule_is; at = w f.place o.at }

pub all_weaker : (rule : RuleId) (P Q : Place → Type 0) → ((q : Place) → P q → Q q) → (fs : List Found) → Each (Stands rule P) fs → Each (Stands rule Q) fs
all_weaker rule P Q w fs h = each_weaken (Stands rule P) (Stands rule Q) (weaker rule P Q w) fs h

at_of : (rule : RuleId) (at : Place) (o : Option (List Fact)) → Each (Stands rule (λ q. q ≡ at)) (found_of rule at o)
at_of rule at None = tt
at_of rule at (Some facts) =
    elim (passes at (test_at rule at) (values_of facts)) as (λ b. Each (Stands rule (λ q. q ≡ at)) (cond b (let r : Found = record { rule = rule; place = at; facts = facts } in r ∷ []) [])) [
      | true ↦ (record { rule_is = refl; at = refl }, tt)
      | false ↦ tt
    ]

pub at_place : (rule : RuleId) (answer : Ask → Option CellValue) (at : Place) → Each (Stands rule (λ q. q ≡ at)) (found_at rule answer at)
at_place rule answer at =
    elim (nat_le (first_of rule) (index_of at)) as (λ b. Each (Stands rule (λ q. q ≡ at)) (cond b (found_of rule at (cited answer at [] (cites_at rule at))) [])) [
      | true ↦ at_of rule at (cited answer at [] (cites_at rule at))
      | false ↦ tt
    ]

once_of : (rule : RuleId) (at : Place) (o : Option (List Fact)) → Once (found_of rule at o)
once_of rule at None = tt
once_of rule at (Some facts) =
    elim (passes at (test_at rule at) (values_of facts)) as (λ b. Once (cond b (let r : Found = record { rule = rule; place = at; facts = facts } in r ∷ []) [])) [ true ↦ (tt, tt) | false ↦ tt ]

pub once_at : (rule : RuleId) (answer : Ask → Option CellValue) (at : Place) → Once (found_at rule answer at)
once_at rule answer at =
    elim (nat_le (first_of rule) (index_of at)) as (λ b. Once (cond b (found_of rule at (cited answer at [] (cites_at rule at))) [])) [
      | true ↦ once_of rule at (cited answer at [] (cites_at rule at))
      | false ↦ tt
    ]

-- parts at different places
pub once_apart : (rule : RuleId) (P Q : Place → Type 0) → ((q : Place) → P q → Q q → ⊥) → (xs ys : List Found) → Each (Stands rule P) xs → Each (Stands rule Q) ys → Once xs → Once ys → Once (xs ++ ys)
once_apart rule P Q never xs ys h m o n =
    once_append xs ys o n
    (each_weaken (Stands rule P) (λ f. Each (Differ f) ys)
    (λ f q. each_weaken (Stands rule Q) (Differ f) (λ g r _ same. never g.place (subst P same q.at) r.at) ys m) xs h)

-- at a slot of an entity, below an index
pub record Below (k : EntityKey) (s : Slot) (n : ℕ) (q : Place) : Type 0 where
  pub path : Path
  pub is : q ≡ place.Entity k path
  pub slot_is : path.slot ≡ s
  pub below : path.index < n

abbrev at_index : EntityKey → Slot → ℕ → Place
at_index k s i = place.Entity k (record { slot = s; index = i })

raised : (k : EntityKey) (s : Slot) (i : ℕ) (q : Place) → Below k s i q → Below k s (suc i) q
raised k s i q o = record { path = o.path; is = o.is; slot_is = o.slot_is; below = up i o.path.index o.below }
  where
    up : (i j : ℕ) → j < i → j < suc i
    up i j h = omega arith

last_below : (k : EntityKey) (s : Slot) (i : ℕ) (q : Place) → q ≡ at_index k s i → Below k s (suc i) q
last_below k s i q e = record { path = record { slot = s; index = i }; is = e; slot_is = refl; below = omega arith }

each_below : (rule : RuleId) (answer : Ask → Option CellValue) (k : EntityKey) (s : Slot) (n : ℕ) → Each (Stands rule (Below k s n)) (found_below rule answer k s n)
each_below rule answer k s zero = tt
each_below rule answer k s (suc i) =
    each_append (Stands rule (Below k s (suc i))) (found_below rule answer k s i) (found_at rule answer (at_index k s i))
    (all_weaker rule (Below k s i) (Below k s (suc i)) (raised k s i) (found_below rule answer k s i) (each_below rule answer k s i))
    (all_weaker rule (λ q. q ≡ at_index k s i) (Below k s (suc i)) (last_below k s i) (found_at rule answer (at_index k s i)) (at_place rule answer (at_index k s i)))

same_paths : (k l : EntityKey) (p q : Path) → place.Entity k p ≡ place.Entity l q → p ≡ q
same_paths k l p q h = cc

once_below : (rule : RuleId) (answer : Ask → Option CellValue) (k : EntityKey) (s : Slot) (n : ℕ) → Once (found_below rule answer k s n)
once_below rule answer k s zero = tt
once_below rule answer k s (suc i) =
    once_apart rule (Below k s i) (λ q. q ≡ at_index k s i) (λ q b e. not_here q b e)
    (found_below rule answer k s i) (found_at rule answer (at_index k s i))
    (each_below rule answer k s i) (at_place rule answer (at_index k s i)) (once_below rule answer k s i) (once_at rule answer (at_index k s i))
  where
    above : (i j : ℕ) → j < i → j ≡ i → ⊥
    above i j h e = omega arith

    not_here : (q : Place) → Below k s i q → q ≡ at_index k s i → ⊥
    not_here q b e = above i b.path.index b.below (ap (λ (x : Path). x.index) (same_paths k k b.path (record { slot = s; index = i }) (sym b.is ∙ e)))

-- the slots rise from a number on
abbrev pub rise : ℕ → List Slot → Bool
rise n [] = true
rise n (s ∷ slots) = nat_le n (slot_number s) && rise (slot_number s + 1) slots

-- at a slot of an entity that is numbered from n on
pub record From (k : EntityKey) (n : ℕ) (q : Place) : Type 0 where
  pub path : Path
  pub is : q ≡ place.Entity k path
  pub from : n ≤ slot_number path.slot

each_in : (rule : RuleId) (answer : Ask → Option CellValue) (k : EntityKey) (e : Value entity) (n : ℕ) (slots : List Slot) → rise n slots ≡ true → Each (Stands rule (From k n)) (found_in rule answer k e slots)
each_in rule answer k e n [] h = tt
each_in rule answer k e n (s ∷ slots) h =
    let first : n ≤ slot_number s = leb-true n (slot_number s) (and_parts (nat_le n (slot_number s)) (rise (slot_number s + 1) slots) h).0 in
    let rest : rise (slot_number s + 1) slots ≡ true = (and_parts (nat_le n (slot_number s)) (rise (slot_number s + 1) slots) h).1 in
    each_append (Stands rule (From k n)) (found_below rule answer k s (places_at e s)) (found_in rule answer k e slots)
    (all_weaker rule (Below k s (places_at e s)) (From k n)
    (λ q o. record { path = o.path; is = o.is; from = subst (λ x. n ≤ slot_number x) (sym o.slot_is) first })
    (found_below rule answer k s (places_at e s)) (each_below rule answer k s (places_at e s)))
    (all_weaker rule (From k (slot_number s + 1)) (From k n)
    (λ q o. record { path = o.path; is = o.is; from = on n (slot_number s) (slot_number o.path.slot) first o.from })
    (found_in rule answer k e slots) (each_in rule answer k e (slot_number s + 1) slots rest))
  where
    on : (a b c : ℕ) → a ≤ b → b + 1 ≤ c → a ≤ c
    on a b c h m = omega arith

once_in : (rule : RuleId) (answer : Ask → Option CellValue) (k : EntityKey) (e : Value entity) (n : ℕ) (slots : List Slot) → rise n slots ≡ true → Once (found_in rule answer k e slots)
once_in rule answer k e n [] h = tt
once_in rule answer k e n (s ∷ slots) h =
    let rest : rise (slot_number s + 1) slots ≡ true = (and_parts (nat_le n (slot_number s)) (rise (slot_number s + 1) slots) h).1 in
    once_apart rule (Below k s (places_at e s)) (From k (slot_number s + 1))
    (λ q b f. clash (slot_number b.path.slot) (slot_number s) (slot_number f.path.slot) (ap slot_number b.slot_is) f.from
    (ap (λ (x : Path). slot_number x.slot) (same_paths k k b.path f.path (sym b.is ∙ f.is))))
    (found_below rule answer k s (places_at e s)) (found_in rule answer k e slots)
    (each_below rule answer k s (places_at e s)) (each_in rule answer k e (slot_number s + 1) slots rest)
    (once_below rule answer k s (places_at e s)) (once_in rule answer k e (slot_number s + 1) slots rest)
  where
    clash : (a b c : ℕ) → a ≡ b → b + 1 ≤ c → a ≡ c → ⊥
    clash a b c h m q = omega arith

-- each rule's slots rise
pub slots_rise : (rule : RuleId) → rise 0 (slots_of rule) ≡ true
slots_rise = each_rule (λ r. rise 0 (slots_of r)) refl

pub is_one : (rule : RuleId) → has_rule (rule ∷ []) rule ≡ true
is_one rule = or_left (rule_number rule == rule_number rule) false (eq-eqb (rule_number rule) (rule_number rule) refl)

row_once : (rule : RuleId) (answer : Ask → Option CellValue) (k : EntityKey) (e : Value entity) → Once (found_by rule answer k e)
row_once rule answer k e = once_in rule answer k e 0 (slots_of rule) (slots_rise rule)

pub row_own : (rule : RuleId) (answer : Ask → Option CellValue) (k : EntityKey) (e : Value entity) → AreOf (rule ∷ []) (IsUnder k) (found_by rule answer k e)
row_own rule answer k e =
    each_weaken (Stands rule (From k 0)) (IsOf (rule ∷ []) (IsUnder k))
    (λ f o. record {
      rule = subst (λ r. has_rule (rule ∷ []) r ≡ true) (sym o.rule_is) (is_one rule);
      place = subst (IsUnder k) (sym o.at.is) refl;
    })
    (found_by rule answer k e) (each_in rule answer k e 0 (slots_of rule) (slots_rise rule))

-- ---- rules one after the other
pub all_own : (rules : List RuleId) (answer : Ask → Option CellValue) (k : EntityKey) (e : Value entity) → AreOf rules (IsUnder k) (found_all rules answer k e)
all_own [] answer k e = tt
all_own (rule ∷ rules) answer k e =
    both_own (rule ∷ []) rules (IsUnder k) (found_by rule answer k e) (found_all rules answer k e) (row_own rule answer k e) (all_own rules answer k e)

pub apart_first : (rule : RuleId) (rules : List RuleId) → are_apart (rule ∷ rules) ≡ true → NoneInBoth (rule ∷ []) rules
apart_first rule rules h = not-true (list_any (has_rule rules) (rule ∷ [])) (and_parts (not (list_any (has_rule rules) (rule ∷ []))) (are_apart rules) h).0

pub apart_rest : (rule : RuleId) (rules : List RuleId) → are_apart (rule ∷ rules) ≡ true → are_apart rules ≡ true
apart_rest rule rules h = (and_parts (not (list_any (has_rule rules) (rule ∷ []))) (are_apart rules) h).1

pub all_once : (rules : List RuleId) (answer : Ask → Option CellValue) (k : EntityKey) (e : Value entity) → are_apart rules ≡ true → Once (found_all rules answer k e)
all_once [] answer k e h = tt
all_once (rule ∷ rules) answer k e h =
    both_once (rule ∷ []) rules (IsUnder k) (found_by rule answer k e) (found_all rules answer k e) (apart_first rule rules h)
    (row_own rule answer k e) (all_own rules answer k e) (row_once rule answer k e) (all_once rules answer k e (apart_rest rule rules h))

pub all_append : (a b : List RuleId) (answer : Ask → Option CellValue) (k : EntityKey) (e : Value entity) → found_all (a ++ b) answer k e ≡ found_all a answer k e ++ found_all b answer k e
all_append [] b answer k e = refl
all_append (rule ∷ a) b answer k e =
    ap (λ fs. found_by rule answer k e ++ fs) (all_append a b answer k e) ∙ sym (append_assoc (found_by rule answer k e) (found_all a answer k e) (found_all b answer k e))
