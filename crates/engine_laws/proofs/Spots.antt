-- A rule at a place, and what a list has there.
use Rattle.std.specs.Prelude.{◌≡◌, ℕ, ◌==◌, ◌&&◌, ◌||◌, Bool, true, false, cond, List, [], ◌∷◌, filter, Option, Some, None, refl}
use Rattle.std.specs.List.{list_any}
use Rattle.std.proofs.Common.{sym, ap, ◌∙◌, eq-eqb}
use borrow.Author.Tests.{eqb-true}
use Rattle.std.proofs.lemmas.Bool.{and_parts, and_from, or_right, or_left}
use Rattle.rule_table.specs.declared.key.EntityKey.{EntityKey}
use Rattle.rule_table.specs.declared.place.Place.{Place}
use Rattle.rule_table.specs.declared.place.Place.TheVariants as place
use Rattle.rule_table.specs.Rules.{rule_number, same_rule}
use Rattle.rule_table.specs.Order.{same_key, same_path, same_place, slot_number}
use Rattle.rule_table.specs.Found.{Found}
use Rattle.rule_table.specs.Groups.{IsOn, IsUnder}
pub use Rattle.rule_table.proofs.SameKeys.{key_is, key_self, key_other}
use Rattle.rule_history.specs.Standing.{Standing, same_spot, same_finding, stands, was}
use Rattle.engine_laws.specs.Standings.{findings_of, since_in}

-- a test that is not true is false
pub is_false : (b : Bool) → (b ≡ true → ⊥) → b ≡ false
is_false true h = absurd (h refl)
is_false false h = refl

-- ---- places
same_number : (a b c : ℕ) → (a == b) ≡ true → (a == c) ≡ (b == c)
same_number a b c h = ap (λ n. n == c) (eqb-true a b h)

ands : (a b c d : Bool) → a ≡ b → c ≡ d → (a && c) ≡ (b && d)
ands a b c d h k = cc

pub place_left : (p q r : Place) → same_place p q ≡ true → same_place p r ≡ same_place q r
place_left (place.Head f s) (place.Entity l q) r h = cc
place_left (place.Entity k p) (place.Head g t) r h = cc
place_left (place.Head f s) (place.Head g t) (place.Entity m r) h = refl
place_left (place.Entity k p) (place.Entity l q) (place.Head u v) h = refl
place_left (place.Head f s) (place.Head g t) (place.Head u v) h =
    let e = and_parts (f == g) (slot_number s == slot_number t) h in
    ands (f == u) (g == u) (slot_number s == slot_number v) (slot_number t == slot_number v) (same_number f g u e.0) (same_number (slot_number s) (slot_number t) (slot_number v) e.1)
place_left (place.Entity k p) (place.Entity l q) (place.Entity m r) h =
    let e = and_parts (same_key k l) (same_path p q) h in
    let i = and_parts (slot_number p.slot == slot_number q.slot) (p.index == q.index) e.1 in
    ands (same_key k m) (same_key l m) (same_path p r) (same_path q r) (ap (λ x. same_key x m) (key_is k l e.0))
    (ands (slot_number p.slot == slot_number r.slot) (slot_number q.slot == slot_number r.slot) (p.index == r.index) (q.index == r.index)
    (same_number (slot_number p.slot) (slot_number q.slot) (slot_number r.slot) i.0) (same_number p.index q.index r.index i.1))

place_self : (p : Place) → same_place p p ≡ true
place_self (place.Head f s) = and_from (f == f) (slot_number s == slot_number s) (eq-eqb f f refl) (eq-eqb (slot_number s) (slot_number s) refl)
place_self (place.Entity k p) =
    and_from (same_key k k) (same_path p p) (key_self k)
    (and_from (slot_number p.slot == slot_number p.slot) (p.index == p.index) (eq-eqb (slot_number p.slot) (slot_number p.slot) refl) (eq-eqb p.index p.index refl))

-- ---- rules at places
pub spot_self : (f : Found) → same_spot f f ≡ true
spot_self f = and_from (same_rule f.rule f.rule) (same_place f.place f.place) (eq-eqb (rule_number f.rule) (rule_number f.rule) refl) (place_self f.place)

pub spot_left : (f g k : Found) → same_spot f g ≡ true → same_spot f k ≡ same_spot g k
spot_left f g k h =
    let e = and_parts (same_rule f.rule g.rule) (same_place f.place g.place) h in
    ands (same_rule f.rule k.rule) (same_rule g.rule k.rule) (same_place f.place k.place) (same_place g.place k.place)
    (same_number (rule_number f.rule) (rule_number g.rule) (rule_number k.rule) e.0) (place_left f.place g.place k.place e.1)

pub spot_back : (f g : Found) → same_spot f g ≡ true → same_spot g f ≡ true
spot_back f g h = sym (spot_left f g f h) ∙ spot_self f

-- a rule at a place is on one header, or under one key
pub spot_on : (n : ℕ) (f g : Found) → IsOn n f.place → same_spot f g ≡ true → IsOn n g.place
spot_on n f g on h = at f.place g.place on (and_parts (same_rule f.rule g.rule) (same_place f.place g.place) h).1
  where
    at : (p q : Place) → IsOn n p → same_place p q ≡ true → IsOn n q
    at (place.Head f s) (place.Head g t) on h = sym (eqb-true f g (and_parts (f == g) (slot_number s == slot_number t) h).0) ∙ on
    at (place.Head f s) (place.Entity l q) on h = cc
    at (place.Entity k p) q on h = absurd on

pub spot_under : (key : EntityKey) (f g : Found) → IsUnder key f.place → same_spot f g ≡ true → IsUnder key g.place
spot_under key f g under h = at f.place g.place under (and_parts (same_rule f.rule g.rule) (same_place f.place g.place) h).1
  where
    at : (p q : Place) → IsUnder key p → same_place p q ≡ true → IsUnder key q
    at (place.Head f s) q under h = absurd under
    at (place.Entity k p) (place.Head g t) under h = cc
    at (place.Entity k p) (place.Entity l q) under h = sym (key_is k l (and_parts (same_key k l) (same_path p q) h).0) ∙ under

-- whether a rule stands at a place sees the rule and the place alone
pub stands_same : (fs : List Found) (f g : Found) → same_spot f g ≡ true → stands fs f ≡ stands fs g
stands_same [] f g h = refl
stands_same (k ∷ fs) f g h =
    let here = spot_left f g k h in
    let rest = stands_same fs f g h in
    cc

-- ---- what a list has where a test is true
abbrev pub having : (Found → Bool) → List Standing → List Standing
having test xs = filter (λ x. test x.finding) xs

abbrev pub first_since : List Standing → Option ℕ
first_since [] = None
first_since (x ∷ xs) = Some x.since

abbrev pub is_some_one : List Standing → Bool
is_some_one [] = false
is_some_one (x ∷ xs) = true

pub since-having : (xs : List Standing) (f : Found) → since_in xs f ≡ first_since (having (same_spot f) xs)
since-having [] f = refl
since-having (x ∷ xs) f =
    elim (same_spot f x.finding) as (λ b. cond b (Some x.since) (since_in xs f) ≡ first_since (cond b (x ∷ having (same_spot f) xs) (having (same_spot f) xs))) [
      | true ↦ refl
      | false ↦ since-having xs f
    ]

pub any-having : (test : Found → Bool) (xs : List Standing) → list_any test (findings_of xs) ≡ is_some_one (having test xs)
any-having test [] = refl
any-having test (x ∷ xs) =
    elim (test x.finding) as (λ b. (b || list_any test (findings_of xs)) ≡ is_some_one (cond b (x ∷ having test xs) (having test xs))) [
      | true ↦ refl
      | false ↦ any-having test xs
    ]

pub was-having : (xs : List Standing) (f : Found) → was (findings_of xs) f ≡ list_any (λ x. same_finding f x.finding) (having (same_spot f) xs)
was-having [] f = refl
was-having (x ∷ xs) f =
    elim (same_spot f x.finding) as (λ b. same_spot f x.finding ≡ b → (same_finding f x.finding || was (findings_of xs) f) ≡ list_any (λ x. same_finding f x.finding) (cond b (x ∷ having (same_spot f) xs) (having (same_spot f) xs))) [
      | true ↦ λ _. ap (λ b. same_finding f x.finding || b) (was-having xs f)
      | false ↦ λ e. ap (λ b. b || was (findings_of xs) f) (other e) ∙ was-having xs f
    ] refl
  where
    other : same_spot f x.finding ≡ false → same_finding f x.finding ≡ false
    other e = cc
