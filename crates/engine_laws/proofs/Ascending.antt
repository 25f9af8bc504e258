-- The findings after a history are in order.
use Rattle.std.specs.Prelude.{◌≡◌, ℕ, nat_le, zero, suc, ◌+◌, ◌<◌, ◌≤◌, ◌==◌, ◌&&◌, Bool, true, false, cond, List, [], ◌∷◌, ◌++◌, Option, Some, None, refl}
use Rattle.std.specs.List.{flat_map}
use Rattle.std.specs.declared.cmp.Ordering.{Ordering}
use Rattle.std.specs.declared.cmp.Ordering.TheVariants.{Less, Equal, Greater}
use Rattle.std.specs.Ordering.{nat_cmp, ordering_then}
use Rattle.std.specs.Cmp.Lexicographic.{slice_cmp}
use Rattle.std.proofs.Common.{sym, ◌∙◌, ap, subst, arith, eq-eqb}
use Rattle.std.proofs.lemmas.Bool.Decides.{nat_tests}
use Rattle.std.proofs.lemmas.Cmp.{nat_cmp_total, nat_list_cmp_total}
use borrow.Author.Tests.{eqb-true, leb-true}
use Rattle.feed_values.specs.declared.slot.Slot.{Slot}
use Rattle.feed_values.specs.declared.path.Path.{Path}
use Rattle.feed_values.specs.declared.cell_value.CellValue.{CellValue}
use Rattle.feed_values.specs.Schema.{Value}
use Rattle.feed_values.specs.Messages.{entity}
use Rattle.feed_values.specs.Snapshot.{entity_of}
use Rattle.std.proofs.lemmas.List.Folds.{flat_map-map}
use Rattle.std.proofs.lemmas.Bool.{and_parts}
use Rattle.timetable.specs.Timetables.{Tables}
use Rattle.rule_table.specs.declared.rule.RuleId.{RuleId}
use Rattle.rule_table.specs.declared.ask.Ask.{Ask}
use Rattle.rule_table.specs.declared.fact.Fact.{Fact}
use Rattle.rule_table.specs.declared.key.EntityKey.{EntityKey}
use Rattle.rule_table.specs.declared.place.Place.{Place}
use Rattle.rule_table.specs.declared.place.Place.TheVariants as place
use Rattle.rule_table.specs.Rules.{rule_number, same_rule}
use Rattle.rule_table.specs.Table.{all_rules, slots_of, head_slots_of, first_of}
use Rattle.rule_table.specs.Rows.{cites_at, test_at}
use Rattle.rule_table.specs.Order.{slot_number, key_cmp, same_key, same_path, same_place}
use Rattle.rule_table.specs.Asked.{feed_of, slot_of, index_of}
use Rattle.rule_table.specs.Cited.{cited, values_of}
use Rattle.rule_table.specs.Passed.{passes}
use Rattle.rule_table.specs.Found.{Found}
use Rattle.rule_table.specs.Judged.{found_of, found_at, found_below, found_in, found_by, found_all, found_on, head_found_by, head_found_all, places_at}
use Rattle.rule_table.specs.Groups.{Each, IsOn, IsUnder}
use Rattle.rule_table.specs.GroupLaws.{each_append, each_weaken, rise, slots_rise}
use Rattle.rule_history.specs.Standing.{same_spot}
use Rattle.rule_table.specs.Answers.{Gathered}
use Rattle.rule_history.specs.History.{Snapshot, Keyed, now, before, entities_in, feed_limit}
use Rattle.rule_table.specs.Answers.{heads_answer}
use Rattle.rule_history.specs.Answered.{heads_of, gathered}
use Rattle.rule_history.specs.Findings.{findings}
use Rattle.engine_laws.specs.Order.{holder_cmp, found_cmp, Rises}
use Rattle.engine_laws.specs.HeldFeeds.{head_found, held_answer, entity_found, entities_found, feed_found}
use Rattle.engine_laws.proofs.Apart.{on_at}
use Rattle.engine_laws.proofs.Lists.{rises_parts, rises_below}
use Rattle.engine_laws.proofs.Longer.{now-feed, findings-parts}
use Rattle.engine_laws.proofs.Sorted.{Rising, itself, entities_rise, entities_feed}
use Rattle.engine_laws.proofs.Spots.{is_false, key_is, spot_back}

-- ---- orderings
equal_then : (o p q : Ordering) → o ≡ Equal → p ≡ q → ordering_then o p ≡ q
equal_then o p q e k = ap (λ x. ordering_then x p) e ∙ k

less_then : (o p : Ordering) → o ≡ Less → ordering_then o p ≡ Less
less_then o p e = ap (λ x. ordering_then x p) e

less_within : (a b c : Ordering) → ordering_then a b ≡ Less → ordering_then a (ordering_then b c) ≡ Less
less_within Less b c h = refl
less_within Equal b c h = less_then b c h
less_within Greater b c h = cc

nat_self : (n : ℕ) → nat_cmp n n ≡ Equal
nat_self n = itself (nat_cmp n n) (nat_cmp_total.antisymm n n)

nat_same : (a b : ℕ) → a ≡ b → nat_cmp a b ≡ Equal
nat_same a b e = ap (nat_cmp a) (sym e) ∙ nat_self a

pub nat_less : (a b : ℕ) → a < b → nat_cmp a b ≡ Less
nat_less a b h = grind (arith, nat_tests)

text_self : (a : List ℕ) → slice_cmp nat_cmp a a ≡ Equal
text_self a = itself (slice_cmp nat_cmp a a) (nat_list_cmp_total.antisymm a a)

-- ---- places by their parts
abbrev slots_cmp : Slot → ℕ → Slot → ℕ → Ordering
slots_cmp s i t j = ordering_then (nat_cmp (slot_number s) (slot_number t)) (nat_cmp i j)

abbrev ranked : ℕ → ℕ → Place → Place → Ordering
ranked m n p q =
    ordering_then (nat_cmp (feed_of p) (feed_of q))
    (ordering_then (holder_cmp p q) (ordering_then (nat_cmp m n) (slots_cmp (slot_of p) (index_of p) (slot_of q) (index_of q))))

cmp-at : (x y : Found) (p q : Place) → x.place ≡ p → y.place ≡ q → found_cmp x y ≡ ranked (rule_number x.rule) (rule_number y.rule) p q
cmp-at x y p q e k = ap (λ z. ranked (rule_number x.rule) (rule_number y.rule) z y.place) e ∙ ap (ranked (rule_number x.rule) (rule_number y.rule) p) k

cmp-key : (x y : Found) (k : EntityKey) (p q : Path) → x.place ≡ place.Entity k p → y.place ≡ place.Entity k q →
    found_cmp x y ≡ ordering_then (nat_cmp (rule_number x.rule) (rule_number y.rule)) (slots_cmp p.slot p.index q.slot q.index)
cmp-key x y k p q e m =
    cmp-at x y (place.Entity k p) (place.Entity k q) e m
    ∙ equal_then (nat_cmp k.feed k.feed) _ _ (nat_self k.feed) (equal_then (holder_cmp (place.Entity k p) (place.Entity k q)) _ _ (equal_then (slice_cmp nat_cmp k.id k.id) _ _ (text_self k.id) (nat_self k.occurrence)) refl)

cmp-head : (x y : Found) (f : ℕ) (s u : Slot) → x.place ≡ place.Head f s → y.place ≡ place.Head f u →
    found_cmp x y ≡ ordering_then (nat_cmp (rule_number x.rule) (rule_number y.rule)) (slots_cmp s 0 u 0)
cmp-head x y f s u e m = cmp-at x y (place.Head f s) (place.Head f u) e m ∙ equal_then (nat_cmp f f) _ _ (nat_self f) refl

-- ---- one place
record IsAt (rule : RuleId) (at : Place) (x : Found) : Type 0 where
  rule_is : x.rule ≡ rule
  place_is : x.place ≡ at

at_of : (rule : RuleId) (at : Place) (o : Option (List Fact)) → Each (IsAt rule at) (found_of rule at o) × Rises found_cmp (found_of rule at o)
at_of rule at None = (tt, tt)
at_of rule at (Some facts) =
    elim (passes at (test_at rule at) (values_of facts)) as (λ b. let x : Found = record { rule = rule; place = at; facts = facts } in Each (IsAt rule at) (cond b (x ∷ []) []) × Rises found_cmp (cond b (x ∷ []) [])) [
      | true ↦ ((record { rule_is = refl; place_is = refl }, tt), (tt, tt))
      | false ↦ (tt, tt)
    ]

at_place : (rule : RuleId) (answer : Ask → Option CellValue) (at : Place) → Each (IsAt rule at) (found_at rule answer at) × Rises found_cmp (found_at rule answer at)
at_place rule answer at =
    elim (nat_le (first_of rule) (index_of at)) as (λ b. Each (IsAt rule at) (cond b (found_of rule at (cited answer at [] (cites_at rule at))) []) × Rises found_cmp (cond b (found_of rule at (cited answer at [] (cites_at rule at))) [])) [
      | true ↦ at_of rule at (cited answer at [] (cites_at rule at))
      | false ↦ (tt, tt)
    ]

-- ---- one rule at an entity
record IsIn (rule : RuleId) (key : EntityKey) (P : Path → Type 0) (x : Found) : Type 0 where
  rule_is : x.rule ≡ rule
  path : Path
  place_is : x.place ≡ place.Entity key path
  at : P path

in_weaker : (rule : RuleId) (key : EntityKey) (P Q : Path → Type 0) → ((p : Path) → P p → Q p) → (xs : List Found) → Each (IsIn rule key P) xs → Each (IsIn rule key Q) xs
in_weaker rule key P Q w xs h = each_weaken (IsIn rule key P) (IsIn rule key Q) (λ x m. record { rule_is = m.rule_is; path = m.path; place_is = m.place_is; at = w m.path m.at }) xs h

record Under (s : Slot) (n : ℕ) (p : Path) : Type 0 where
  slot_is : slot_number p.slot ≡ slot_number s
  index : p.index < n

module _ (rule : RuleId) (answer : Ask → Option CellValue) (key : EntityKey) where
  cmp-in : (P Q : Path → Type 0) (x y : Found) (a : IsIn rule key P x) (b : IsIn rule key Q y) → found_cmp x y ≡ slots_cmp a.path.slot a.path.index b.path.slot b.path.index
  cmp-in P Q x y a b =
      cmp-key x y key a.path b.path a.place_is b.place_is
      ∙ equal_then (nat_cmp (rule_number x.rule) (rule_number y.rule)) _ _ (nat_same (rule_number x.rule) (rule_number y.rule) (ap rule_number (a.rule_is ∙ sym b.rule_is))) refl

  below_in : (s : Slot) (n : ℕ) → Each (IsIn rule key (Under s n)) (found_below rule answer key s n) × Rises found_cmp (found_below rule answer key s n)
  below_in s zero = (tt, tt)
  below_in s (suc i) =
      let here : Place = place.Entity key (record { slot = s; index = i }) in
      let m = below_in s i in
      let one = at_place rule answer here in
      let at : Each (IsIn rule key (λ p. (slot_number p.slot ≡ slot_number s) × (p.index ≡ i))) (found_at rule answer here) =
      each_weaken (IsAt rule here) (IsIn rule key (λ p. (slot_number p.slot ≡ slot_number s) × (p.index ≡ i)))
      (λ x a. record { rule_is = a.rule_is; path = record { slot = s; index = i }; place_is = a.place_is; at = (refl, refl) }) (found_at rule answer here) one.0 in (
        each_append (IsIn rule key (Under s (suc i))) (found_below rule answer key s i) (found_at rule answer here)
            (in_weaker rule key (Under s i) (Under s (suc i)) (λ p u. record { slot_is = u.slot_is; index = up i p.index u.index }) (found_below rule answer key s i) m.0)
            (in_weaker rule key (λ p. (slot_number p.slot ≡ slot_number s) × (p.index ≡ i)) (Under s (suc i)) (λ p u. record { slot_is = u.0; index = last i p.index u.1 }) (found_at rule answer here) at),
        rises_parts found_cmp (IsIn rule key (Under s i)) (IsIn rule key (λ p. (slot_number p.slot ≡ slot_number s) × (p.index ≡ i)))
            (λ x y a b. cmp-in (Under s i) (λ p. (slot_number p.slot ≡ slot_number s) × (p.index ≡ i)) x y a b
            ∙ equal_then (nat_cmp (slot_number a.path.slot) (slot_number b.path.slot)) _ _ (nat_same (slot_number a.path.slot) (slot_number b.path.slot) (a.at.slot_is ∙ sym b.at.0))
            (nat_less a.path.index b.path.index (before_it i a.path.index b.path.index a.at.index b.at.1)))
            (found_below rule answer key s i) (found_at rule answer here) m.0 at m.1 one.1,
      )
    where
      up : (i j : ℕ) → j < i → j < suc i
      up i j h = omega arith

      last : (i j : ℕ) → j ≡ i → j < suc i
      last i j h = omega arith

      before_it : (i j k : ℕ) → j < i → k ≡ i → j < k
      before_it i j k h e = omega arith

  in_in : (e : Value entity) (n : ℕ) (slots : List Slot) → rise n slots ≡ true → Each (IsIn rule key (λ p. n ≤ slot_number p.slot)) (found_in rule answer key e slots) × Rises found_cmp (found_in rule answer key e slots)
  in_in e n [] h = (tt, tt)
  in_in e n (s ∷ slots) h =
      let r = and_parts (nat_le n (slot_number s)) (rise (slot_number s + 1) slots) h in
      let from : n ≤ slot_number s = leb-true n (slot_number s) r.0 in
      let one = below_in s (places_at e s) in
      let rest = in_in e (slot_number s + 1) slots r.1 in (
        each_append (IsIn rule key (λ p. n ≤ slot_number p.slot)) (found_below rule answer key s (places_at e s)) (found_in rule answer key e slots)
            (in_weaker rule key (Under s (places_at e s)) (λ p. n ≤ slot_number p.slot) (λ p u. subst (λ x. n ≤ x) (sym u.slot_is) from) (found_below rule answer key s (places_at e s)) one.0)
            (in_weaker rule key (λ p. slot_number s + 1 ≤ slot_number p.slot) (λ p. n ≤ slot_number p.slot) (λ p u. on n (slot_number s) (slot_number p.slot) from u) (found_in rule answer key e slots) rest.0),
        rises_parts found_cmp (IsIn rule key (Under s (places_at e s))) (IsIn rule key (λ p. slot_number s + 1 ≤ slot_number p.slot))
            (λ x y a b. cmp-in (Under s (places_at e s)) (λ p. slot_number s + 1 ≤ slot_number p.slot) x y a b
            ∙ less_then (nat_cmp (slot_number a.path.slot) (slot_number b.path.slot)) _ (nat_less (slot_number a.path.slot) (slot_number b.path.slot) (over (slot_number s) (slot_number a.path.slot) (slot_number b.path.slot) a.at.slot_is b.at)))
            (found_below rule answer key s (places_at e s)) (found_in rule answer key e slots) one.0 rest.0 one.1 rest.1,
      )
    where
      on : (a b c : ℕ) → a ≤ b → b + 1 ≤ c → a ≤ c
      on a b c h m = omega arith

      over : (a b c : ℕ) → b ≡ a → a + 1 ≤ c → b < c
      over a b c h m = omega arith

pub row_rule : (rule : RuleId) (answer : Ask → Option CellValue) (key : EntityKey) (e : Value entity) → Each (λ x. x.rule ≡ rule) (found_by rule answer key e)
row_rule rule answer key e =
    each_weaken (IsIn rule key (λ p. 0 ≤ slot_number p.slot)) (λ x. x.rule ≡ rule) (λ x m. m.rule_is) (found_by rule answer key e) (in_in rule answer key e 0 (slots_of rule) (slots_rise rule)).0

-- ---- rules one after the other
-- the rules rise from a number on, and so do the slots of each
abbrev pub are_sorted : (RuleId → List Slot) → ℕ → List RuleId → Bool
are_sorted slots n [] = true
are_sorted slots n (r ∷ rules) = nat_le n (rule_number r) && (rise 0 (slots r) && are_sorted slots (rule_number r + 1) rules)

record IsBy (n : ℕ) (P : Place → Type 0) (x : Found) : Type 0 where
  from : n ≤ rule_number x.rule
  at : P x.place

by_weaker : (n m : ℕ) (P : Place → Type 0) → n ≤ m → (xs : List Found) → Each (IsBy m P) xs → Each (IsBy n P) xs
by_weaker n m P le xs h = each_weaken (IsBy m P) (IsBy n P) (λ x b. record { from = on n m (rule_number x.rule) le b.from; at = b.at }) xs h
  where
    on : (a b c : ℕ) → a ≤ b → b ≤ c → a ≤ c
    on a b c h m = omega arith

-- two findings on one header or under one key
record IsOne (P : Place → Type 0) : Type 0 where
  cmp : (x y : Found) → P x.place → P y.place → rule_number x.rule < rule_number y.rule → found_cmp x y ≡ Less

one_key : (key : EntityKey) → IsOne (IsUnder key)
one_key key = record { cmp = λ x y a b l. at x y x.place y.place refl refl a b l }
  where
    at : (x y : Found) (p q : Place) → x.place ≡ p → y.place ≡ q → IsUnder key p → IsUnder key q → rule_number x.rule < rule_number y.rule → found_cmp x y ≡ Less
    at x y (place.Head f s) q e m a b l = absurd a
    at x y (place.Entity k p) (place.Head f s) e m a b l = absurd b
    at x y (place.Entity k p) (place.Entity j q) e m a b l =
        cmp-key x y key p q (e ∙ ap (λ z. place.Entity z p) a) (m ∙ ap (λ z. place.Entity z q) b)
        ∙ less_then (nat_cmp (rule_number x.rule) (rule_number y.rule)) _ (nat_less (rule_number x.rule) (rule_number y.rule) l)

one_head : (f : ℕ) → IsOne (IsOn f)
one_head f = record { cmp = λ x y a b l. at x y x.place y.place refl refl a b l }
  where
    at : (x y : Found) (p q : Place) → x.place ≡ p → y.place ≡ q → IsOn f p → IsOn f q → rule_number x.rule < rule_number y.rule → found_cmp x y ≡ Less
    at x y (place.Entity k p) q e m a b l = absurd a
    at x y (place.Head g s) (place.Entity k p) e m a b l = absurd b
    at x y (place.Head g s) (place.Head h u) e m a b l =
        cmp-head x y f s u (e ∙ ap (λ z. place.Head z s) a) (m ∙ ap (λ z. place.Head z u) b)
        ∙ less_then (nat_cmp (rule_number x.rule) (rule_number y.rule)) _ (nat_less (rule_number x.rule) (rule_number y.rule) l)

rule_then : (P : Place → Type 0) → IsOne P → (n : ℕ) (r : RuleId) (xs ys : List Found) → n ≤ rule_number r → Each (λ x. (x.rule ≡ r) × P x.place) xs → Rises found_cmp xs → Each (IsBy (rule_number r + 1) P) ys → Rises found_cmp ys →
    Each (IsBy n P) (xs ++ ys) × Rises found_cmp (xs ++ ys)
rule_then P one n r xs ys le own up rest more = (
  each_append (IsBy n P) xs ys
      (each_weaken (λ x. (x.rule ≡ r) × P x.place) (IsBy n P) (λ x o. record { from = subst (λ z. n ≤ rule_number z) (sym o.0) le; at = o.1 }) xs own)
      (by_weaker n (rule_number r + 1) P (omega arith) ys rest),
  rises_parts found_cmp (λ x. (x.rule ≡ r) × P x.place) (IsBy (rule_number r + 1) P)
      (λ x y a b. one.cmp x y a.1 b.at (under (rule_number r) (rule_number x.rule) (rule_number y.rule) (ap rule_number a.0) b.from)) xs ys own rest up more,
)
  where
    under : (a b c : ℕ) → b ≡ a → a + 1 ≤ c → b < c
    under a b c e h = omega arith

all_by : (answer : Ask → Option CellValue) (key : EntityKey) (e : Value entity) (n : ℕ) (rules : List RuleId) → are_sorted slots_of n rules ≡ true → Each (IsBy n (IsUnder key)) (found_all rules answer key e) × Rises found_cmp (found_all rules answer key e)
all_by answer key e n [] h = (tt, tt)
all_by answer key e n (r ∷ rules) h =
    let p = and_parts (nat_le n (rule_number r)) (rise 0 (slots_of r) && are_sorted slots_of (rule_number r + 1) rules) h in
    let q = and_parts (rise 0 (slots_of r)) (are_sorted slots_of (rule_number r + 1) rules) p.1 in
    let one = in_in r answer key e 0 (slots_of r) q.0 in
    let rest = all_by answer key e (rule_number r + 1) rules q.1 in
    rule_then (IsUnder key) (one_key key) n r (found_by r answer key e) (found_all rules answer key e) (leb-true n (rule_number r) p.0)
    (each_weaken (IsIn r key (λ p. 0 ≤ slot_number p.slot)) (λ x. (x.rule ≡ r) × IsUnder key x.place) (λ x m. (m.rule_is, subst (IsUnder key) (sym m.place_is) refl)) (found_by r answer key e) one.0)
    one.1 rest.0 rest.1

-- so the findings of rules that rise are in order
pub found_ascend : (answer : Ask → Option CellValue) (key : EntityKey) (e : Value entity) (rules : List RuleId) → are_sorted slots_of 0 rules ≡ true → Rises found_cmp (found_all rules answer key e)
found_ascend answer key e rules h = (all_by answer key e 0 rules h).1

-- ---- on a header
record IsOnSlot (rule : RuleId) (f n : ℕ) (x : Found) : Type 0 where
  rule_is : x.rule ≡ rule
  slot : Slot
  place_is : x.place ≡ place.Head f slot
  from : n ≤ slot_number slot

on_on : (rule : RuleId) (answer : Ask → Option CellValue) (f n : ℕ) (slots : List Slot) → rise n slots ≡ true → Each (IsOnSlot rule f n) (found_on rule answer f slots) × Rises found_cmp (found_on rule answer f slots)
on_on rule answer f n [] h = (tt, tt)
on_on rule answer f n (s ∷ slots) h =
    let r = and_parts (nat_le n (slot_number s)) (rise (slot_number s + 1) slots) h in
    let one = at_place rule answer (place.Head f s) in
    let rest = on_on rule answer f (slot_number s + 1) slots r.1 in (
      each_append (IsOnSlot rule f n) (found_at rule answer (place.Head f s)) (found_on rule answer f slots)
          (each_weaken (IsAt rule (place.Head f s)) (IsOnSlot rule f n) (λ x a. record { rule_is = a.rule_is; slot = s; place_is = a.place_is; from = leb-true n (slot_number s) r.0 }) (found_at rule answer (place.Head f s)) one.0)
          (each_weaken (IsOnSlot rule f (slot_number s + 1)) (IsOnSlot rule f n) (λ x a. record { rule_is = a.rule_is; slot = a.slot; place_is = a.place_is; from = on n (slot_number s) (slot_number a.slot) (leb-true n (slot_number s) r.0) a.from }) (found_on rule answer f slots) rest.0),
      rises_parts found_cmp (IsAt rule (place.Head f s)) (IsOnSlot rule f (slot_number s + 1))
          (λ x y a b. cmp-head x y f s b.slot a.place_is b.place_is
          ∙ equal_then (nat_cmp (rule_number x.rule) (rule_number y.rule)) _ _ (nat_same (rule_number x.rule) (rule_number y.rule) (ap rule_number (a.rule_is ∙ sym b.rule_is)))
          (less_then (nat_cmp (slot_number s) (slot_number b.slot)) _ (nat_less (slot_number s) (slot_number b.slot) (over (slot_number s) (slot_number b.slot) b.from))))
          (found_at rule answer (place.Head f s)) (found_on rule answer f slots) one.0 rest.0 one.1 rest.1,
    )
  where
    on : (a b c : ℕ) → a ≤ b → b + 1 ≤ c → a ≤ c
    on a b c h m = omega arith

    over : (a c : ℕ) → a + 1 ≤ c → a < c
    over a c m = omega arith

heads_by : (answer : Ask → Option CellValue) (f n : ℕ) (rules : List RuleId) → are_sorted head_slots_of n rules ≡ true → Each (IsBy n (IsOn f)) (head_found_all rules answer f) × Rises found_cmp (head_found_all rules answer f)
heads_by answer f n [] h = (tt, tt)
heads_by answer f n (r ∷ rules) h =
    let p = and_parts (nat_le n (rule_number r)) (rise 0 (head_slots_of r) && are_sorted head_slots_of (rule_number r + 1) rules) h in
    let q = and_parts (rise 0 (head_slots_of r)) (are_sorted head_slots_of (rule_number r + 1) rules) p.1 in
    let one = on_on r answer f 0 (head_slots_of r) q.0 in
    let rest = heads_by answer f (rule_number r + 1) rules q.1 in
    rule_then (IsOn f) (one_head f) n r (head_found_by r answer f) (head_found_all rules answer f) (leb-true n (rule_number r) p.0)
    (each_weaken (IsOnSlot r f 0) (λ x. (x.rule ≡ r) × IsOn f x.place) (λ x m. (m.rule_is, subst (IsOn f) (sym m.place_is) refl)) (head_found_by r answer f) one.0)
    one.1 rest.0 rest.1

-- ---- headers and entities
record IsOver (k : EntityKey) (x : Found) : Type 0 where
  key : EntityKey
  under : IsUnder key x.place
  above : key_cmp k key ≡ Less

cmp_over : (k : EntityKey) (x y : Found) → IsUnder k x.place → IsOver k y → found_cmp x y ≡ Less
cmp_over k x y a b = at x.place y.place refl refl a b.under
  where
    at : (p q : Place) → x.place ≡ p → y.place ≡ q → IsUnder k p → IsUnder b.key q → found_cmp x y ≡ Less
    at (place.Head f s) q e m u v = absurd u
    at (place.Entity l p) (place.Head f s) e m u v = absurd v
    at (place.Entity l p) (place.Entity j q) e m u v =
        cmp-at x y (place.Entity k p) (place.Entity b.key q) (e ∙ ap (λ z. place.Entity z p) u) (m ∙ ap (λ z. place.Entity z q) v)
        ∙ less_within (nat_cmp k.feed b.key.feed) (holder_cmp (place.Entity k p) (place.Entity b.key q)) _ b.above

abbrev IsEntityOf : ℕ → Place → Type 0
IsEntityOf f (place.Head g s) = ⊥
IsEntityOf f (place.Entity k p) = k.feed ≡ f

entity_at : (f : ℕ) (k : EntityKey) (p : Place) → k.feed ≡ f → IsUnder k p → IsEntityOf f p
entity_at f k (place.Head g s) e m = absurd m
entity_at f k (place.Entity l p) e m = ap (λ z. z.feed) m ∙ e

entity_feed : (f : ℕ) (p : Place) → IsEntityOf f p → feed_of p ≡ f
entity_feed f (place.Head g s) m = absurd m
entity_feed f (place.Entity l p) m = m

cmp_header : (f : ℕ) (x y : Found) → IsOn f x.place → IsEntityOf f y.place → found_cmp x y ≡ Less
cmp_header f x y a b = at x.place y.place refl refl a b
  where
    at : (p q : Place) → x.place ≡ p → y.place ≡ q → IsOn f p → IsEntityOf f q → found_cmp x y ≡ Less
    at (place.Entity l p) q e m u v = absurd u
    at (place.Head g s) (place.Head h w) e m u v = absurd v
    at (place.Head g s) (place.Entity j q) e m u v =
        cmp-at x y (place.Head g s) (place.Entity j q) e m ∙ equal_then (nat_cmp g j.feed) _ _ (nat_same g j.feed (u ∙ sym v)) refl

pub head_ascends : (s : Snapshot) (b : Option Snapshot) → Rises found_cmp (head_found s b)
head_ascends s b = (heads_by (heads_answer (heads_of s b)) s.feed 0 all_rules refl).1

pub head_on : (s : Snapshot) (b : Option Snapshot) → Each (λ x. IsOn s.feed x.place) (head_found s b)
head_on s b = each_weaken (IsBy 0 (IsOn s.feed)) (λ x. IsOn s.feed x.place) (λ x m. m.at) (head_found s b) (heads_by (heads_answer (heads_of s b)) s.feed 0 all_rules refl).0

module _ (t : Option Tables) (u : Gathered) (s : Snapshot) where
  entity_ascends : (e : Keyed) → Rises found_cmp (entity_found t u s e)
  entity_ascends e = (all_by (held_answer t u s e.0 (entity_of e.1)) e.0 (entity_of e.1) 0 all_rules refl).1

  pub entity_under : (e : Keyed) → Each (λ x. IsUnder e.0 x.place) (entity_found t u s e)
  entity_under e = each_weaken (IsBy 0 (IsUnder e.0)) (λ x. IsUnder e.0 x.place) (λ x m. m.at) (entity_found t u s e) (all_by (held_answer t u s e.0 (entity_of e.1)) e.0 (entity_of e.1) 0 all_rules refl).0

  -- ---- entities in the order of their keys
  entities_over : (k : EntityKey) (es : List Keyed) → Each (λ d. key_cmp k d.0 ≡ Less) es → Each (IsOver k) (flat_map (entity_found t u s) es)
  entities_over k [] h = tt
  entities_over k (e ∷ es) h =
      each_append (IsOver k) (entity_found t u s e) (flat_map (entity_found t u s) es)
      (each_weaken (λ x. IsUnder e.0 x.place) (IsOver k) (λ x m. record { key = e.0; under = m; above = h.0 }) (entity_found t u s e) (entity_under e)) (entities_over k es h.1)

  entities_ascend : (es : List Keyed) → Rising es → Rises found_cmp (flat_map (entity_found t u s) es)
  entities_ascend [] h = tt
  entities_ascend (e ∷ es) h =
      rises_parts found_cmp (λ x. IsUnder e.0 x.place) (IsOver e.0) (cmp_over e.0) (entity_found t u s e) (flat_map (entity_found t u s) es)
      (entity_under e) (entities_over e.0 es h.0) (entity_ascends e) (entities_ascend es h.1)

  entities_at : (f : ℕ) (es : List Keyed) → Each (λ e. e.0.feed ≡ f) es → Each (λ x. IsEntityOf f x.place) (flat_map (entity_found t u s) es)
  entities_at f [] h = tt
  entities_at f (e ∷ es) h =
      each_append (λ x. IsEntityOf f x.place) (entity_found t u s e) (flat_map (entity_found t u s) es)
      (each_weaken (λ x. IsUnder e.0 x.place) (λ x. IsEntityOf f x.place) (λ x m. entity_at f e.0 x.place h.0 m) (entity_found t u s e) (entity_under e)) (entities_at f es h.1)

  flat-found : flat_map (λ c. c.1) (entities_found t u (Some s)) ≡ flat_map (entity_found t u s) (entities_in s.feed s.bytes)
  flat-found = flat_map-map (λ c. c.1) (λ e. (e.0, entity_found t u s e)) (entities_in s.feed s.bytes)

-- ---- feeds
pub feed_ascends : (t : Option Tables) (u : Gathered) (n b : Option Snapshot) → Rises found_cmp (feed_found t u n b)
feed_ascends t u None b = tt
feed_ascends t u (Some s) b =
    subst (λ (xs : List Found). Rises found_cmp (head_found s b ++ xs)) (sym (flat-found t u s))
    (rises_parts found_cmp (λ x. IsOn s.feed x.place) (λ x. IsEntityOf s.feed x.place) (cmp_header s.feed) (head_found s b) (flat_map (entity_found t u s) (entities_in s.feed s.bytes))
    (head_on s b) (entities_at t u s s.feed (entities_in s.feed s.bytes) (entities_feed s.feed s.bytes)) (head_ascends s b) (entities_ascend t u s (entities_in s.feed s.bytes) (entities_rise s.feed s.bytes)))

feed_at : (t : Option Tables) (u : Gathered) (f : ℕ) (n b : Option Snapshot) → ((s : Snapshot) → n ≡ Some s → s.feed ≡ f) → Each (λ x. feed_of x.place ≡ f) (feed_found t u n b)
feed_at t u f None b at = tt
feed_at t u f (Some s) b at =
    subst (λ xs. Each (λ x. feed_of x.place ≡ f) (head_found s b ++ xs)) (sym (flat-found t u s))
    (each_append (λ x. feed_of x.place ≡ f) (head_found s b) (flat_map (entity_found t u s) (entities_in s.feed s.bytes))
    (each_weaken (λ x. IsOn s.feed x.place) (λ x. feed_of x.place ≡ f) (λ x m. on_at s.feed x.place m ∙ at s refl) (head_found s b) (head_on s b))
    (each_weaken (λ x. IsEntityOf s.feed x.place) (λ x. feed_of x.place ≡ f) (λ x m. entity_feed s.feed x.place m ∙ at s refl) (flat_map (entity_found t u s) (entities_in s.feed s.bytes)) (entities_at t u s s.feed (entities_in s.feed s.bytes) (entities_feed s.feed s.bytes))))

feed_less : (x y : Found) → feed_of x.place < feed_of y.place → found_cmp x y ≡ Less
feed_less x y l = less_then (nat_cmp (feed_of x.place) (feed_of y.place)) _ (nat_less (feed_of x.place) (feed_of y.place) l)

pub findings_ascend : (t : Option Tables) (h : List Snapshot) → Rises found_cmp (findings t h)
findings_ascend t h =
    subst (λ (xs : List Found). Rises found_cmp xs) (sym (findings-parts t h))
    (rises_below found_cmp (λ x. feed_of x.place) feed_less (λ f. feed_found t (gathered h) (now h f) (before h f))
    (λ f. feed_ascends t (gathered h) (now h f) (before h f)) (λ f. feed_at t (gathered h) f (now h f) (before h f) (λ s e. now-feed h f s e)) feed_limit).0

-- ---- rules at places that are in order are not the same
pub spot_equal : (f g : Found) → same_spot f g ≡ true → found_cmp f g ≡ Equal
spot_equal f g h =
    let p = and_parts (same_rule f.rule g.rule) (same_place f.place g.place) h in
    at f.place g.place p.1 (nat_same (rule_number f.rule) (rule_number g.rule) (eqb-true (rule_number f.rule) (rule_number g.rule) p.0))
  where
    slots : (s : Slot) (i : ℕ) (t : Slot) (j : ℕ) → (slot_number s == slot_number t) ≡ true → (i == j) ≡ true → slots_cmp s i t j ≡ Equal
    slots s i t j a b =
        equal_then (nat_cmp (slot_number s) (slot_number t)) _ _ (nat_same (slot_number s) (slot_number t) (eqb-true (slot_number s) (slot_number t) a)) (nat_same i j (eqb-true i j b))

    at : (p q : Place) → same_place p q ≡ true → nat_cmp (rule_number f.rule) (rule_number g.rule) ≡ Equal → ranked (rule_number f.rule) (rule_number g.rule) p q ≡ Equal
    at (place.Head n s) (place.Entity l q) e r = cc
    at (place.Entity k p) (place.Head n s) e r = cc
    at (place.Head n s) (place.Head m u) e r =
        let c = and_parts (n == m) (slot_number s == slot_number u) e in
        equal_then (nat_cmp n m) _ _ (nat_same n m (eqb-true n m c.0)) (equal_then (nat_cmp (rule_number f.rule) (rule_number g.rule)) _ _ r (slots s 0 u 0 c.1 (eq-eqb 0 0 refl)))
    at (place.Entity k p) (place.Entity l q) e r =
        let c = and_parts (same_key k l) (same_path p q) e in
        let i = and_parts (slot_number p.slot == slot_number q.slot) (p.index == q.index) c.1 in
        subst (λ z. ranked (rule_number f.rule) (rule_number g.rule) (place.Entity k p) (place.Entity z q) ≡ Equal) (key_is k l c.0)
        (equal_then (nat_cmp k.feed k.feed) _ _ (nat_self k.feed)
        (equal_then (holder_cmp (place.Entity k p) (place.Entity k q)) _ _ (equal_then (slice_cmp nat_cmp k.id k.id) _ _ (text_self k.id) (nat_self k.occurrence))
        (equal_then (nat_cmp (rule_number f.rule) (rule_number g.rule)) _ _ r (slots p.slot p.index q.slot q.index i.0 i.1))))

pub less_apart : (f g : Found) → found_cmp f g ≡ Less → same_spot g f ≡ false
less_apart f g h = is_false (same_spot g f) (λ e. clash (spot_equal f g (spot_back g f e)))
  where
    clash : found_cmp f g ≡ Equal → ⊥
    clash e = cc (h, e)
