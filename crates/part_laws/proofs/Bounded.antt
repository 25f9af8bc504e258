-- What bounds tell of an entity.
use Rattle.std.specs.Prelude.{◌≡◌, ◌⊎◌, ℕ, ◌+◌, ◌<◌, ◌==◌, ◌&&◌, ◌||◌, not, ℤ, pos, ◌<ℤ◌, Bool, true, false, cond, List, [], ◌∷◌, ◌++◌, Option, Some, None, option_map, option_and_then, slice_get, refl}
use Rattle.std.specs.Int.{int_min}
use Rattle.std.specs.BTreeMap.{insert_entry}
use Rattle.std.specs.List.{list_any, list_all, flat_map, find, AllByRecursion}
use Rattle.std.proofs.Common.{inl, inr, sym, ap, ◌∙◌, subst, arith}
use Rattle.std.proofs.lemmas.Bool.{and_parts, or_parts, or_left, or_right}
use Rattle.std.proofs.lemmas.Int.{by_lt_z, ints, clamps}
use Rattle.std.proofs.lemmas.Option.{same_Some}
use borrow.Author.Tests.{eqb-true, clash}
use Rattle.feed_values.specs.declared.slot.Slot.{Slot}
use Rattle.feed_values.specs.declared.slot.Slot.TheVariants.{S3, S29, S59}
use Rattle.feed_values.specs.declared.cell_value.CellValue.{CellValue}
use Rattle.feed_values.specs.declared.cell_value.CellValue.TheVariants as value
use Rattle.feed_values.specs.Schema.{Value}
use Rattle.feed_values.specs.Messages.{entity}
use Rattle.feed_values.specs.Cells.{entity_cell}
use Rattle.feed_values.specs.Accepted.{IsMessage}
use Rattle.feed_values.specs.Snapshot.{header_of, timestamp_of, entity_of, entity_payloads}
use Rattle.timetable.specs.Timetables.{Tables}
use Rattle.rule_table.specs.declared.ask.Ask.{Ask}
use Rattle.rule_table.specs.declared.ask.Ask.TheVariants as ask
use Rattle.rule_table.specs.declared.bound_rule.Bound.{Bound}
use Rattle.rule_table.specs.declared.bound_rule.Bound.TheVariants as bound
use Rattle.rule_table.specs.declared.rule.RuleId.{RuleId}
use Rattle.rule_table.specs.declared.rule.RuleId.TheVariants.{E012, E050}
use Rattle.rule_table.specs.declared.key.EntityKey.{EntityKey}
use Rattle.rule_table.specs.declared.place.Place.{Place}
use Rattle.rule_table.specs.Rules.{rule_number, same_rule}
use Rattle.rule_table.specs.EachRule.{numbered}
use Rattle.rule_table.specs.Order.{key_cmp, same_key}
use Rattle.rule_table.specs.Table.{all_rules}
use Rattle.rule_table.specs.Answers.{bound_answer}
use Rattle.rule_table.specs.Found.{Found}
use Rattle.rule_table.specs.Judged.{found_by, found_all, head_found_all}
use Rattle.rule_table.specs.Groups.{Each, AreOf, IsUnder, has_rule}
use Rattle.rule_table.specs.GroupLaws.{all_own}
use Rattle.rule_table.specs.Sources.{is_bounded}
use Rattle.rule_table.specs.Same.{SameFrom, all_same}
use Rattle.rule_table.specs.Bounds.{bound_at, IsAbove, StandsAt, AreHeld, IsStamp, AreAtStamps, is_timestamp, stamp_at}
use Rattle.rule_history.specs.History.{Snapshot, Keyed, IsTaken, IsHistory, now, entities, entities_in, entities_of_snapshot, keyed_after, ordered_after, feed_limit, feed_limit-is}
use Rattle.rule_history.specs.Answered.{gathered, payload_under, feed_answer}
use Rattle.rule_history.specs.Findings.{feed_findings, entity_findings}
use Rattle.rule_history.specs.Changed.{with, same_number, keeps_bounds, is_bound_at, is_under, has_bound, in_tested, in_bounded}
use Rattle.rule_history.proofs.Keyed.{each_put}
use Rattle.rule_history.proofs.SameSnapshots.{same_numbers}
use Rattle.history_rules.specs.Rules.{bound_rules, bound_of}
use Rattle.history_rules.specs.Exact.{rules_exact, rules_at}
use Rattle.engine_laws.specs.HeldFeeds.{held_answer}
use Rattle.engine_laws.proofs.Lists.{any_left, any_right, any_below}
use Rattle.engine_laws.proofs.Longer.{now-feed, now-other, now-same, now_each, entity-found}
use Rattle.engine_laws.proofs.Spots.{key_is, key_self}
use Rattle.part_laws.specs.Parts.{FindBounded, IsThere, bounded_part}
use Rattle.part_laws.specs.Bounded.{BoundedStays, IsBounding, AreNumbersHeld, NoneAbove, low_bound, NoneIsBounded, BoundsAreLow}
use Rattle.part_laws.proofs.Stays.{was_there, other_way}
use Rattle.part_laws.proofs.Timestamps.{header_range, update_range, vehicle_range, entities_whole}

-- ---- bounds and the lower one
low_under : (a b n : ℤ) → a <ℤ n → int_min a b <ℤ n
low_under a b n h = omega (arith, ints, clamps)

low_under_other : (a b n : ℤ) → b <ℤ n → int_min a b <ℤ n
low_under_other a b n h = omega (arith, ints, clamps)

low_over : (a b n : ℤ) → int_min a b <ℤ n → (a <ℤ n) ⊎ (b <ℤ n)
low_over a b n h = by_lt_z a b (λ l. inl (omega (arith, ints, clamps))) (λ l. inr (omega (arith, ints, clamps)))

-- what is above a bound is above the lower one
above_low : (c : CellValue) (b : Bound) (t : Option ℤ) (m : ℕ) → IsAbove c (bound_at b t m) → IsAbove c (Some (low_bound t m))
above_low value.Missing b t m h = absurd (none b t h)
  where
    none : (b : Bound) (t : Option ℤ) → IsAbove value.Missing (bound_at b t m) → ⊥
    none bound.Header None k = k
    none bound.Header (Some x) k = k
    none bound.Moment t k = k
above_low (value.Text x) b t m h = absurd (none b t h)
  where
    none : (b : Bound) (t : Option ℤ) → IsAbove (value.Text x) (bound_at b t m) → ⊥
    none bound.Header None k = k
    none bound.Header (Some x) k = k
    none bound.Moment t k = k
above_low (value.Number n) bound.Header None m h = absurd h
above_low (value.Number n) bound.Header (Some x) m h = low_under x (pos (m + 60)) n h
above_low (value.Number n) bound.Moment None m h = h
above_low (value.Number n) bound.Moment (Some x) m h = low_under_other x (pos (m + 60)) n h

-- and what is above the lower one is above one
above_one : (c : CellValue) (t : Option ℤ) (m : ℕ) → IsAbove c (Some (low_bound t m)) → IsAbove c (bound_at bound.Header t m) ⊎ IsAbove c (bound_at bound.Moment t m)
above_one value.Missing t m h = absurd h
above_one (value.Text x) t m h = absurd h
above_one (value.Number n) None m h = inr h
above_one (value.Number n) (Some x) m h = low_over x (pos (m + 60)) n h

-- ---- a group whose rules have a bound each
module _ (find : FindBounded) (rules : List RuleId) (bound : RuleId → Bound) (is : IsBounding find rules bound) where
  pub none_found : NoneIsBounded find
  none_found t m k e held none = go (find t m k e) refl
    where
      go : (fs : List Found) → find t m k e ≡ fs → fs ≡ []
      go [] q = refl
      go (x ∷ fs) q =
          let st : IsStamp k x.place = (subst (AreAtStamps k) q (is.at t m k e)).0 in
          let of : has_rule rules x.rule ≡ true = (subst (AreOf rules (IsUnder k)) q (is.own t m k e)).0.rule in
          let stands : StandsAt (find t m k e) x.rule (stamp_at k st.slot) = subst (StandsAt (find t m k e) x.rule) st.here (subst (λ ys. StandsAt ys x.rule x.place) (sym q) (inl (refl, refl))) in
          absurd (none st.slot st.timestamp
          (above_low (entity_cell e st.slot 0) (bound x.rule) t m ((is.exact t m k e x.rule st.slot (held st.slot st.timestamp) st.timestamp of).0 stands)))

-- those of the table
bounds_bound : (t : Option ℤ) (m : ℕ) (k : EntityKey) (e : Value entity) → AreNumbersHeld t m e → (slot : Slot) → is_timestamp slot ≡ true → IsAbove (entity_cell e slot 0) (Some (low_bound t m)) →
    StandsAt (found_all bound_rules (bound_answer t m k e) k e) E012 (stamp_at k slot) ⊎ StandsAt (found_all bound_rules (bound_answer t m k e) k e) E050 (stamp_at k slot)
bounds_bound t m k e held slot is above = elim (above_one (entity_cell e slot 0) t m above) [
  | inl h ↦ inl ((rules_exact t m k e E012 slot (held slot is) is refl).1 h)
  | inr h ↦ inr ((rules_exact t m k e E050 slot (held slot is) is refl).1 h)
]

bounding : IsBounding (λ t m k e. found_all bound_rules (bound_answer t m k e) k e) bound_rules bound_of
bounding = record { own = λ t m k e. all_own bound_rules (bound_answer t m k e) k e; exact = λ t m k e rule slot held is has. rules_exact t m k e rule slot held is has; at = λ t m k e. rules_at t m k e }

pub bounds_are_low : BoundsAreLow
bounds_are_low t m k e held = (λ none slot is above. never slot none (bounds_bound t m k e held slot is above), none_found (λ t m k e. found_all bound_rules (bound_answer t m k e) k e) bound_rules bound_of bounding t m k e held)
  where
    nothing : (fs : List Found) (rule : RuleId) (p : Place) → fs ≡ [] → StandsAt fs rule p → ⊥
    nothing [] rule p q h = h
    nothing (f ∷ fs) rule p q h = cc

    never : (slot : Slot) → found_all bound_rules (bound_answer t m k e) k e ≡ [] → StandsAt (found_all bound_rules (bound_answer t m k e) k e) E012 (stamp_at k slot) ⊎ StandsAt (found_all bound_rules (bound_answer t m k e) k e) E050 (stamp_at k slot) → ⊥
    never slot q h = elim h [
      | inl a ↦ nothing (found_all bound_rules (bound_answer t m k e) k e) E012 (stamp_at k slot) q a
      | inr a ↦ nothing (found_all bound_rules (bound_answer t m k e) k e) E050 (stamp_at k slot) q a
    ]

-- ---- what stands under a key is among all findings
same_is : (q r : RuleId) → (rule_number q == rule_number r) ≡ true → q ≡ r
same_is q r h = same_Some q r (sym (numbered q) ∙ ap (λ n. slice_get all_rules n) (eqb-true (rule_number q) (rule_number r) h) ∙ numbered r)

any_stands : (k : EntityKey) (slot : Slot) (rule : RuleId) → (same_rule rule E012 || same_rule rule E050) ≡ true → (fs : List Found) → StandsAt fs rule (stamp_at k slot) → list_any (is_bound_at k) fs ≡ true
any_stands k slot rule b [] h = absurd h
any_stands k slot rule b (f ∷ fs) (inl e) =
    or_left (is_bound_at k f) (list_any (is_bound_at k) fs)
    (ap (λ r. (same_rule r E012 || same_rule r E050) && is_under k f.place) e.0 ∙ ap (λ c. c && is_under k f.place) b ∙ ap (is_under k) e.1 ∙ key_self k)
any_stands k slot rule b (f ∷ fs) (inr h) = or_right (is_bound_at k f) (list_any (is_bound_at k) fs) (any_stands k slot rule b fs h)

module _ (p : Found → Bool) (answer : Ask → Option CellValue) (k : EntityKey) (e : Value entity) where
  any_split : (xs ys : List Found) → list_any p (xs ++ ys) ≡ true → (list_any p xs ≡ true) ⊎ (list_any p ys ≡ true)
  any_split [] ys h = inr h
  any_split (x ∷ xs) ys h =
      elim (p x) as (λ b. (b || list_any p (xs ++ ys)) ≡ true → ((b || list_any p xs) ≡ true) ⊎ (list_any p ys ≡ true)) [ true ↦ λ _. inl refl | false ↦ λ m. any_split xs ys m ] h

  any_of_rule : (r : RuleId) → list_any p (found_by r answer k e) ≡ true → (all : List RuleId) → has_rule all r ≡ true → list_any p (found_all all answer k e) ≡ true
  any_of_rule r h [] m = cc
  any_of_rule r h (q ∷ all) m =
      elim (rule_number q == rule_number r) as (λ b. (rule_number q == rule_number r) ≡ b → (b || has_rule all r) ≡ true → list_any p (found_by q answer k e ++ found_all all answer k e) ≡ true) [
        | true ↦ λ same _. any_left p (found_by q answer k e) (found_all all answer k e) (ap (λ x. list_any p (found_by x answer k e)) (same_is q r same) ∙ h)
        | false ↦ λ _ n. any_right p (found_by q answer k e) (found_all all answer k e) (any_of_rule r h all n)
      ] refl m

  any_of_some : (some all : List RuleId) → list_all (has_rule all) some ≡ true → list_any p (found_all some answer k e) ≡ true → list_any p (found_all all answer k e) ≡ true
  any_of_some [] all m h = cc
  any_of_some (r ∷ some) all m h =
      let ms = and_parts (has_rule all r) (list_all (has_rule all) some) m in
      elim (any_split (found_by r answer k e) (found_all some answer k e) h) [ inl a ↦ any_of_rule r a all ms.0 | inr b ↦ any_of_some some all ms.1 b ]

module _ (t : Option Tables) (h : List Snapshot) (e : Keyed) (l : e.0.feed < feed_limit) (s : Snapshot) (last : now h e.0.feed ≡ Some s) (there : IsThere h e) where
  abbrev stamp : Option ℤ
  stamp = timestamp_of (header_of s.bytes)

  abbrev found : List Found
  found = found_all bound_rules (bound_answer stamp s.moment e.0 (entity_of e.1)) e.0 (entity_of e.1)

  same_asks : SameFrom is_bounded (bound_answer stamp s.moment e.0 (entity_of e.1)) (held_answer t (gathered h) s e.0 (entity_of e.1))
  same_asks (ask.Cell p) m = refl
  same_asks ask.Occurrence m = refl
  same_asks (ask.HeadNow S3) m = refl
  same_asks (ask.HeadNow _) m = absurd (clash m)
  same_asks ask.Moment m = refl
  same_asks _ m = absurd (clash m)

  any_entity : (es : List Keyed) → payload_under e.0 es ≡ Some e.1 → list_any (is_bound_at e.0) (entity_findings t h e) ≡ true → list_any (is_bound_at e.0) (flat_map (entity_findings t h) es) ≡ true
  any_entity [] q m = cc
  any_entity (x ∷ es) q m =
      elim (same_key x.0 e.0) as (λ b. same_key x.0 e.0 ≡ b → option_map (λ (d : Keyed). d.1) (cond b (Some x) (find (λ d. same_key d.0 e.0) es)) ≡ Some e.1 → list_any (is_bound_at e.0) (entity_findings t h x ++ flat_map (entity_findings t h) es) ≡ true) [
        | true ↦ λ same v.
            let payload : x.1 ≡ e.1 = cc in
            any_left (is_bound_at e.0) (entity_findings t h x) (flat_map (entity_findings t h) es)
            (ap (λ k. list_any (is_bound_at e.0) (entity_findings t h (k, x.1))) (key_is x.0 e.0 same) ∙ ap (λ p. list_any (is_bound_at e.0) (entity_findings t h (e.0, p))) payload ∙ m)
        | false ↦ λ _ v. any_right (is_bound_at e.0) (entity_findings t h x) (flat_map (entity_findings t h) es) (any_entity es v m)
      ] refl q

  -- a bound that stands at the entity shows among all findings
  bound_shows : list_any (is_bound_at e.0) found ≡ true → has_bound t h e.0 ≡ true
  bound_shows m =
      any_below (is_bound_at e.0) (λ f. feed_findings t h f (now h f)) e.0.feed feed_limit l
      (ap (λ n. list_any (is_bound_at e.0) (feed_findings t h e.0.feed n)) last
      ∙ any_right (is_bound_at e.0) (head_found_all all_rules (feed_answer t h e.0.feed) e.0.feed) (flat_map (entity_findings t h) (entities h e.0.feed)) (any_entity (entities h e.0.feed) there here))
    where
      under : payload_under e.0 (entities_in s.feed s.bytes) ≡ Some e.1
      under = ap (λ n. payload_under e.0 (entities_of_snapshot n)) (sym last) ∙ there

      here : list_any (is_bound_at e.0) (entity_findings t h e) ≡ true
      here =
          ap (list_any (is_bound_at e.0)) (entity-found t h e.0.feed s last e (sym (now-feed h e.0.feed s last)) under)
          ∙ any_of_some (is_bound_at e.0) (held_answer t (gathered h) s e.0 (entity_of e.1)) e.0 (entity_of e.1) bound_rules all_rules refl
          (sym (ap (list_any (is_bound_at e.0)) (all_same is_bounded (bound_answer stamp s.moment e.0 (entity_of e.1)) (held_answer t (gathered h) s e.0 (entity_of e.1)) same_asks bound_rules refl e.0 (entity_of e.1))) ∙ m)

  -- so where none does, no timestamp is above a bound
  none_above : AreNumbersHeld stamp s.moment (entity_of e.1) → has_bound t h e.0 ≡ false → NoneAbove (Some (low_bound stamp s.moment)) (entity_of e.1)
  none_above held none slot is above = elim (bounds_bound stamp s.moment e.0 (entity_of e.1) held slot is above) [
    | inl a ↦ never (bound_shows (any_stands e.0 slot E012 refl found a))
    | inr a ↦ never (bound_shows (any_stands e.0 slot E050 refl found a))
  ]
    where
      never : has_bound t h e.0 ≡ true → ⊥
      never m = cc (none, m)

-- ---- numbers of accepted snapshots
each_values : (P : List ℕ → Type 0) (f : ℕ) (done ps : List (List ℕ)) → Each P ps → Each (λ e. P e.1) (keyed_after f done ps)
each_values P f done [] h = tt
each_values P f done (p ∷ ps) h = (h.0, each_values P f (done ++ p ∷ []) ps h.1)

ordered_values : (P : List ℕ → Type 0) (done es : List Keyed) → Each (λ e. P e.1) done → Each (λ e. P e.1) es → Each (λ e. P e.1) (ordered_after done es)
ordered_values P done [] d h = d
ordered_values P done (e ∷ es) d h = ordered_values P (insert_entry key_cmp done e.0 e.1) es (each_put P done e.0 e.1 h.0 d) h.1

value_under : (P : List ℕ → Type 0) (es : List Keyed) (k : EntityKey) (p : List ℕ) → Each (λ e. P e.1) es → payload_under k es ≡ Some p → P p
value_under P [] k p h q = cc
value_under P (x ∷ es) k p h q =
    elim (same_key x.0 k) as (λ b. option_map (λ (d : Keyed). d.1) (cond b (Some x) (find (λ d. same_key d.0 k) es)) ≡ Some p → P p) [
      | true ↦ λ v. subst P (same_Some x.1 p v) h.0
      | false ↦ λ v. value_under P es k p h.1 v
    ] q

pub numbers_held : (s : Snapshot) → IsTaken s → (k : EntityKey) (p : List ℕ) → payload_under k (entities_in s.feed s.bytes) ≡ Some p → AreNumbersHeld (timestamp_of (header_of s.bytes)) s.moment (entity_of p)
numbers_held s taken k p under slot is = at slot is
  where
    whole : IsMessage entity p
    whole = value_under (IsMessage entity) (entities_in s.feed s.bytes) k p
        (ordered_values (IsMessage entity) [] (keyed_after s.feed [] (entity_payloads s.bytes)) tt (each_values (IsMessage entity) s.feed [] (entity_payloads s.bytes) (entities_whole s.bytes taken.accepted))) under

    at : (slot : Slot) → is_timestamp slot ≡ true → AreHeld (timestamp_of (header_of s.bytes)) s.moment (entity_of p) slot
    at S29 h = record { header = header_range s.bytes taken.accepted; moment_fits = taken.moment; cell = update_range p whole }
    at S59 h = record { header = header_range s.bytes taken.accepted; moment_fits = taken.moment; cell = vehicle_range p whole }
    at _ h = cc

-- ---- one more snapshot

taken_of : (h : List Snapshot) → IsHistory h → (f : ℕ) (s : Snapshot) → now h f ≡ Some s → IsTaken s
taken_of h all f s is = now_each IsTaken h f s (each_of h all) is
  where
    each_of : (xs : List Snapshot) → AllByRecursion IsTaken xs → Each IsTaken xs
    each_of [] a = tt
    each_of (x ∷ xs) a = (a.0, each_of xs a.1)

front : (g : List Snapshot) (s : Snapshot) → IsHistory (with g s) → IsHistory g
front [] s a = tt
front (x ∷ g) s a = (a.0, front g s a.1)

last_there : (h : List Snapshot) (e : Keyed) → IsThere h e → (s : Snapshot) × (now h e.0.feed ≡ Some s)
last_there h e there = go (now h e.0.feed) there
  where
    go : (n : Option Snapshot) → payload_under e.0 (entities_of_snapshot n) ≡ Some e.1 → (s : Snapshot) × (n ≡ Some s)
    go None q = cc
    go (Some s) q = (s, refl)

module _ (find : FindBounded) (rules : List RuleId) (bound : RuleId → Bound) (is : IsBounding find rules bound) where
  found_at_last : (h : List Snapshot) (e : Keyed) (s : Snapshot) → now h e.0.feed ≡ Some s → IsThere h e → bounded_part find h e.0 ≡ Some (find (timestamp_of (header_of s.bytes)) s.moment e.0 (entity_of e.1))
  found_at_last h e s last there =
      ap (option_and_then (λ x. option_map (λ p. find (timestamp_of (header_of x.bytes)) x.moment e.0 (entity_of p)) (payload_under e.0 (entities h e.0.feed)))) last
      ∙ ap (option_map (λ p. find (timestamp_of (header_of s.bytes)) s.moment e.0 (entity_of p))) there

  none_there : (t : Option Tables) (h : List Snapshot) (e : Keyed) (s : Snapshot) → IsHistory h → now h e.0.feed ≡ Some s → IsThere h e → has_bound t h e.0 ≡ false → find (timestamp_of (header_of s.bytes)) s.moment e.0 (entity_of e.1) ≡ []
  none_there t h e s all last there none =
      let taken : IsTaken s = taken_of h all e.0.feed s last in
      let small : e.0.feed < feed_limit = subst (λ n. n < feed_limit) (now-feed h e.0.feed s last) (subst (λ n. s.feed < n) (sym feed_limit-is) taken.feed) in
      let held = numbers_held s taken e.0 e.1 (ap (λ n. payload_under e.0 (entities_of_snapshot n)) (sym last) ∙ there) in
      none_found find rules bound is (timestamp_of (header_of s.bytes)) s.moment e.0 (entity_of e.1) held (none_above t h e small s last there held none)

  pub bounded_stays : BoundedStays find
  bounded_stays t g s e all there out =
      elim (e.0.feed == s.feed) as (λ b. (e.0.feed == s.feed) ≡ b → (b && not (keeps_bounds s (now g s.feed)) && (has_bound t g e.0 || has_bound t (with g s) e.0)) ≡ false → bounded_part find g e.0 ≡ bounded_part find (with g s) e.0) [
        | true ↦ λ at h. here (eqb-true e.0.feed s.feed at) at h
        | false ↦ λ at h.
            let stays = now-other g s e.0.feed (other_way e.0.feed s.feed at) in
            sym (ap (λ n. option_and_then (λ x. option_map (λ p. find (timestamp_of (header_of x.bytes)) x.moment e.0 (entity_of p)) (payload_under e.0 (entities_of_snapshot n))) n) stays)
      ] refl parts.1
    where
      parts : (in_tested g s e ≡ false) × (in_bounded t g s e ≡ false)
      parts = or_parts (in_tested g s e) (in_bounded t g s e) out

      old : IsThere g e
      old = was_there g s e there parts.0

      here : e.0.feed ≡ s.feed → (e.0.feed == s.feed) ≡ true → (not (keeps_bounds s (now g s.feed)) && (has_bound t g e.0 || has_bound t (with g s) e.0)) ≡ false → bounded_part find g e.0 ≡ bounded_part find (with g s) e.0
      here at same h =
          let before = last_there g e old in
          let p = before.0 in
          let last : now (with g s) e.0.feed ≡ Some s = now-same g s e.0.feed (ap (λ f. s.feed == f) at ∙ sym (ap (λ f. f == s.feed) at) ∙ same) in
          found_at_last g e p before.1 old
          ∙ ap Some (choose p before.1 last (keeps_bounds s (Some p)) refl (ap (λ n. not (keeps_bounds s n) && (has_bound t g e.0 || has_bound t (with g s) e.0)) (sym (ap (now g) (sym at) ∙ before.1)) ∙ h))
          ∙ sym (found_at_last (with g s) e s last there)
        where
          choose : (p : Snapshot) → now g e.0.feed ≡ Some p → now (with g s) e.0.feed ≡ Some s → (b : Bool) → keeps_bounds s (Some p) ≡ b → (not b && (has_bound t g e.0 || has_bound t (with g s) e.0)) ≡ false →
              find (timestamp_of (header_of p.bytes)) p.moment e.0 (entity_of e.1) ≡ find (timestamp_of (header_of s.bytes)) s.moment e.0 (entity_of e.1)
          choose p was last true keeps h =
              let k = and_parts (same_number (timestamp_of (header_of s.bytes)) (timestamp_of (header_of p.bytes))) (s.moment == p.moment) keeps in
              ap (λ x. find x p.moment e.0 (entity_of e.1)) (sym (same_numbers (timestamp_of (header_of s.bytes)) (timestamp_of (header_of p.bytes)) k.0))
              ∙ ap (λ m. find (timestamp_of (header_of s.bytes)) m e.0 (entity_of e.1)) (sym (eqb-true s.moment p.moment k.1))
          choose p was last false keeps h =
              let none = or_parts (has_bound t g e.0) (has_bound t (with g s) e.0) h in
              none_there t g e p (front g s all) was old none.0 ∙ sym (none_there t (with g s) e s all last there none.1)
