-- All findings are evidence.
use Rattle.std.specs.Prelude.{◌≡◌, ℕ, ◌<◌, ◌≤◌, nat_le, Bool, true, false, cond, zero, suc, List, [], ◌∷◌, ◌++◌, length, Option, Some, None, refl}
use Rattle.std.specs.List.{Contains, flat_map}
use Rattle.std.proofs.Common.{sym, ap, ◌∙◌, subst, arith}
use borrow.Author.Tests.{leb-true}
use Rattle.feed_values.specs.declared.slot.Slot.{Slot}
use Rattle.feed_values.specs.declared.cell_value.CellValue.{CellValue}
use Rattle.feed_values.specs.Schema.{Value}
use Rattle.feed_values.specs.Messages.{entity}
use Rattle.feed_values.specs.Snapshot.{entity_of}
use Rattle.feed_values.specs.Cells.{has_item, way}
use Rattle.timetable.specs.Timetables.{Tables}
use Rattle.rule_table.specs.declared.rule.RuleId.{RuleId}
use Rattle.rule_table.specs.declared.row.Cite.{Cite}
use Rattle.rule_table.specs.declared.key.EntityKey.{EntityKey}
use Rattle.rule_table.specs.declared.place.Place.{Place}
use Rattle.rule_table.specs.declared.place.Place.TheVariants as place
use Rattle.rule_table.specs.declared.ask.Ask.{Ask}
use Rattle.rule_table.specs.declared.fact.Fact.{Fact}
use Rattle.rule_table.specs.Asked.{ask_at, in_range, slot_of, index_of}
use Rattle.rule_table.specs.Passed.{passes}
use Rattle.rule_table.specs.Cited.{answered, fact_at, cited, values_of}
use Rattle.rule_table.specs.Table.{all_rules, slots_of, head_slots_of, first_of}
use Rattle.rule_table.specs.Rows.{cites_at, test_at, slots_at}
use Rattle.rule_table.specs.Broken.{IsPlace, Breaks}
use Rattle.rule_table.specs.Found.{Found}
use Rattle.rule_table.specs.Judged.{places_at, found_of, found_at, found_below, found_in, found_by, found_all, found_on, head_found_by, head_found_all}
use Rattle.rule_history.specs.History.{Snapshot, Keyed, now, entities, below, feed_limit}
use Rattle.rule_history.specs.Answered.{answer, answer_under, feed_answer}
use Rattle.rule_history.specs.Findings.{feed_findings, entity_findings}
use Rattle.rule_table.specs.Groups.{Each}
use Rattle.rule_table.specs.GroupLaws.{each_append}
use Rattle.rule_evidence.specs.Laws.{AllHold, IsEvidence, FindingsAreEvidence}
use Rattle.rule_table.proofs.Formed.{and_then_some, cited_all}
use Rattle.rule_evidence.proofs.Anchors.{one_place}

-- ---- what is cited holds
answer_of : (a : Ask) (o : Option CellValue) (f : Fact) → answered a o ≡ Some f → (a ≡ f.ask) × (o ≡ Some f.value)
answer_of a None f h = cc
answer_of a (Some v) f h = kept (in_range v) h where
  kept : (b : Bool) → cond b (let some : Option Fact = Some (record { ask = a; value = v }) in some) None ≡ Some f → (a ≡ f.ask) × (Some v ≡ Some f.value)
  kept true k = (cc, cc)
  kept false k = cc

pub fact_holds : (answer : Ask → Option CellValue) (at : Place) (vs : List CellValue) (c : Cite) (f : Fact) → fact_at answer at vs c ≡ Some f → answer f.ask ≡ Some f.value
fact_holds answer at vs c f h =
    let r = and_then_some (ask_at at vs c) (λ a. answered a (answer a)) f h in
    let s = answer_of r.0 (answer r.0) f r.1.1 in
    ap answer (sym s.0) ∙ s.1

hold_more : (answer : Ask → Option CellValue) (fs : List Fact) (f : Fact) → AllHold answer fs → answer f.ask ≡ Some f.value → AllHold answer (fs ++ f ∷ [])
hold_more answer [] f h k = (k, tt)
hold_more answer (x ∷ fs) f h k = (h.0, hold_more answer fs f h.1 k)

pub cited_hold : (answer : Ask → Option CellValue) (at : Place) (before : List Fact) (cs : List Cite) (all : List Fact) → cited answer at before cs ≡ Some all → AllHold answer before → AllHold answer all
cited_hold answer at before [] all h k = let q : before ≡ all = cc in subst (AllHold answer) q k
cited_hold answer at before (c ∷ cs) all h k =
    let r = and_then_some (fact_at answer at (values_of before) c) (λ f. cited answer at (before ++ f ∷ []) cs) all h in
    cited_hold answer at (before ++ r.0 ∷ []) cs all r.1.1 (hold_more answer before r.0 k (fact_holds answer at (values_of before) c r.0 r.1.0))

-- ---- at one place
-- a finding of a rule at a place, whose facts break it and are answered
record Shows (answer : Ask → Option CellValue) (at : Place) (f : Found) : Type 0 where
  place_is : f.place ≡ at
  breaks : Breaks f.rule f.place f.facts
  hold : AllHold answer f.facts

shows_of : (rule : RuleId) (answer : Ask → Option CellValue) (at : Place) → IsPlace rule at → (o : Option (List Fact)) → cited answer at [] (cites_at rule at) ≡ o → Each (Shows answer at) (found_of rule at o)
shows_of rule answer at is None h = tt
shows_of rule answer at is (Some facts) h =
    elim (passes at (test_at rule at) (values_of facts)) as (λ b. passes at (test_at rule at) (values_of facts) ≡ b → Each (Shows answer at) (cond b (let r : Found = record { rule = rule; place = at; facts = facts } in r ∷ []) [])) [
      | true ↦ λ p. (record { place_is = refl; breaks = record { place = is; formed = cited_all answer at (cites_at rule at) facts h; broken = p }; hold = cited_hold answer at [] (cites_at rule at) facts h tt }, tt)
      | false ↦ λ _. tt
    ] refl

shows_at : (rule : RuleId) (answer : Ask → Option CellValue) (at : Place) → Contains (slots_at rule at) (slot_of at) → (has_item (way (slot_of at)) ≡ false → index_of at ≡ 0) → Each (Shows answer at) (found_at rule answer at)
shows_at rule answer at listed plain =
    elim (nat_le (first_of rule) (index_of at)) as (λ b. nat_le (first_of rule) (index_of at) ≡ b → Each (Shows answer at) (cond b (found_of rule at (cited answer at [] (cites_at rule at))) [])) [
      | true ↦ λ e. shows_of rule answer at (record { listed = listed; first = leb-true (first_of rule) (index_of at) e; plain = plain }) (cited answer at [] (cites_at rule at)) refl
      | false ↦ λ _. tt
    ] refl

weaken : {A : Type 0} (P Q : A → Type 0) → ((x : A) → P x → Q x) → (xs : List A) → Each P xs → Each Q xs
weaken P Q w [] h = tt
weaken P Q w (x ∷ xs) h = (w x h.0, weaken P Q w xs h.1)

-- slots of a list, each of which another list has
Within : List Slot → List Slot → Type 0
Within slots all = Each (λ s. Contains all s) slots

later_slot : (s : Slot) (all : List Slot) (t : Slot) → Contains all t → Contains (s ∷ all) t
later_slot s all t h = (suc h.0, up h.0 (length all) h.1, h.2)
  where
    up : (i n : ℕ) → i < n → suc i < suc n
    up i n l = omega (arith, l)

own_slots : (slots : List Slot) → Each (λ s. Contains slots s) slots
own_slots [] = tt
own_slots (s ∷ slots) = ((0, first (length slots), refl), weaken (λ t. Contains slots t) (λ t. Contains (s ∷ slots) t) (later_slot s slots) slots (own_slots slots))
  where
    first : (n : ℕ) → 0 < suc n
    first n = omega arith

module _ (t : Option Tables) (h : List Snapshot) where
  to_evidence : (at : Place) (answered_by : Ask → Option CellValue) → answered_by ≡ answer t h at → (f : Found) → Shows answered_by at f → IsEvidence t h f
  to_evidence at answered_by e f s = record {
    breaks = s.breaks;
    hold = subst (λ a. AllHold (answer t h a) f.facts) (sym s.place_is) (subst (λ b. AllHold b f.facts) e s.hold);
  }

  -- ---- at an entity
  below_shows : (rule : RuleId) (key : EntityKey) (e : Value entity) (s : Slot) → Contains (slots_of rule) s → (n : ℕ) → n ≤ places_at e s → Each (IsEvidence t h) (found_below rule (answer_under t h key) key s n)
  below_shows rule key e s listed zero l = tt
  below_shows rule key e s listed (suc i) l =
      let at : Place = place.Entity key (record { slot = s; index = i }) in
      each_append (IsEvidence t h) (found_below rule (answer_under t h key) key s i) (found_at rule (answer_under t h key) at)
      (below_shows rule key e s listed i (omega (arith, l)))
      (weaken (Shows (answer_under t h key) at) (IsEvidence t h) (to_evidence at (answer_under t h key) refl) (found_at rule (answer_under t h key) at)
      (shows_at rule (answer_under t h key) at listed (λ x. plain (one_place s e x))))
    where
      plain : places_at e s ≡ 1 → i ≡ 0
      plain q = omega (arith, q, l)

  slots_show : (rule : RuleId) (key : EntityKey) (e : Value entity) (slots : List Slot) → Each (λ s. Contains (slots_of rule) s) slots → Each (IsEvidence t h) (found_in rule (answer_under t h key) key e slots)
  slots_show rule key e [] all = tt
  slots_show rule key e (s ∷ slots) all =
      each_append (IsEvidence t h) (found_below rule (answer_under t h key) key s (places_at e s)) (found_in rule (answer_under t h key) key e slots)
      (below_shows rule key e s all.0 (places_at e s) (omega arith)) (slots_show rule key e slots all.1)

  rules_show : (key : EntityKey) (e : Value entity) (rules : List RuleId) → Each (IsEvidence t h) (found_all rules (answer_under t h key) key e)
  rules_show key e [] = tt
  rules_show key e (rule ∷ rules) =
      each_append (IsEvidence t h) (found_by rule (answer_under t h key) key e) (found_all rules (answer_under t h key) key e)
      (slots_show rule key e (slots_of rule) (own_slots (slots_of rule))) (rules_show key e rules)

  entities_show : (es : List Keyed) → Each (IsEvidence t h) (flat_map (entity_findings t h) es)
  entities_show [] = tt
  entities_show (e ∷ es) =
      each_append (IsEvidence t h) (entity_findings t h e) (flat_map (entity_findings t h) es) (rules_show e.0 (entity_of e.1) all_rules) (entities_show es)

  -- ---- on a header
  head_slots_show : (rule : RuleId) (f : ℕ) (slots : List Slot) → Each (λ s. Contains (head_slots_of rule) s) slots → Each (IsEvidence t h) (found_on rule (feed_answer t h f) f slots)
  head_slots_show rule f [] all = tt
  head_slots_show rule f (s ∷ slots) all =
      let at : Place = place.Head f s in
      each_append (IsEvidence t h) (found_at rule (feed_answer t h f) at) (found_on rule (feed_answer t h f) f slots)
      (weaken (Shows (feed_answer t h f) at) (IsEvidence t h) (to_evidence at (feed_answer t h f) refl) (found_at rule (feed_answer t h f) at) (shows_at rule (feed_answer t h f) at all.0 (λ _. refl)))
      (head_slots_show rule f slots all.1)

  head_rules_show : (f : ℕ) (rules : List RuleId) → Each (IsEvidence t h) (head_found_all rules (feed_answer t h f) f)
  head_rules_show f [] = tt
  head_rules_show f (rule ∷ rules) =
      each_append (IsEvidence t h) (head_found_by rule (feed_answer t h f) f) (head_found_all rules (feed_answer t h f) f)
      (head_slots_show rule f (head_slots_of rule) (own_slots (head_slots_of rule))) (head_rules_show f rules)

  -- ---- all feeds
  feed_shows : (f : ℕ) (o : Option Snapshot) → Each (IsEvidence t h) (feed_findings t h f o)
  feed_shows f None = tt
  feed_shows f (Some s) =
      each_append (IsEvidence t h) (head_found_all all_rules (feed_answer t h f) f) (flat_map (entity_findings t h) (entities h f)) (head_rules_show f all_rules) (entities_show (entities h f))

  feeds_show : (n : ℕ) → Each (IsEvidence t h) (below (λ f. feed_findings t h f (now h f)) n)
  feeds_show zero = tt
  feeds_show (suc n) =
      each_append (IsEvidence t h) (below (λ f. feed_findings t h f (now h f)) n) (feed_findings t h n (now h n)) (feeds_show n) (feed_shows n (now h n))

pub findings_are_evidence : FindingsAreEvidence
findings_are_evidence t h = feeds_show t h feed_limit
