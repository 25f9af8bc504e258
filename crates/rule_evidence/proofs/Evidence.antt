-- Facts that hold after a history are among its findings.
use Rattle.std.specs.Prelude.{◌≡◌, ℕ, nat_le, ◌<◌, ◌≤◌, ◌==◌, Bool, true, false, cond, zero, suc, List, [], ◌∷◌, filter, reverse, length, Option, Some, None, option_map, slice_index_or, refl}
use Rattle.std.specs.List.{flat_map, find}
use Rattle.std.proofs.Common.{inl, inr, sym, ap, subst, arith}
use Rattle.std.proofs.Math.Nat.{eq-or-lt_of_le}
use Rattle.std.proofs.lemmas.Bool.Decides.{nat_tests}
use borrow.Author.Tests.{eqb-true, leb-true}
use Rattle.feed_values.specs.declared.slot.Slot.{Slot}
use Rattle.feed_values.specs.declared.path.Path.{Path}
use Rattle.feed_values.specs.declared.cell_value.CellValue.{CellValue}
use Rattle.feed_values.specs.Schema.{Value}
use Rattle.feed_values.specs.Messages.{entity}
use Rattle.feed_values.specs.Snapshot.{entity_of}
use Rattle.timetable.specs.Timetables.{Tables}
use Rattle.rule_table.specs.declared.rule.RuleId.{RuleId}
use Rattle.rule_table.specs.declared.row.Cite.{Cite}
use Rattle.rule_table.specs.declared.key.EntityKey.{EntityKey}
use Rattle.rule_table.specs.declared.place.Place.{Place}
use Rattle.rule_table.specs.declared.place.Place.TheVariants as place
use Rattle.rule_table.specs.declared.ask.Ask.{Ask}
use Rattle.rule_table.specs.declared.fact.Fact.{Fact}
use Rattle.rule_table.specs.Order.{same_key}
use Rattle.rule_table.proofs.SameKeys.{key_is}
use Rattle.rule_table.specs.EachRule.{each_rule, is_rule}
use Rattle.rule_table.specs.Table.{all_rules, cites_of, head_cites_of, head_slots_of}
use Rattle.rule_table.specs.Broken.{Breaks, IsFormed}
use Rattle.rule_table.specs.Found.{Found}
use Rattle.rule_table.specs.Judged.{found_at, found_by, found_all, found_on, head_found_by, head_found_all}
use Rattle.rule_history.specs.History.{Snapshot, Keyed, IsHistory, now, first_of, entities, below, feed_limit, feed_limit-is}
use Rattle.rule_history.specs.Answered.{answer, answer_under, feed_answer, payload_under}
use Rattle.rule_history.specs.Findings.{findings, feed_findings, entity_findings}
use Rattle.rule_evidence.specs.Laws.{AllHold, EvidenceShows}
use Rattle.rule_table.specs.ClearSlots.{IsAmong, HasCells}
use Rattle.rule_evidence.proofs.Holding.{evidence_found}
use Rattle.rule_evidence.proofs.Anchors.{evidence_among, among_left, among_right}

-- ---- lists
among_flat : {A B : Type 0} (f : A → List B) (x : B) (a : A) (xs : List A) → IsAmong a xs → IsAmong x (f a) → IsAmong x (flat_map f xs)
among_flat f x a [] h k = absurd h
among_flat f x a (y ∷ ys) (inl e) k = among_left x (f y) (flat_map f ys) (subst (λ z. IsAmong x (f z)) e k)
among_flat f x a (y ∷ ys) (inr h) k = among_right x (f y) (flat_map f ys) (among_flat f x a ys h k)

among_below : {A : Type 0} (part : ℕ → List A) (x : A) (f n : ℕ) → f < n → IsAmong x (part f) → IsAmong x (below part n)
among_below part x f zero l h = absurd (omega (arith, l))
among_below part x f (suc n) l h =
    elim (eq-or-lt_of_le (up n f l)) [
      | inl e ↦ among_right x (below part n) (part n) (subst (λ m. IsAmong x (part m)) e h)
      | inr lt ↦ among_left x (below part n) (part n) (among_below part x f n lt h)
    ]
  where
    up : (i j : ℕ) → j < suc i → j ≤ i
    up i j h = omega (arith, h)

-- ---- rules
listed : (rule : RuleId) (answer : Ask → Option CellValue) (key : EntityKey) (e : Value entity) (x : Found) → IsAmong rule all_rules → IsAmong x (found_by rule answer key e) → IsAmong x (found_all all_rules answer key e)
listed rule answer key e x m h = go all_rules m
  where
    go : (rules : List RuleId) → IsAmong rule rules → IsAmong x (found_all rules answer key e)
    go [] m = absurd m
    go (r ∷ rules) (inl q) = among_left x (found_by r answer key e) (found_all rules answer key e) (subst (λ z. IsAmong x (found_by z answer key e)) q h)
    go (r ∷ rules) (inr m) = among_right x (found_by r answer key e) (found_all rules answer key e) (go rules m)

head_listed : (rule : RuleId) (answer : Ask → Option CellValue) (feed : ℕ) (x : Found) → IsAmong rule all_rules → IsAmong x (head_found_by rule answer feed) → IsAmong x (head_found_all all_rules answer feed)
head_listed rule answer feed x m h = go all_rules m
  where
    go : (rules : List RuleId) → IsAmong rule rules → IsAmong x (head_found_all rules answer feed)
    go [] m = absurd m
    go (r ∷ rules) (inl q) = among_left x (head_found_by r answer feed) (head_found_all rules answer feed) (subst (λ z. IsAmong x (head_found_by z answer feed)) q h)
    go (r ∷ rules) (inr m) = among_right x (head_found_by r answer feed) (head_found_all rules answer feed) (go rules m)

-- each row cites a fact
abbrev has_first : List Cite → Bool
has_first [] = false
has_first (c ∷ cs) = true

first_cite : (rule : RuleId) → has_first (cites_of rule) ≡ true
first_cite = each_rule (λ r. has_first (cites_of r)) refl

first_head_cite : (rule : RuleId) → has_first (head_cites_of rule) ≡ true
first_head_cite = each_rule (λ r. has_first (head_cites_of r)) refl

-- something is answered
record Answered (answer : Ask → Option CellValue) : Type 0 where
  asked : Ask
  value : CellValue
  is : answer asked ≡ Some value

some_answer : (answer : Ask → Option CellValue) (at : Place) (vs : List CellValue) (cs : List Cite) (fs : List Fact) → has_first cs ≡ true → IsFormed at vs cs fs → AllHold answer fs → Answered answer
some_answer answer at vs [] fs m h all = cc
some_answer answer at vs (c ∷ cs) [] m h all = absurd h
some_answer answer at vs (c ∷ cs) (f ∷ fs) m h all = record { asked = f.ask; value = f.value; is = all.0 }

-- ---- feeds
far : (h : List Snapshot) (f : ℕ) → IsHistory h → 256 ≤ f → filter (λ s. s.feed == f) h ≡ []
far [] f h l = refl
far (s ∷ rest) f h l =
    elim (s.feed == f) as (λ b. (s.feed == f) ≡ b → cond b (s ∷ filter (λ s. s.feed == f) rest) (filter (λ s. s.feed == f) rest) ≡ []) [
      | true ↦ λ e. let q : s.feed ≡ f = eqb-true s.feed f e in let below : s.feed < 256 = h.0.feed in absurd (omega (arith, q, below, l))
      | false ↦ λ _. far rest f h.1 l
    ] refl

feed_fits : (h : List Snapshot) (f : ℕ) (s : Snapshot) → IsHistory h → now h f ≡ Some s → f < feed_limit
feed_fits h f s taken is =
    elim (nat_le 256 f) as (λ b. nat_le 256 f ≡ b → f < feed_limit) [
      | true ↦ λ e. let none : now h f ≡ None = ap (λ l. first_of (reverse l)) (far h f taken (leb-true 256 f e)) in cc
      | false ↦ λ e. rw feed_limit-is (grind (arith, nat_tests))
    ] refl

in_feed : (t : Option Tables) (h : List Snapshot) (f : ℕ) (s : Snapshot) (x : Found) → IsHistory h → now h f ≡ Some s → IsAmong x (feed_findings t h f (Some s)) → IsAmong x (findings t h)
in_feed t h f s x taken is m =
    among_below (λ g. feed_findings t h g (now h g)) x f feed_limit (feed_fits h f s taken is) (subst (λ o. IsAmong x (feed_findings t h f o)) (sym is) m)

-- ---- on a header
on_slots : (rule : RuleId) (answer : Ask → Option CellValue) (f : ℕ) (slot : Slot) (x : Found) → found_at rule answer (place.Head f slot) ≡ x ∷ [] → (slots : List Slot) (i : ℕ)
    → i < length slots → slice_index_or slots i slot ≡ slot → IsAmong x (found_on rule answer f slots)
on_slots rule answer f slot x h [] i l m = absurd (omega (arith, l))
on_slots rule answer f slot x h (s ∷ slots) zero l m =
    among_left x (found_at rule answer (place.Head f s)) (found_on rule answer f slots) (subst (λ r. IsAmong x (found_at rule answer (place.Head f r))) (sym m) (subst (IsAmong x) (sym h) (inl refl)))
on_slots rule answer f slot x h (s ∷ slots) (suc i) l m =
    among_right x (found_at rule answer (place.Head f s)) (found_on rule answer f slots) (on_slots rule answer f slot x h slots i (omega (arith, l)) m)

head_shows : (t : Option Tables) (h : List Snapshot) (rule : RuleId) (f : ℕ) (slot : Slot) (facts : List Fact) → IsHistory h → Breaks rule (place.Head f slot) facts → AllHold (feed_answer t h f) facts
    → (o : Option Snapshot) → now h f ≡ o → IsAmong (record { rule = rule; place = place.Head f slot; facts = facts }) (findings t h)
head_shows t h rule f slot facts taken b all None is =
    let a = some_answer (feed_answer t h f) (place.Head f slot) [] (head_cites_of rule) facts (first_head_cite rule) b.formed all in
    let none : feed_answer t h f a.asked ≡ None = rw is refl in
    let some = a.is in
    cc
head_shows t h rule f slot facts taken b all (Some s) is =
    let x : Found = record { rule = rule; place = place.Head f slot; facts = facts } in
    let found = on_slots rule (feed_answer t h f) f slot x (evidence_found (feed_answer t h f) rule (place.Head f slot) facts b all) (head_slots_of rule) b.place.listed.0 b.place.listed.1 b.place.listed.2 in
    in_feed t h f s x taken is (among_left x (head_found_all all_rules (feed_answer t h f) f) (flat_map (entity_findings t h) (entities h f)) (head_listed rule (feed_answer t h f) f x (is_rule rule) found))

-- ---- at an entity
-- an entity that is found under a key
record Seat (key : EntityKey) (es : List Keyed) (payload : List ℕ) : Type 0 where
  seat : Keyed
  among : IsAmong seat es
  key_same : seat.0 ≡ key
  payload_is : seat.1 ≡ payload

seat_of : (key : EntityKey) (es : List Keyed) (payload : List ℕ) → payload_under key es ≡ Some payload → Seat key es payload
seat_of key [] payload h = cc
seat_of key (e ∷ es) payload h =
    elim (same_key e.0 key) as (λ b. same_key e.0 key ≡ b → option_map (λ (x : Keyed). x.1) (cond b (Some e) (find (λ x. same_key x.0 key) es)) ≡ Some payload → Seat key (e ∷ es) payload) [
      | true ↦ λ s i. let q : e.1 ≡ payload = cc in record { seat = e; among = inl refl; key_same = key_is e.0 key s; payload_is = q }
      | false ↦ λ _ i. let m = seat_of key es payload i in record { seat = m.seat; among = inr m.among; key_same = m.key_same; payload_is = m.payload_is }
    ] refl h

entity_shows : (t : Option Tables) (h : List Snapshot) (rule : RuleId) (key : EntityKey) (p : Path) (facts : List Fact) → IsHistory h → Breaks rule (place.Entity key p) facts → AllHold (answer_under t h key) facts
    → (o : Option (List ℕ)) → payload_under key (entities h key.feed) ≡ o → (n : Option Snapshot) → now h key.feed ≡ n → IsAmong (record { rule = rule; place = place.Entity key p; facts = facts }) (findings t h)
entity_shows t h rule key p facts taken b all None is n now_is =
    let a = some_answer (answer_under t h key) (place.Entity key p) [] (cites_of rule) facts (first_cite rule) b.formed all in
    let none : answer_under t h key a.asked ≡ None = rw is refl in
    let some = a.is in
    cc
entity_shows t h rule key p facts taken b all (Some payload) is None now_is =
    let empty : payload_under key (entities h key.feed) ≡ None = rw now_is refl in
    cc
entity_shows t h rule key p facts taken b all (Some payload) is (Some s) now_is =
    let x : Found = record { rule = rule; place = place.Entity key p; facts = facts } in
    let cells : HasCells (answer_under t h key) (entity_of payload) = λ q. rw is refl in
    let found = evidence_among (answer_under t h key) rule key (entity_of payload) p facts cells b all in
    let every = listed rule (answer_under t h key) key (entity_of payload) x (is_rule rule) found in
    let seat = seat_of key (entities h key.feed) payload is in
    let here : IsAmong x (entity_findings t h seat.seat) =
    subst (λ k. IsAmong x (found_all all_rules (answer_under t h k) k (entity_of seat.seat.1))) (sym seat.key_same)
    (subst (λ q. IsAmong x (found_all all_rules (answer_under t h key) key (entity_of q))) (sym seat.payload_is) every) in
    in_feed t h key.feed s x taken now_is (among_right x (head_found_all all_rules (feed_answer t h key.feed) key.feed) (flat_map (entity_findings t h) (entities h key.feed))
    (among_flat (entity_findings t h) x seat.seat (entities h key.feed) seat.among here))

pub evidence_shows : EvidenceShows
evidence_shows t h rule (place.Head f slot) facts taken b all = head_shows t h rule f slot facts taken b all (now h f) refl
evidence_shows t h rule (place.Entity key p) facts taken b all = entity_shows t h rule key p facts taken b all (payload_under key (entities h key.feed)) refl (now h key.feed) refl
