-- A history with one more snapshot, and its findings by what is at hand.
use Rattle.std.specs.Prelude.{◌≡◌, ℕ, ◌==◌, Bool, true, false, cond, List, [], ◌∷◌, ◌++◌, filter, reverse, Option, Some, None, option_and_then, refl}
use Rattle.std.specs.List.{flat_map}
use Rattle.std.specs.Option.{option_or}
use Rattle.std.proofs.Common.{sym, ◌∙◌, ap, subst}
use Rattle.std.proofs.lemmas.List.{reverse-append}
use Rattle.std.proofs.lemmas.List.Elements.{filter-append}
use Rattle.std.proofs.lemmas.List.Folds.{flat_map-map}
use Rattle.std.proofs.lemmas.Option.{same_Some}
use borrow.Author.Tests.{eqb-true}
use Rattle.feed_values.specs.Snapshot.{entity_of}
use Rattle.timetable.specs.Timetables.{Tables}
use Rattle.rule_table.specs.declared.ask.Ask.{Ask}
use Rattle.rule_table.specs.Table.{all_rules}
use Rattle.rule_table.specs.Sources.{source_of}
use Rattle.rule_table.specs.Same.{all_same}
use Rattle.rule_table.specs.SameHeads.{heads_same}
use Rattle.rule_table.specs.Judged.{head_found_all}
use Rattle.rule_table.specs.Groups.{Each}
use Rattle.rule_table.specs.GroupLaws.{each_append}
use Rattle.rule_history.specs.History.{Snapshot, Keyed, recent, first_of, second_of, now, before, entities, entities_in, entities_of_snapshot, below, feed_limit}
use Rattle.rule_table.specs.Answers.{heads_answer, entity_answer, gathered_answer}
use Rattle.rule_table.specs.CitedLaws.{both_same}
use Rattle.rule_history.specs.Answered.{heads_of, timetable_answer, gathered, payload_under, shared_answer, feed_answer, answer_under}
use Rattle.rule_history.specs.Findings.{findings, feed_findings, entity_findings}
use Rattle.rule_history.specs.Changed.{with}
use Rattle.engine_laws.specs.HeldFeeds.{head_found, held_answer, entity_found, entities_found, feed_found}
use Rattle.engine_laws.proofs.Lists.{below-same, flat-same}
use Rattle.engine_laws.proofs.Sorted.{entities_rise, entities_feed, apart_rising, found_under}
use Rattle.engine_laws.proofs.AtHand.{heads_first, is_held, heads_limits}

-- ---- the last snapshots of a feed
pub recent-more : (h : List Snapshot) (s : Snapshot) (f : ℕ) → recent (with h s) f ≡ cond (s.feed == f) (s ∷ recent h f) (recent h f)
recent-more h s f =
    ap reverse (filter-append (λ x. x.feed == f) h (s ∷ []))
    ∙ reverse-append (filter (λ x. x.feed == f) h) (filter (λ x. x.feed == f) (s ∷ []))
    ∙ elim (s.feed == f) as (λ b. reverse (cond b (s ∷ []) []) ++ recent h f ≡ cond b (s ∷ recent h f) (recent h f)) [ true ↦ refl | false ↦ refl ]

pub now-other : (h : List Snapshot) (s : Snapshot) (f : ℕ) → (s.feed == f) ≡ false → now (with h s) f ≡ now h f
now-other h s f e = ap first_of (recent-more h s f ∙ ap (λ b. cond b (s ∷ recent h f) (recent h f)) e)

pub before-other : (h : List Snapshot) (s : Snapshot) (f : ℕ) → (s.feed == f) ≡ false → before (with h s) f ≡ before h f
before-other h s f e = ap second_of (recent-more h s f ∙ ap (λ b. cond b (s ∷ recent h f) (recent h f)) e)

pub now-same : (h : List Snapshot) (s : Snapshot) (f : ℕ) → (s.feed == f) ≡ true → now (with h s) f ≡ Some s
now-same h s f e = ap first_of (recent-more h s f ∙ ap (λ b. cond b (s ∷ recent h f) (recent h f)) e)

pub before-same : (h : List Snapshot) (s : Snapshot) (f : ℕ) → (s.feed == f) ≡ true → before (with h s) f ≡ now h f
before-same h s f e = ap second_of (recent-more h s f ∙ ap (λ b. cond b (s ∷ recent h f) (recent h f)) e)

-- the last snapshot of a feed is of the feed
each_filtered : {A : Type 0} (P : A → Type 0) (test : A → Bool) → ((x : A) → test x ≡ true → P x) → (xs : List A) → Each P (filter test xs)
each_filtered P test w [] = tt
each_filtered P test w (x ∷ xs) =
    elim (test x) as (λ b. test x ≡ b → Each P (cond b (x ∷ filter test xs) (filter test xs))) [
      | true ↦ λ e. (w x e, each_filtered P test w xs)
      | false ↦ λ _. each_filtered P test w xs
    ] refl

each_reversed : {A : Type 0} (P : A → Type 0) (xs : List A) → Each P xs → Each P (reverse xs)
each_reversed P [] h = tt
each_reversed P (x ∷ xs) h = subst (Each P) (sym (reverse-append (x ∷ []) xs)) (each_append P (reverse xs) (x ∷ []) (each_reversed P xs h.1) (h.0, tt))

first_each : {A : Type 0} (P : A → Type 0) (xs : List A) (s : A) → Each P xs → first_of xs ≡ Some s → P s
first_each P [] s h e = cc
first_each {A} P (x ∷ xs) s h e = subst P (same_Some x s e) h.0

pub now-feed : (h : List Snapshot) (f : ℕ) (s : Snapshot) → now h f ≡ Some s → s.feed ≡ f
now-feed h f s is =
    first_each (λ x. x.feed ≡ f) (recent h f) s
    (each_reversed (λ x. x.feed ≡ f) (filter (λ x. x.feed == f) h) (each_filtered (λ x. x.feed ≡ f) (λ x. x.feed == f) (λ x e. eqb-true x.feed f e) h)) is

-- what holds of each snapshot holds of the last one of a feed
pub now_each : (P : Snapshot → Type 0) (h : List Snapshot) (f : ℕ) (s : Snapshot) → Each P h → now h f ≡ Some s → P s
now_each P h f s all is = first_each P (recent h f) s (each_reversed P (filter (λ x. x.feed == f) h) (kept h all)) is
  where
    kept : (xs : List Snapshot) → Each P xs → Each P (filter (λ x. x.feed == f) xs)
    kept [] h = tt
    kept (x ∷ xs) h = elim (x.feed == f) as (λ b. Each P (cond b (x ∷ filter (λ x. x.feed == f) xs) (filter (λ x. x.feed == f) xs))) [ true ↦ (h.0, kept xs h.1) | false ↦ kept xs h.1 ]

-- ---- answers by what is at hand
feed-answer : (t : Option Tables) (h : List Snapshot) (f : ℕ) (s : Snapshot) → now h f ≡ Some s → (a : Ask) →
    feed_answer t h f a ≡ shared_answer t (gathered h) (heads_of s (before h f)) a
feed-answer t h f s is a = ap (option_and_then (λ s. shared_answer t (gathered h) (heads_of s (before h f)) a)) is

-- ---- findings by what is at hand
module _ (t : Option Tables) (h : List Snapshot) (f : ℕ) (s : Snapshot) (is : now h f ≡ Some s) where
  at_feed : s.feed ≡ f
  at_feed = now-feed h f s is

  pub head-found : head_found_all all_rules (feed_answer t h f) f ≡ head_found s (before h f)
  head-found =
      heads_same (feed_answer t h f) (heads_answer (heads_of s (before h f))) (λ a m. feed-answer t h f s is a ∙ heads_first (heads_of s (before h f)) _ a m) f all_rules refl
      ∙ ap (head_found_all all_rules (heads_answer (heads_of s (before h f)))) (sym at_feed)

  pub entity-found : (e : Keyed) → e.0.feed ≡ s.feed → payload_under e.0 (entities_in s.feed s.bytes) ≡ Some e.1 → entity_findings t h e ≡ entity_found t (gathered h) s e
  entity-found e at under =
      all_same is_held (answer_under t h e.0) (held_answer t (gathered h) s e.0 (entity_of e.1)) agree all_rules refl e.0 (entity_of e.1)
    where
      there : payload_under e.0 (entities h e.0.feed) ≡ Some e.1
      there = ap (λ g. payload_under e.0 (entities h g)) (at ∙ at_feed) ∙ ap (λ n. payload_under e.0 (entities_of_snapshot n)) is ∙ under

      agree : (a : Ask) → is_held (source_of a) ≡ true → answer_under t h e.0 a ≡ held_answer t (gathered h) s e.0 (entity_of e.1) a
      agree a m =
          ap (option_and_then (λ p. option_or (entity_answer e.0 (entity_of p) a) (feed_answer t h e.0.feed a))) there
          ∙ ap (λ g. option_or (entity_answer e.0 (entity_of e.1) a) (feed_answer t h g a)) (at ∙ at_feed)
          ∙ ap (option_or (entity_answer e.0 (entity_of e.1) a)) (feed-answer t h f s is a ∙ ap (λ x. option_or x (option_or (timetable_answer t a) (gathered_answer (gathered h) a))) (heads_limits s (before h f) a m))

  entities-found : flat_map (entity_findings t h) (entities h f) ≡ flat_map (λ c. c.1) (entities_found t (gathered h) (Some s))
  entities-found =
      ap (λ n. flat_map (entity_findings t h) (entities_of_snapshot n)) is
      ∙ flat-same (entity_findings t h) (entity_found t (gathered h) s) (entities_in s.feed s.bytes)
      (each_two (λ e. e.0.feed ≡ s.feed) (λ e. payload_under e.0 (entities_in s.feed s.bytes) ≡ Some e.1) (λ e. entity_findings t h e ≡ entity_found t (gathered h) s e) entity-found (entities_in s.feed s.bytes)
      (entities_feed s.feed s.bytes) (found_under (entities_in s.feed s.bytes) (apart_rising (entities_in s.feed s.bytes) (entities_rise s.feed s.bytes))))
      ∙ sym (flat_map-map (λ c. c.1) (λ e. (e.0, entity_found t (gathered h) s e)) (entities_in s.feed s.bytes))
    where
      each_two : {A : Type 0} (P Q R : A → Type 0) → ((x : A) → P x → Q x → R x) → (xs : List A) → Each P xs → Each Q xs → Each R xs
      each_two P Q R w [] p q = tt
      each_two P Q R w (x ∷ xs) p q = (w x p.0 q.0, each_two P Q R w xs p.1 q.1)

feed-found : (t : Option Tables) (h : List Snapshot) (f : ℕ) → feed_findings t h f (now h f) ≡ feed_found t (gathered h) (now h f) (before h f)
feed-found t h f = go (now h f) refl
  where
    go : (n : Option Snapshot) → now h f ≡ n → feed_findings t h f n ≡ feed_found t (gathered h) n (before h f)
    go None is = refl
    go (Some s) is = both_same (head-found t h f s is) (entities-found t h f s is)

-- the findings after a history are those on each feed's header, judged with the header before, and those at each of its
-- entities, judged with the header, the moment, the timetable, the rows of all entities and the peaks
pub findings-parts : (t : Option Tables) (h : List Snapshot) → findings t h ≡ below (λ f. feed_found t (gathered h) (now h f) (before h f)) feed_limit
findings-parts t h = below-same _ _ feed_limit (λ f l. feed-found t h f)
