-- How many entities a snapshot concerns, by what is held of each feed.
use Rattle.std.specs.Prelude.{◌≡◌, ℕ, zero, suc, ◌+◌, ◌<◌, ◌≤◌, ◌==◌, ◌&&◌, ◌||◌, not, Bool, true, false, cond, List, [], ◌∷◌, ◌++◌, length, Option, Some, None, option_map, unwrap_or, refl}
use Rattle.std.specs.List.{list_any, find}
use Rattle.std.proofs.Common.{sym, ◌∙◌, ap, subst, arith, eq-eqb}
use Rattle.std.proofs.lemmas.Bool.Decides.{nat_tests}
use borrow.Author.Tests.{eqb-true}
use Rattle.std.proofs.lemmas.Bool.{and_parts, or_from}
use Rattle.feed_values.specs.Snapshot.{entity_of}
use Rattle.timetable.specs.Timetables.{Tables}
use Rattle.rule_table.specs.declared.key.EntityKey.{EntityKey}
use Rattle.rule_table.specs.declared.place.Place.{Place}
use Rattle.rule_table.specs.declared.place.Place.TheVariants as place
use Rattle.rule_table.specs.declared.rule.RuleId.TheVariants.{E012, E050}
use Rattle.rule_table.specs.Rules.{same_rule}
use Rattle.rule_table.specs.Order.{same_key}
use Rattle.rule_table.specs.Found.{Found}
use Rattle.rule_table.specs.Groups.{Each, IsUnder}
use Rattle.rule_table.specs.Pairs.{rows_of}
use Rattle.rule_table.specs.Peaks.{vehicle_id_of}
use Rattle.rule_history.specs.History.{Snapshot, Keyed, now, entities, entities_in, entities_of_snapshot, below, feed_limit}
use Rattle.rule_history.specs.Answered.{rows, rows_in}
use Rattle.rule_history.specs.Findings.{findings}
use Rattle.rule_history.specs.Peaks.{FeedPeaks, peak}
use Rattle.rule_history.specs.Changed.{with, is_paired, keeps_bounds, same_natural, has_moved, count_of, tested, paired, bounded, peaked, in_tested, in_bounded, in_peaked, all_entities, is_under, is_bound_at, has_bound}
use Rattle.rule_history.specs.Standing.{Standing}
use Rattle.engine_laws.specs.Delta.{Delta, IsDelta, IsChange, AreCounts, is_other, has_limit, is_new, is_limited, is_moved, tested_held, paired_held, bounded_held, peaked_held}
use Rattle.engine_laws.specs.HeldFeeds.{KeyedLists, HeldFeed, AreUnder, IsLastOf, IsOwn, list_under, joined, rows_held, IsNext}
use Rattle.engine_laws.specs.Standings.{findings_of}
use Rattle.engine_laws.proofs.Apart.{having-entity}
use Rattle.engine_laws.proofs.Lists.{below-same}
use Rattle.engine_laws.proofs.Longer.{now-same}
use Rattle.engine_laws.proofs.Next.{last_now, next_own, next_last, next_rows, next_peaks, next_found, next_opened, next_closed}
use Rattle.engine_laws.proofs.Sorted.{entities_feed}
use Rattle.engine_laws.proofs.Spots.{key_is, any-having, is_some_one, key_self}

-- ---- counting
pub count-append : {A : Type 0} (test : A → Bool) (xs ys : List A) → count_of test (xs ++ ys) ≡ count_of test xs + count_of test ys
count-append test [] ys = zero_left (count_of test ys)
  where
    zero_left : (n : ℕ) → n ≡ 0 + n
    zero_left n = omega arith
count-append test (x ∷ xs) ys = ap (λ n. cond (test x) 1 0 + n) (count-append test xs ys) ∙ assoc (cond (test x) 1 0) (count_of test xs) (count_of test ys)
  where
    assoc : (a b c : ℕ) → a + (b + c) ≡ (a + b) + c
    assoc a b c = omega arith

pub count-same : {A : Type 0} (p q : A → Bool) (xs : List A) → Each (λ x. p x ≡ q x) xs → count_of p xs ≡ count_of q xs
count-same p q [] h = refl
count-same p q (x ∷ xs) h = ap (λ b. cond b 1 0 + count_of p xs) h.0 ∙ ap (λ n. cond (q x) 1 0 + n) (count-same p q xs h.1)

pub count-none : {A : Type 0} (p : A → Bool) (xs : List A) → Each (λ x. p x ≡ false) xs → count_of p xs ≡ 0
count-none p [] h = refl
count-none p (x ∷ xs) h = ap (λ b. cond b 1 0 + count_of p xs) h.0 ∙ ap (λ n. 0 + n) (count-none p xs h.1)

pub each_map : {A : Type 0} (P Q : A → Type 0) → ((x : A) → P x → Q x) → (xs : List A) → Each P xs → Each Q xs
each_map P Q w [] h = tt
each_map P Q w (x ∷ xs) h = (w x h.0, each_map P Q w xs h.1)

-- a test that is true at one feed alone
module _ (g : ℕ) (test : Keyed → Bool) (inner : Keyed → Bool) (there : (e : Keyed) → e.0.feed ≡ g → test e ≡ inner e) (elsewhere : (e : Keyed) → (e.0.feed == g) ≡ false → test e ≡ false)
    (part : ℕ → List Keyed) (at : (f : ℕ) → Each (λ e. e.0.feed ≡ f) (part f)) where
  count_past : (n : ℕ) → n ≤ g → count_of test (below part n) ≡ 0
  count_past zero le = refl
  count_past (suc n) le =
      count-append test (below part n) (part n) ∙ ap (λ m. m + count_of test (part n)) (count_past n (omega arith))
      ∙ ap (λ m. 0 + m) (count-none test (part n) (each_map (λ e. e.0.feed ≡ n) (λ e. test e ≡ false) (λ e q. elsewhere e (ap (λ m. m == g) q ∙ far n g (omega arith))) (part n) (at n)))
    where
      far : (n g : ℕ) → n < g → (n == g) ≡ false
      far n g l = grind (arith, nat_tests)

  count_one : (n : ℕ) → g < n → count_of test (below part n) ≡ count_of inner (part g)
  count_one zero l = absurd (omega arith)
  count_one (suc n) l =
      count-append test (below part n) (part n) ∙
      elim (n == g) as (λ b. (n == g) ≡ b → count_of test (below part n) + count_of test (part n) ≡ count_of inner (part g)) [
        | true ↦ λ e.
            let q : n ≡ g = eqb-true n g e in
            ap (λ m. m + count_of test (part n)) (count_past n (omega arith))
            ∙ zero_left (count_of test (part n))
            ∙ ap (λ m. count_of test (part m)) q
            ∙ count-same test inner (part g) (each_map (λ e. e.0.feed ≡ g) (λ e. test e ≡ inner e) (λ e m. there e m) (part g) (at g))
        | false ↦ λ e.
            ap (λ m. count_of test (below part n) + m) (count-none test (part n) (each_map (λ e. e.0.feed ≡ n) (λ e. test e ≡ false) (λ x q. elsewhere x (ap (λ m. m == g) q ∙ e)) (part n) (at n)))
            ∙ zero_right (count_of test (below part n)) ∙ count_one n (less n g l e)
      ] refl
    where
      zero_left : (n : ℕ) → 0 + n ≡ n
      zero_left n = omega arith

      zero_right : (n : ℕ) → n + 0 ≡ n
      zero_right n = omega arith

      less : (n g : ℕ) → g < suc n → (n == g) ≡ false → g < n
      less n g l e = grind (arith, nat_tests)

pub entities_at : (h : List Snapshot) (f : ℕ) → Each (λ e. e.0.feed ≡ f) (entities h f)
entities_at h f = go (now h f) (last_now h f)
  where
    go : (n : Option Snapshot) → IsLastOf f n → Each (λ e. e.0.feed ≡ f) (entities_of_snapshot n)
    go None l = tt
    go (Some s) l = subst (λ g. Each (λ e. e.0.feed ≡ g) (entities_in s.feed s.bytes)) l (entities_feed s.feed s.bytes)

-- ---- bounds
list_own : (key : EntityKey) (lists : KeyedLists) → Each (λ c. AreUnder c.0 (findings_of c.1)) lists → AreUnder key (findings_of (list_under key lists))
list_own key [] all = tt
list_own key (c ∷ cs) all =
    elim (same_key c.0 key) as (λ b. same_key c.0 key ≡ b → AreUnder key (findings_of (unwrap_or (option_map (λ c. c.1) (cond b (Some c) (find (λ c. same_key c.0 key) cs))) []))) [
      | true ↦ λ e. subst (λ k. AreUnder k (findings_of c.1)) (key_is c.0 key e) all.0
      | false ↦ λ _. list_own key cs all.1
    ] refl

sees_key : (key : EntityKey) (x : Found) → is_bound_at key x ≡ true → IsUnder key x.place
sees_key key x e = at x.place (and_parts (same_rule x.rule E012 || same_rule x.rule E050) (is_under key x.place) e).1
  where
    at : (p : Place) → is_under key p ≡ true → IsUnder key p
    at (place.Head f s) h = cc
    at (place.Entity k p) h = sym (key_is key k h)

under_own : (key : EntityKey) (p : Place) → IsUnder key p → is_under key p ≡ true
under_own key (place.Head f s) m = absurd m
under_own key (place.Entity k p) m = ap (same_key key) m ∙ key_self key

any_bound : (key : EntityKey) (xs : List Standing) → AreUnder key (findings_of xs) → list_any (is_bound_at key) (findings_of xs) ≡ has_limit xs
any_bound key [] all = refl
any_bound key (x ∷ xs) all =
    ap (λ b. ((same_rule x.finding.rule E012 || same_rule x.finding.rule E050) && b) || list_any (is_bound_at key) (findings_of xs)) (under_own key x.finding.place all.0)
    ∙ and_right (same_rule x.finding.rule E012 || same_rule x.finding.rule E050) (list_any (is_bound_at key) (findings_of xs)) (has_limit xs) (any_bound key xs all.1)
  where
    and_right : (a b c : Bool) → b ≡ c → ((a && true) || b) ≡ (a || c)
    and_right true b c h = refl
    and_right false b c h = h

-- whether a bound stands under a key is seen in its list
pub bound_in : (t : Option Tables) (h : List Snapshot) (feeds : ℕ → HeldFeed) → ((f : ℕ) → IsOwn f (feeds f)) → findings_of (joined feeds) ≡ findings t h → (key : EntityKey) (f : ℕ) → key.feed ≡ f → f < feed_limit →
    has_bound t h key ≡ has_limit (list_under key (feeds f).entities)
bound_in t h feeds home e key f at l =
    ap (list_any (is_bound_at key)) (sym e)
    ∙ any-having (is_bound_at key) (joined feeds)
    ∙ ap is_some_one (having-entity feeds home key (is_bound_at key) (subst (λ n. n < feed_limit) (sym at) l) (sees_key key))
    ∙ sym (any-having (is_bound_at key) (list_under key (feeds key.feed).entities))
    ∙ ap (λ n. list_any (is_bound_at key) (findings_of (list_under key (feeds n).entities))) at
    ∙ any_bound key (list_under key (feeds f).entities) (list_own key (feeds f).entities (home f).under_keys)

-- ---- peaks
moved_same : (a b c d : FeedPeaks) → ((v : List ℕ) → a v ≡ c v) → ((v : List ℕ) → b v ≡ d v) → (given : Option (List ℕ)) → has_moved a b given ≡ has_moved c d given
moved_same a b c d h k None = refl
moved_same a b c d h k (Some v) = ap (λ x. not (same_natural x (b v))) (h v) ∙ ap (λ x. not (same_natural (c v) x)) (k v)

-- ---- one more snapshot
module _ (t : Option Tables) (applied : ℕ) (s : Snapshot) (old new : ℕ → HeldFeed) (home : (f : ℕ) → IsOwn f (old f)) (is : IsNext t applied s old new)
    (g : List Snapshot) (number : applied ≡ length g) (found : findings_of (joined old) ≡ findings t g) (kept : (f : ℕ) → (old f).last ≡ now g f)
    (peaks_kept : (f : ℕ) (vehicle : List ℕ) → (old f).peaks vehicle ≡ peak g f vehicle) where
  same_self : (s.feed == s.feed) ≡ true
  same_self = eq-eqb s.feed s.feed refl

  now_is : entities (with g s) s.feed ≡ entities_in s.feed s.bytes
  now_is = ap entities_of_snapshot (now-same g s s.feed same_self)

  other_is : (e : Keyed) → is_other (entities g s.feed) e ≡ is_new (old s.feed) e
  other_is e = ap (λ n. is_other (entities_of_snapshot n) e) (sym (kept s.feed))

  ands : (b c : Bool) → (b ≡ true) → (b && c) ≡ c
  ands b c h = cc

  and_false : (b c : Bool) → (b ≡ false) → (b && c) ≡ false
  and_false b c h = cc

  at_feed : (e : Keyed) → e.0.feed ≡ s.feed → (e.0.feed == s.feed) ≡ true
  at_feed e q = eq-eqb e.0.feed s.feed q

  tested_there : (e : Keyed) → e.0.feed ≡ s.feed → in_tested g s e ≡ is_new (old s.feed) e
  tested_there e q = ands (e.0.feed == s.feed) (is_other (entities g s.feed) e) (at_feed e q) ∙ other_is e

  tested_else : (e : Keyed) → (e.0.feed == s.feed) ≡ false → in_tested g s e ≡ false
  tested_else e q = and_false (e.0.feed == s.feed) (is_other (entities g s.feed) e) q

  pub tested_size : tested g s ≡ tested_held s old
  tested_size =
      count_one s.feed (in_tested g s) (is_new (old s.feed)) tested_there tested_else (entities (with g s)) (entities_at (with g s)) feed_limit is.feed
      ∙ ap (count_of (is_new (old s.feed))) now_is

  next_entities : below (λ f. entities_of_snapshot (new f).last) feed_limit ≡ all_entities (with g s)
  next_entities = below-same (λ f. entities_of_snapshot (new f).last) (entities (with g s)) feed_limit (λ f l. ap entities_of_snapshot (next_last t applied s old new home is g number found kept peaks_kept f))

  old_rows : rows_held old ≡ rows g
  old_rows = below-same (λ f. rows_in (entities_of_snapshot (old f).last)) (λ f. rows_in (entities g f)) feed_limit (λ f l. ap (λ n. rows_in (entities_of_snapshot n)) (kept f))

  pub paired_size : paired g s ≡ paired_held s old new
  paired_size =
      ap (λ n. count_of (λ e. (e.0.feed == s.feed && is_other (entities_of_snapshot n) e) || is_paired (rows g) (rows (with g s)) (rows_of e.0 (entity_of e.1))) (all_entities (with g s))) (sym (kept s.feed))
      ∙ ap (λ u. count_of (λ e. (e.0.feed == s.feed && is_new (old s.feed) e) || is_paired u (rows (with g s)) (rows_of e.0 (entity_of e.1))) (all_entities (with g s))) (sym old_rows)
      ∙ ap (λ u. count_of (λ e. (e.0.feed == s.feed && is_new (old s.feed) e) || is_paired (rows_held old) u (rows_of e.0 (entity_of e.1))) (all_entities (with g s))) (sym (next_rows t applied s old new home is g number found kept peaks_kept))
      ∙ ap (count_of (λ e. (e.0.feed == s.feed && is_new (old s.feed) e) || is_paired (rows_held old) (rows_held new) (rows_of e.0 (entity_of e.1)))) (sym next_entities)

  bounded_there : (e : Keyed) → e.0.feed ≡ s.feed → (in_tested g s e || in_bounded t g s e) ≡ (is_new (old s.feed) e || is_limited s (old s.feed) (new s.feed) e)
  bounded_there e q =
      ors (in_tested g s e) (is_new (old s.feed) e) (in_bounded t g s e) (is_limited s (old s.feed) (new s.feed) e) (tested_there e q)
      (three (e.0.feed == s.feed) (not (keeps_bounds s (now g s.feed))) (has_bound t g e.0 || has_bound t (with g s) e.0) (at_feed e q)
      ∙ ap (λ n. not (keeps_bounds s n) && (has_bound t g e.0 || has_bound t (with g s) e.0)) (sym (kept s.feed))
      ∙ ap (λ b. not (keeps_bounds s (old s.feed).last) && (b || has_bound t (with g s) e.0)) (bound_in t g old home found e.0 s.feed q is.feed)
      ∙ ap (λ b. not (keeps_bounds s (old s.feed).last) && (has_limit (list_under e.0 (old s.feed).entities) || b))
      (bound_in t (with g s) new (next_own t applied s old new home is) (next_found t applied s old new home is g number found kept peaks_kept) e.0 s.feed q is.feed))
    where
      ors : (a b c d : Bool) → a ≡ b → c ≡ d → (a || c) ≡ (b || d)
      ors a b c d h k = cc

      three : (a b c : Bool) → a ≡ true → (a && b && c) ≡ (b && c)
      three a b c h = cc

  bounded_else : (e : Keyed) → (e.0.feed == s.feed) ≡ false → (in_tested g s e || in_bounded t g s e) ≡ false
  bounded_else e q = or_from (in_tested g s e) (in_bounded t g s e) (tested_else e q) (three (e.0.feed == s.feed) (not (keeps_bounds s (now g s.feed))) (has_bound t g e.0 || has_bound t (with g s) e.0) q)
    where
      three : (a b c : Bool) → a ≡ false → (a && b && c) ≡ false
      three a b c h = cc

  pub bounded_size : bounded t g s ≡ bounded_held s old new
  bounded_size =
      count_one s.feed (λ e. in_tested g s e || in_bounded t g s e) (λ e. is_new (old s.feed) e || is_limited s (old s.feed) (new s.feed) e) bounded_there bounded_else
      (entities (with g s)) (entities_at (with g s)) feed_limit is.feed
      ∙ ap (count_of (λ e. is_new (old s.feed) e || is_limited s (old s.feed) (new s.feed) e)) now_is

  moved_there : (e : Keyed) → e.0.feed ≡ s.feed → (in_tested g s e || in_peaked g s e) ≡ (is_new (old s.feed) e || is_moved (old s.feed) (new s.feed) e)
  moved_there e q =
      ors (in_tested g s e) (is_new (old s.feed) e) (in_peaked g s e) (is_moved (old s.feed) (new s.feed) e) (tested_there e q)
      (ands (e.0.feed == s.feed) (has_moved (peak g s.feed) (peak (with g s) s.feed) (vehicle_id_of (entity_of e.1))) (at_feed e q)
      ∙ moved_same (peak g s.feed) (peak (with g s) s.feed) (old s.feed).peaks (new s.feed).peaks (λ v. sym (peaks_kept s.feed v)) (λ v. sym (next_peaks t applied s old new home is g number found kept peaks_kept s.feed v))
      (vehicle_id_of (entity_of e.1)))
    where
      ors : (a b c d : Bool) → a ≡ b → c ≡ d → (a || c) ≡ (b || d)
      ors a b c d h k = cc

  moved_else : (e : Keyed) → (e.0.feed == s.feed) ≡ false → (in_tested g s e || in_peaked g s e) ≡ false
  moved_else e q = or_from (in_tested g s e) (in_peaked g s e) (tested_else e q) (and_false (e.0.feed == s.feed) (has_moved (peak g s.feed) (peak (with g s) s.feed) (vehicle_id_of (entity_of e.1))) q)

  pub peaked_size : peaked g s ≡ peaked_held s old new
  peaked_size =
      count_one s.feed (λ e. in_tested g s e || in_peaked g s e) (λ e. is_new (old s.feed) e || is_moved (old s.feed) (new s.feed) e) moved_there moved_else
      (entities (with g s)) (entities_at (with g s)) feed_limit is.feed
      ∙ ap (count_of (λ e. is_new (old s.feed) e || is_moved (old s.feed) (new s.feed) e)) now_is

  pub counts_are : AreCounts t g s old new
  counts_are = record { tested_is = tested_size; paired_is = paired_size; bounded_is = bounded_size; peaked_is = peaked_size }

  -- what is owed of a delta makes it what the snapshot changes
  pub change_is : (d : Delta) → IsChange applied s old new d → IsDelta t g s (joined new) d
  change_is d c = record {
    snapshot_is = c.snapshot_is ∙ number;
    entities_is = c.entities_is;
    opened_is = c.opened_is ∙ next_opened t applied s old new home is g number found kept peaks_kept;
    closed_is = c.closed_is ∙ next_closed t applied s old new home is g number found kept peaks_kept;
    tested_is = c.tested_is ∙ sym tested_size;
    paired_is = c.paired_is ∙ sym paired_size;
    bounded_is = c.bounded_is ∙ sym bounded_size;
    peaked_is = c.peaked_is ∙ sym peaked_size;
  }
