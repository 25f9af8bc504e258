-- The plain data of an engine are what is held of all feeds.
use Rattle.std.specs.Prelude.{◌≡◌, ℕ, zero, suc, ◌+◌, ◌-◌, ◌*◌, ◌<◌, ◌≤◌, nat_le, true, false, List, [], ◌∷◌, ◌++◌, length, map, get_or, Option, Some, None, option_map, refl}
use Rattle.std.proofs.Common.{sym, ap, ◌∙◌, subst, arith, length-append}
use Rattle.std.proofs.lemmas.List.{get_or_past}
use Rattle.std.proofs.Math.Path.{fun_ext}
use borrow.Author.Tests.{leb-true, leb-false}
use Rattle.timetable.specs.Timetables.{Tables}
use Rattle.rule_table.specs.declared.key.EntityKey.{EntityKey}
use Rattle.history_rules.specs.HeldPeaks.{HeldPeaks, peak_of}
use Rattle.rule_history.specs.Standing.{Spot, Standing}
use Rattle.rule_history.specs.Changed.{bounded, paired, tested, with}
use Rattle.rule_history.specs.Findings.{findings}
use Rattle.rule_history.specs.Peaks.{FeedPeaks}
use Rattle.rule_history.specs.History.{Snapshot, below, feed_limit, feed_limit-is, now}
use Rattle.engine_laws.specs.Delta.{Delta, IsChange, IsDelta, bounded_held, paired_held, peaked_held, tested_held}
use Rattle.engine_laws.specs.HeldFeeds.{HeldFeed, IsJoined, IsNext, feed_list, held_after, joined, no_feed}
use Rattle.engine_laws.specs.Standings.{Held, Matches, StandsFor, renewed}
use Rattle.engine_laws.proofs.Lists.{below-same}
use Rattle.engine_laws.proofs.Proved.{counts_are_held, next_changes, next_matches, next_numbers, next_stands, nothing_stands}
use Rattle.exchanged_timetables.specs.entity_index.Held.{HeldEntities, held_at, nothing}
use Rattle.exchanged_timetables.specs.cached_laws.State.{HeldHeader, State, IsState, feed_of, header_at, snapshot_with, whole_of}
use Rattle.exchanged_timetables.specs.held_feeds.Entities.{entities_after, entities_held, entities_said}
use Rattle.exchanged_timetables.specs.Exchange.{IsExchanged}
use Rattle.exchanged_timetables.specs.Retabled.{IsRetabled}
use Rattle.exchanged_timetables.proofs.History.{exchange_retables}
use Rattle.follow_engine.specs.Engines.{lasts_of}
use Rattle.follow_engine.specs.Followed.{tests_of, tests_owed}

-- ---- one element of each number
module _ {A : Type 0} (part : ℕ → A) (d : A) where
  abbrev ones : ℕ → List A
  ones n = below (λ f. part f ∷ []) n

  length-ones : (n : ℕ) → length (ones n) ≡ n
  length-ones zero = refl
  length-ones (suc n) = length-append (ones n) (part n ∷ []) ∙ ap (λ m. m + 1) (length-ones n) ∙ next n
    where
      next : (n : ℕ) → n + 1 ≡ suc n
      next n = omega arith

  pub one_at : (n f : ℕ) → f < n → get_or (ones n) f d ≡ part f
  one_at zero f l = absurd (omega (arith, l))
  one_at (suc n) f l = elim (nat_le n f) as (λ b. nat_le n f ≡ b → get_or (ones n ++ part n ∷ []) f d ≡ part f) [
    | true ↦ λ h. last (leb-true n f h)
    | false ↦ λ h. front (one_at n f) (leb-false n f h)
  ] refl
    where
      same : (n f : ℕ) → n ≤ f → f < suc n → f ≡ n
      same n f a b = omega (arith, a, b)

      at_end : (xs : List A) (x : A) (m : ℕ) → m ≡ length xs → get_or (xs ++ x ∷ []) m d ≡ x
      at_end [] x m h = ap (λ k. get_or (x ∷ []) k d) h
      at_end (y ∷ xs) x zero h = absurd (omega (arith, h))
      at_end (y ∷ xs) x (suc m) h = at_end xs x m (less m (length xs) h)
        where
          less : (a b : ℕ) → suc a ≡ suc b → a ≡ b
          less a b e = omega (arith, e)

      in_front : (xs ys : List A) (m : ℕ) → m < length xs → get_or (xs ++ ys) m d ≡ get_or xs m d
      in_front [] ys m h = absurd (omega (arith, h))
      in_front (x ∷ xs) ys zero h = refl
      in_front (x ∷ xs) ys (suc m) h = in_front xs ys m (less m (length xs) h)
        where
          less : (a b : ℕ) → suc a < suc b → a < b
          less a b e = omega (arith, e)

      last : n ≤ f → get_or (ones n ++ part n ∷ []) f d ≡ part f
      last h = at_end (ones n) (part n) f (same n f h l ∙ sym (length-ones n)) ∙ ap part (sym (same n f h l))

      front : (f < n → get_or (ones n) f d ≡ part f) → f < n → get_or (ones n ++ part n ∷ []) f d ≡ part f
      front before h = in_front (ones n) (part n ∷ []) f (subst (λ m. f < m) (sym (length-ones n)) h) ∙ before h

  pub one_past : (n f : ℕ) → n ≤ f → get_or (ones n) f d ≡ d
  one_past n f h = get_or_past (ones n) f d (subst (λ m. m ≤ f) (sym (length-ones n)) h)

-- ---- the last snapshots
none_far : (state : State) → IsState state → (f : ℕ) → feed_limit ≤ f → (feed_of state f).last ≡ None
none_far state is f h = ap (λ o. snapshot_with f (header_at state.headers f).moment o) (is.few f (more feed_limit feed_limit-is h))
  where
    more : (m : ℕ) → m ≡ 256 → m ≤ f → 16 ≤ f
    more m e l = omega (arith, e, l)

pub last_at : (state : State) → IsState state → (f : ℕ) → get_or (lasts_of state) f None ≡ (feed_of state f).last
last_at state is f = elim (nat_le feed_limit f) as (λ b. nat_le feed_limit f ≡ b → get_or (lasts_of state) f None ≡ (feed_of state f).last) [
  | true ↦ λ h. one_past (λ g. (feed_of state g).last) None feed_limit f (leb-true feed_limit f h) ∙ sym (none_far state is f (leb-true feed_limit f h))
  | false ↦ λ h. one_at (λ g. (feed_of state g).last) None feed_limit f (leb-false feed_limit f h)
] refl

abbrev pub data_with : Option Tables → ℕ → State → Held
data_with t n state = record { table = t; applied = n; last = lasts_of state; peaks = peak_of state.peaks; list = joined (feed_of state) }

pub are_joined : (t : Option Tables) (n : ℕ) (state : State) → IsState state → IsJoined (data_with t n state) (feed_of state)
are_joined t n state is = record { last_is = last_at state is; peaks_are = λ f vehicle. refl; list_is = refl }

module _ (t : Option Tables) (n : ℕ) (s : Snapshot) (old new : State) (was : IsState old) (is : IsState new) (next : IsNext t n s (feed_of old) (feed_of new)) (x : Option Tables) (h : List Snapshot) where
  pub matches_then : Matches (data_with t n old) x h → Matches (data_with t (n + 1) new) x (with h s)
  matches_then m = next_matches (data_with t n old) (data_with t (n + 1) new) s (feed_of old) (feed_of new) was.own (are_joined t n old was) (are_joined t (n + 1) new is) refl refl next x h m

  pub numbers_then : Matches (data_with t n old) x h → joined (feed_of new) ≡ renewed (joined (feed_of old)) (length h) (findings x (with h s))
  numbers_then m = next_numbers (data_with t n old) (data_with t (n + 1) new) s (feed_of old) (feed_of new) was.own (are_joined t n old was) (are_joined t (n + 1) new is) next x h m

  pub stands_then : StandsFor (data_with t n old) x h → StandsFor (data_with t (n + 1) new) x (with h s)
  stands_then st = next_stands (data_with t n old) (data_with t (n + 1) new) s (feed_of old) (feed_of new) was.own (are_joined t n old was) (are_joined t (n + 1) new is) refl refl next x h st

  pub changes_then : (d : Delta) → IsChange n s (feed_of old) (feed_of new) d → Matches (data_with t n old) x h → IsDelta x h s (joined (feed_of new)) d
  changes_then d change m = next_changes (data_with t n old) (data_with t (n + 1) new) s (feed_of old) (feed_of new) was.own (are_joined t n old was) (are_joined t (n + 1) new is) next d change x h m

-- what is owed by what is held is what is owed after the history
module _ (t : Option Tables) (n : ℕ) (s : Snapshot) (old : State) (was : IsState old) (fits : s.feed < 16) (x : Option Tables) (h : List Snapshot) (m : Matches (data_with t n old) x h) where
  within : s.feed < feed_limit
  within = subst (λ m. s.feed < m) (sym feed_limit-is) (more s.feed fits)
    where
      more : (m : ℕ) → m < 16 → m < 256
      more m l = omega (arith, l)

  pub decodes_then : tested_held s (feed_of old) ≡ tested h s
  decodes_then = sym (counts_are_held (data_with t n old) s (feed_of old) was.own (are_joined t n old was) within x h m).tested_is

  pub tests_then : tests_owed t n s (feed_of old) ≡ tests_of x h s
  tests_then =
      let are = counts_are_held (data_with t n old) s (feed_of old) was.own (are_joined t n old was) within x h m in
      ap (λ a. 10 + (40 * a + 3 * paired_held s (feed_of old) (held_after t n s (feed_of old)) + 2 * bounded_held s (feed_of old) (held_after t n s (feed_of old)) + peaked_held s (feed_of old) (held_after t n s (feed_of old)))) (sym are.tested_is)
      ∙ ap (λ a. 10 + (40 * tested h s + 3 * a + 2 * bounded_held s (feed_of old) (held_after t n s (feed_of old)) + peaked_held s (feed_of old) (held_after t n s (feed_of old)))) (sym are.paired_is)
      ∙ ap (λ a. 10 + (40 * tested h s + 3 * paired h s + 2 * a + peaked_held s (feed_of old) (held_after t n s (feed_of old)))) (sym are.bounded_is)
      ∙ ap (λ a. 10 + (40 * tested h s + 3 * paired h s + 2 * bounded x h s + a)) (sym are.peaked_is)

-- ---- entities handed out are those of the history
pub entities_stand : (t : Option Tables) (n : ℕ) (state : State) → IsState state → (x : Option Tables) (h : List Snapshot) → Matches (data_with t n state) x h → entities_held state ≡ entities_after h
entities_stand t n state is x h m =
    below-same (λ f. entities_said (feed_of state f).last) (λ f. entities_said (now h f)) feed_limit (λ f l. ap entities_said (sym (last_at state is f) ∙ m.last_is f))

-- so are the bytes of each last snapshot
bytes_with : (f m : ℕ) (o : Option (List ℕ)) → option_map (λ s. s.bytes) (snapshot_with f m o) ≡ o
bytes_with f m None = refl
bytes_with f m (Some b) = refl

pub bytes_stand : (t : Option Tables) (n : ℕ) (state : State) → IsState state → (x : Option Tables) (h : List Snapshot) → Matches (data_with t n state) x h → (f : ℕ) → (held_at state.index f).bytes ≡ option_map (λ s. s.bytes) (now h f)
bytes_stand t n state is x h m f =
    sym (bytes_with f (header_at state.headers f).moment (held_at state.index f).bytes) ∙ ap (λ (o : Option Snapshot). option_map (λ s. s.bytes) o) (sym (last_at state is f) ∙ m.last_is f)

-- ---- nothing is held at first
pub nothing_at : (index : List HeldEntities) (headers : List HeldHeader) (peaks : HeldPeaks) → ((f : ℕ) → held_at index f ≡ nothing) → headers ≡ [] → ((f : ℕ) (vehicle : List ℕ) → peak_of peaks f vehicle ≡ None) → (f : ℕ) →
    feed_of (record { index = index; headers = headers; peaks = peaks }) f ≡ no_feed
nothing_at index headers peaks none empty nowhere f =
    ap (λ (hs : List HeldHeader). feed_of (record { index = index; headers = hs; peaks = peaks }) f) empty
    ∙ ap (λ (x : HeldEntities). let y : HeldFeed = record { last = snapshot_with f 0 x.bytes; header = []; entities = map {B = EntityKey × List Standing} (λ c. (c.0, whole_of c.1)) x.parts; peaks = peak_of peaks f } in y) (none f)
    ∙ ap (λ (p : FeedPeaks). let y : HeldFeed = record { last = None; header = []; entities = []; peaks = p } in y) (fun_ext (nowhere f))

module _ (state : State) (none : (f : ℕ) → feed_of state f ≡ no_feed) (is : IsState state) where
  no_lists : (n : ℕ) → below (λ f. feed_list (feed_of state f)) n ≡ []
  no_lists zero = refl
  no_lists (suc n) = ap (λ xs. xs ++ feed_list (feed_of state n)) (no_lists n) ∙ ap (λ (x : HeldFeed). feed_list x) (none n)

  pub nothing_then : (t : Option Tables) → StandsFor (data_with t 0 state) t []
  nothing_then t = nothing_stands (data_with t 0 state) refl (λ f. last_at state is f ∙ ap (λ (x : HeldFeed). x.last) (none f)) (λ f vehicle. ap (λ (x : HeldFeed). x.peaks vehicle) (none f)) (no_lists feed_limit)

-- ---- another timetable
pub retabled_then : (t u : Option Tables) (n : ℕ) (old new : State) (opens : List Standing) (closes : List Spot) → IsExchanged u (n - 1) old new opens closes →
    (x : Option Tables) (h : List Snapshot) → Matches (data_with t n old) x h → IsRetabled x u h (data_with t n old) (data_with u n new) opens closes
retabled_then t u n old new opens closes is x h m =
    exchange_retables (data_with t n old) (data_with u n new) (feed_of old) (feed_of new) is.was.own (are_joined t n old is.was) (are_joined u n new is.is) refl is.exchange opens closes is.opens_are is.closes_are x h m
