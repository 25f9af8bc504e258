-- What was told at all places is what the snapshot opened and closed, and the keys are as many as its counts.
use Rattle.std.specs.Prelude.{◌≡◌, ℕ, ◌<◌, ◌==◌, ◌&&◌, ◌||◌, true, false, List, map, length, Option, if◌then◌else◌, refl}
use Rattle.std.specs.List.{flat_map}
use Rattle.std.proofs.Common.{sym, ap, ◌∙◌, subst}
use borrow.Author.Tests.{eqb-true}
use Rattle.feed_values.specs.Snapshot.{entity_of, entity_payloads}
use Rattle.timetable.specs.Timetables.{Tables}
use Rattle.rule_table.specs.declared.key.EntityKey.{EntityKey}
use Rattle.rule_table.specs.Groups.{Each}
use Rattle.rule_table.specs.Order.{key_cmp}
use Rattle.rule_table.specs.Pairs.{PairRow, rows_of}
use Rattle.rule_table.specs.Rises.{Rises}
use Rattle.rule_history.specs.Changed.{count_of, is_paired}
use Rattle.rule_history.specs.History.{Snapshot, IsTaken, entities_in, entities_of_snapshot, below, feed_limit}
use Rattle.history_rules.specs.HeldPeaks.{peak_of}
use Rattle.pairing_rules.specs.ByKind.{AreAlike}
use Rattle.engine_laws.specs.Delta.{Delta, IsChange, bounded_held, is_limited, is_moved, is_new, paired_held, peaked_held}
use Rattle.engine_laws.specs.HeldFeeds.{HeldFeed, closed_in, held_after, opened_in, rows_held}
use Rattle.engine_laws.proofs.Lists.{below-same}
use Rattle.engine_laws.proofs.Proved.{next_is_computed}
use Rattle.touched_entities.specs.entity_index.Held.{HeldEntities}
use Rattle.touched_entities.specs.Again.{lists_under}
use Rattle.touched_entities.specs.Told.{AreTolds, FeedTold, feed_closed, feed_opened, header_told, no_told, plus, told_at, told_between, told_parts}
use Rattle.cached_laws.specs.State.{HeldHeader, State, IsState, feed_of, header_at}
use Rattle.cached_laws.specs.Cached.{AreCached}
use Rattle.cached_laws.specs.Keys.{AreTouched, lasts_then}
use Rattle.cached_laws.specs.Judged.{AreFirstTold, AreJudged, IsTakenIn, header_then}
use Rattle.cached_laws.proofs.Counts.{bounded_size, paired_size, peaked_size, tested_size}
use Rattle.cached_laws.proofs.Next.{is_cached, is_next, is_state, next, rows_are}
use Rattle.cached_laws.proofs.Renewed.{told_none}
use Rattle.cached_laws.proofs.Told.{told_is}
use Rattle.cached_laws.proofs.Between as between

module _ (t : Option Tables) (n : ℕ) (state : State) (s : Snapshot) (is : IsState state) (taken : IsTaken s) (fits : s.feed < 16) (cached : AreCached t state.index (feed_of state))
    (rows : List PairRow) (alike : AreAlike rows (rows_held (lasts_then s (feed_of state)))) (local paired bounded peaked : List EntityKey) (touched : AreTouched state s local paired bounded peaked)
    (mid : State) (into : IsTakenIn n s state mid) (last : List HeldEntities) (before after : List FeedTold) (judged : AreJudged t n s rows (peak_of mid.peaks) local paired bounded peaked mid.index last before after)
    (told : AreFirstTold n s state before) (ordered : Each (λ x. Rises key_cmp (map (λ e. e.0) x.entities)) after) where
  abbrev feeds : ℕ → HeldFeed
  feeds = feed_of state

  abbrev next_state : State
  next_state = next t n state s is taken fits cached rows alike local paired bounded peaked touched mid into last before after judged

  abbrev next_feeds : ℕ → HeldFeed
  next_feeds = feed_of next_state

  state_next : IsState next_state
  state_next = is_state t n state s is taken fits cached rows alike local paired bounded peaked touched mid into last before after judged

  cached_next : AreCached t last next_feeds
  cached_next = is_cached t n state s is taken fits cached rows alike local paired bounded peaked touched mid into last before after judged

  tolds_are : AreTolds after
  tolds_are = judged.peaked_is.tolds_are (judged.bounded_is.tolds_are (judged.paired_is.tolds_are (judged.local_is.tolds_are told.tolds_are)))

  told_then : (k : EntityKey) → told_at after k ≡ told_parts (lists_under state.index k) (lists_under last k)
  told_then k = told_is t n state s is taken fits cached rows alike (peak_of mid.peaks) into.peaks_are local paired bounded peaked touched mid.index last into.entities_are before after judged told k

  -- ---- on headers
  header_after : (g : ℕ) → header_told after g ≡ (if s.feed == g then plus no_told (told_between (header_at state.headers s.feed).list (header_then n s state)) else no_told)
  header_after g = judged.peaked_is.headers_are g ∙ judged.bounded_is.headers_are g ∙ judged.paired_is.headers_are g ∙ judged.local_is.headers_are g ∙ told.headers_are g

  told_header : (g : ℕ) → header_told after g ≡ told_between (feeds g).header (next_feeds g).header
  told_header g = header_after g ∙ elim (s.feed == g) as (λ b. (s.feed == g) ≡ b → (if b then plus no_told (told_between (header_at state.headers s.feed).list (header_then n s state)) else no_told) ≡ told_between (feeds g).header (next_feeds g).header) [
    | true ↦ λ h. subst (λ f. told_between (header_at state.headers s.feed).list (header_then n s state) ≡ told_between (feeds f).header (next_feeds f).header) (eqb-true s.feed g h)
        (ap (told_between (header_at state.headers s.feed).list) (sym (ap (λ (x : HeldHeader). x.list) into.header_is)))
    | false ↦ λ h. sym (ap (told_between (feeds g).header) (ap (λ (x : HeldHeader). x.list) (into.others_stay g h)) ∙ told_none (feeds g).header)
  ] refl

  -- ---- what was told
  opened_all : flat_map feed_opened after ≡ below (λ g. opened_in (feeds g) (next_feeds g)) feed_limit
  opened_all = between.opened_all t t state next_state is state_next cached cached_next after tolds_are ordered told_then told_header

  closed_all : flat_map feed_closed after ≡ below (λ g. closed_in (feeds g) (next_feeds g)) feed_limit
  closed_all = between.closed_all t t state next_state is state_next cached cached_next after tolds_are ordered told_then told_header

  -- ---- the counts
  owed : (f : ℕ) → next_feeds f ≡ held_after t n s feeds f
  owed = next_is_computed.is_only t n s feeds next_feeds (is_next t n state s is taken fits cached rows alike local paired bounded peaked touched mid into last before after judged)

  rows_owed : rows_held next_feeds ≡ rows_held (held_after t n s feeds)
  rows_owed = rows_are t n state s is taken fits cached rows alike local paired bounded peaked touched mid into last before after judged

  paired_then : paired_held s feeds (held_after t n s feeds) ≡ paired_held s feeds next_feeds
  paired_then =
      ap (λ u. count_of (λ e. (e.0.feed == s.feed && is_new (feeds s.feed) e) || is_paired (rows_held feeds) u (rows_of e.0 (entity_of e.1))) (below (λ f. entities_of_snapshot (held_after t n s feeds f).last) feed_limit)) (sym rows_owed)
      ∙ ap (count_of (λ e. (e.0.feed == s.feed && is_new (feeds s.feed) e) || is_paired (rows_held feeds) (rows_held next_feeds) (rows_of e.0 (entity_of e.1))))
      (below-same (λ f. entities_of_snapshot (held_after t n s feeds f).last) (λ f. entities_of_snapshot (next_feeds f).last) feed_limit (λ f l. ap (λ (x : HeldFeed). entities_of_snapshot x.last) (sym (owed f))))

  bounded_then : bounded_held s feeds (held_after t n s feeds) ≡ bounded_held s feeds next_feeds
  bounded_then = ap (λ (x : HeldFeed). count_of (λ e. is_new (feeds s.feed) e || is_limited s (feeds s.feed) x e) (entities_in s.feed s.bytes)) (sym (owed s.feed))

  peaked_then : peaked_held s feeds (held_after t n s feeds) ≡ peaked_held s feeds next_feeds
  peaked_then = ap (λ (x : HeldFeed). count_of (λ e. is_new (feeds s.feed) e || is_moved (feeds s.feed) x e) (entities_in s.feed s.bytes)) (sym (owed s.feed))

  pub is_change : (d : Delta) → d.snapshot ≡ n → d.entities ≡ length (entity_payloads s.bytes) → d.opened ≡ flat_map feed_opened after → d.closed ≡ flat_map feed_closed after →
      d.tested ≡ length local → d.paired ≡ length paired → d.bounded ≡ length bounded → d.peaked ≡ length peaked → IsChange n s feeds next_feeds d
  is_change d a b c e x y z w = record {
    snapshot_is = a;
    entities_is = b;
    opened_is = c ∙ opened_all;
    closed_is = e ∙ closed_all;
    tested_is = x ∙ tested_size state s is fits local touched.local_are;
    paired_is = y ∙ paired_size state s is fits paired touched.paired_are t n ∙ paired_then;
    bounded_is = z ∙ bounded_size state s is fits taken t n cached bounded touched.bounded_are ∙ bounded_then;
    peaked_is = w ∙ peaked_size state s is fits taken peaked touched.peaked_are t n ∙ peaked_then;
  }
