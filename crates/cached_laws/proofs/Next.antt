-- What is held once a snapshot was judged is what is owed for it.
use Rattle.std.specs.Prelude.{◌≡◌, ℕ, ◌<◌, ◌≤◌, ◌==◌, true, false, List, [], map, Option, Some, None, option_map, unwrap_or, IfSome, refl}
use Rattle.std.proofs.Common.{sym, ap, ◌∙◌, subst, arith}
use Rattle.std.proofs.Math.Path.{fun_ext}
use borrow.Author.Tests.{eqb-true}
use Rattle.feed_values.specs.Snapshot.{entity_of}
use Rattle.timetable.specs.Timetables.{Tables}
use Rattle.rule_table.specs.declared.key.EntityKey.{EntityKey}
use Rattle.rule_table.specs.Found.{Found}
use Rattle.rule_table.specs.Groups.{Each}
use Rattle.rule_table.specs.GroupLaws.{each_weaken}
use Rattle.rule_table.specs.Pairs.{PairRow}
use Rattle.rule_table.specs.Peaks.{PeakMap}
use Rattle.rule_history.specs.History.{Keyed, Snapshot, IsTaken, entities_in, entities_of_snapshot, feed_limit, feed_limit-is}
use Rattle.rule_history.specs.Answered.{payload_under, rows_in}
use Rattle.rule_history.specs.Standing.{Standing}
use Rattle.history_rules.specs.HeldPeaks.{peak_of}
use Rattle.pairing_rules.specs.ByKind.{AreAlike}
use Rattle.engine_laws.specs.HeldFeeds.{AreApart, HeldFeed, IsLastOf, IsNext, KeyedLists, entities_found, entity_found, head_found, gathered_held, list_under, renewed_lists, rows_held}
use Rattle.engine_laws.specs.Standings.{renewed}
use Rattle.engine_laws.proofs.Ascending.{head_ascends}
use Rattle.engine_laws.proofs.Lists.{below-same, map-same}
use Rattle.engine_laws.proofs.Next.{gathered_same}
use Rattle.engine_laws.proofs.Proved.{next_is_own}
use Rattle.engine_laws.proofs.Sorted.{apart_rising, entities_rise}
use Rattle.row_changes.proofs.Feeds.{of-feed}
use Rattle.touched_entities.specs.standing_walks.Merged.{merged_four}
use Rattle.touched_entities.specs.standing_walks.Walked.{IsInOrder}
use Rattle.touched_entities.specs.standing_walks.WalkedProofs.{renewed_rises}
use Rattle.touched_entities.specs.entity_index.Held.{HeldEntities, at_key, entities_before, held_at, parts_at}
use Rattle.touched_entities.specs.entity_index.Lists.{Lists, no_lists}
use Rattle.touched_entities.specs.entity_index.AtKeyProofs.{at-mapped}
use Rattle.touched_entities.specs.entity_parts.Found.{local_found, paired_found, peaked_found}
use Rattle.touched_entities.specs.entity_parts.WholeProofs.{parts_are_the_whole}
use Rattle.touched_entities.specs.Again as again
use Rattle.touched_entities.specs.Again.{FindPart, found_in, found_under, lists_at, lists_under, payload_at}
use Rattle.touched_entities.specs.Exchanged.{IsExchanged}
use Rattle.touched_entities.specs.Told.{FeedTold}
use Rattle.cached_laws.specs.State.{HeldHeader, State, IsState, feed_of, header_at, snapshot_with, whole_of}
use Rattle.cached_laws.specs.Cached.{AreCached, bounded_by, bounded_in, peaked_in}
use Rattle.cached_laws.specs.Keys.{AreTouched, lasts_then}
use Rattle.cached_laws.specs.Judged.{AreJudged, IsTakenIn}
use Rattle.cached_laws.proofs.Entries.{lists_are, map-map}
use Rattle.cached_laws.proofs.Parts.{bounded_is, local_is, paired_is, peaked_is}
use Rattle.cached_laws.proofs.Placed.{last_far, last_here}
use Rattle.cached_laws.proofs.Step.{cached_then, lists_last, lists_now, payload_last}

-- the list of an entity among those of its feed is the whole of its four
pub under_is : (state : State) (k : EntityKey) (f : ℕ) → k.feed ≡ f → list_under k (feed_of state f).entities ≡ whole_of (lists_under state.index k)
under_is state k f h =
    ap (λ (o : Option (List Standing)). unwrap_or o []) (at-mapped (λ q l. whole_of l) (held_at state.index f).parts k)
    ∙ go (parts_at k (held_at state.index f).parts)
    ∙ ap (λ g. whole_of (unwrap_or (parts_at k (held_at state.index g).parts) no_lists)) (sym h)
  where
    go : (o : Option Lists) → unwrap_or (option_map (λ l. whole_of l) o) [] ≡ whole_of (unwrap_or o no_lists)
    go None = refl
    go (Some l) = refl

keys_apart : (o : Option Snapshot) → AreApart (entities_of_snapshot o)
keys_apart None = tt
keys_apart (Some s) = apart_rising (entities_in s.feed s.bytes) (entities_rise s.feed s.bytes)

module _ (t : Option Tables) (n : ℕ) (state : State) (s : Snapshot) (is : IsState state) (taken : IsTaken s) (fits : s.feed < 16) (cached : AreCached t state.index (feed_of state))
    (rows : List PairRow) (alike : AreAlike rows (rows_held (lasts_then s (feed_of state)))) (local paired bounded peaked : List EntityKey) (touched : AreTouched state s local paired bounded peaked)
    (mid : State) (into : IsTakenIn n s state mid) (last : List HeldEntities) (before after : List FeedTold) (judged : AreJudged t n s rows (peak_of mid.peaks) local paired bounded peaked mid.index last before after) where
  abbrev old : List HeldEntities
  old = state.index

  abbrev feeds : ℕ → HeldFeed
  feeds = feed_of state

  abbrev later : ℕ → HeldFeed
  later = lasts_then s (feed_of state)

  -- what is held then
  abbrev pub next : State
  next = record { index = last; headers = mid.headers; peaks = mid.peaks }

  abbrev placed : IsExchanged s.feed s.bytes state.index mid.index
  placed = into.entities_are

  abbrev now_lists : EntityKey → List ℕ → Lists
  now_lists = lists_now t n state s is taken fits cached rows alike (peak_of mid.peaks) into.peaks_are local paired bounded peaked touched mid.index last placed before after judged

  -- ---- the last snapshots
  bytes_last : (f : ℕ) → (held_at last f).bytes ≡ (held_at mid.index f).bytes
  bytes_last f = judged.peaked_is.feeds_are.bytes_are f ∙ judged.bounded_is.feeds_are.bytes_are f ∙ judged.paired_is.feeds_are.bytes_are f ∙ judged.local_is.feeds_are.bytes_are f

  keys_last : (f : ℕ) → map (λ c. c.0) (held_at last f).parts ≡ map (λ c. c.0) (held_at mid.index f).parts
  keys_last f = judged.peaked_is.feeds_are.keys_are f ∙ judged.bounded_is.feeds_are.keys_are f ∙ judged.paired_is.feeds_are.keys_are f ∙ judged.local_is.feeds_are.keys_are f

  abbrev here_at : ℕ → Type 0 → Type 0
  here_at f P = (s.feed ≡ f → P) → ((s.feed == f) ≡ false → P) → P

  by_number : {P : Type 0} (f : ℕ) → here_at f P
  by_number {P} f here far = elim (s.feed == f) as (λ b. (s.feed == f) ≡ b → P) [ true ↦ λ h. here (eqb-true s.feed f h) | false ↦ far ] refl

  pub last_is : (f : ℕ) → (feed_of next f).last ≡ (later f).last
  last_is f = by_number f
      (λ h. ap (λ o. snapshot_with f (header_at mid.headers f).moment o) (bytes_last f)
      ∙ subst (λ g. snapshot_with g (header_at mid.headers g).moment (held_at mid.index g).bytes ≡ Some s) h
      (ap (λ (x : HeldHeader). snapshot_with s.feed x.moment (held_at mid.index s.feed).bytes) into.header_is ∙ ap (λ o. snapshot_with s.feed s.moment o) placed.bytes_are)
      ∙ sym (last_here state s is mid.index placed f h))
      (λ h. ap (λ o. snapshot_with f (header_at mid.headers f).moment o) (bytes_last f)
      ∙ ap (λ (x : HeldHeader). snapshot_with f x.moment (held_at mid.index f).bytes) (into.others_stay f h)
      ∙ ap (λ (x : HeldEntities). snapshot_with f (header_at state.headers f).moment x.bytes) (placed.others_are f h)
      ∙ sym (last_far state s is mid.index placed f h))

  pub rows_are : rows_held (feed_of next) ≡ rows_held later
  rows_are = below-same (λ f. rows_in (entities_of_snapshot (feed_of next f).last)) (λ f. rows_in (entities_of_snapshot (later f).last)) feed_limit (λ f l. ap (λ o. rows_in (entities_of_snapshot o)) (last_is f))

  peaks_are : (f : ℕ) → (feed_of next f).peaks ≡ (later f).peaks
  peaks_are f = fun_ext (λ vehicle. into.peaks_are f vehicle)

  gathered_are : gathered_held (feed_of next) ≡ gathered_held later
  gathered_are = gathered_same rows_are (fun_ext peaks_are)

  -- ---- the entities
  snapshot_entities : (f m : ℕ) (o : Option (List ℕ)) → entities_of_snapshot (snapshot_with f m o) ≡ entities_before f o
  snapshot_entities f m None = refl
  snapshot_entities f m (Some b) = refl

  -- the keys of what is held are those of the last snapshot
  keys_then : (f : ℕ) → map (λ c. c.0) (held_at last f).parts ≡ map (λ e. e.0) (entities_before f (held_at last f).bytes)
  keys_then f = by_number f
      (λ h. keys_last f ∙ subst (λ g. map (λ c. c.0) (held_at mid.index g).parts ≡ map (λ e. e.0) (entities_before g (held_at mid.index g).bytes)) h
      (placed.keys_are ∙ ap (λ o. map (λ (e : Keyed). e.0) (entities_before s.feed o)) (sym placed.bytes_are)) ∙ ap (λ o. map (λ (e : Keyed). e.0) (entities_before f o)) (sym (bytes_last f)))
      (λ h. keys_last f ∙ ap (λ (x : HeldEntities). map (λ (c : EntityKey × Lists). c.0) x.parts) (placed.others_are f h) ∙ is.keys_are f
      ∙ ap (λ (x : HeldEntities). map (λ (e : Keyed). e.0) (entities_before f x.bytes)) (sym (placed.others_are f h)) ∙ ap (λ o. map (λ (e : Keyed). e.0) (entities_before f o)) (sym (bytes_last f)))

  abbrev there : ℕ → List Keyed
  there f = entities_before f (held_at last f).bytes

  there_is : (f : ℕ) → there f ≡ entities_of_snapshot (later f).last
  there_is f = sym (snapshot_entities f (header_at mid.headers f).moment (held_at last f).bytes) ∙ ap entities_of_snapshot (last_is f)

  last_of : (f : ℕ) → IsLastOf f (feed_of next f).last
  last_of f = go (header_at mid.headers f).moment (held_at last f).bytes
    where
      go : (m : ℕ) (o : Option (List ℕ)) → IsLastOf f (snapshot_with f m o)
      go m None = tt
      go m (Some b) = refl

  there_feed : (f : ℕ) → Each (λ e. e.0.feed ≡ f) (there f)
  there_feed f = subst (λ (es : List Keyed). Each (λ e. e.0.feed ≡ f) es) (snapshot_entities f (header_at mid.headers f).moment (held_at last f).bytes) (of-feed f (feed_of next f).last (last_of f))

  there_apart : (f : ℕ) → AreApart (there f)
  there_apart f = subst (λ (es : List Keyed). AreApart es) (snapshot_entities f (header_at mid.headers f).moment (held_at last f).bytes) (keys_apart (feed_of next f).last)

  -- each entity has the lists of now
  parts_then : (f : ℕ) → (held_at last f).parts ≡ map {B = EntityKey × Lists} (λ e. (e.0, now_lists e.0 e.1)) (there f)
  parts_then f = lists_are f now_lists (held_at last f).parts (there f) (keys_then f) (there_apart f) (there_feed f) one
    where
      one : (k : EntityKey) → k.feed ≡ f → at_key k (held_at last f).parts ≡ option_map (now_lists k) (payload_under k (there f))
      one k h =
          ap (λ g. at_key k (held_at last g).parts) (sym h)
          ∙ lists_last t n state s is taken fits cached rows alike (peak_of mid.peaks) into.peaks_are local paired bounded peaked touched mid.index last placed before after judged k
          ∙ ap (option_map (now_lists k)) (sym (payload_last t n state s is taken fits cached rows alike (peak_of mid.peaks) into.peaks_are local paired bounded peaked touched mid.index last placed before after judged k))
          ∙ ap (λ g. option_map (now_lists k) (payload_under k (entities_before g (held_at last g).bytes))) h

  -- the whole of them is the whole renewed
  whole_now : (f : ℕ) (x : Snapshot) → (later f).last ≡ Some x → (e : Keyed) → e.0.feed ≡ f → whole_of (now_lists e.0 e.1) ≡ renewed (list_under e.0 (feeds f).entities) n (entity_found t (gathered_held later) x e)
  whole_now f x h e q =
      ap (λ (o : Option Snapshot). merged_four l0 l1 (renewed (old_list 2) n (bounded_by o e.0 (entity_of e.1))) l3) (ap (λ g. (later g).last) q ∙ h)
      ∙ parts_are_the_whole t (gathered_held later) x e.0 e.1 n (old_list 0) (old_list 1) (old_list 2) (old_list 3)
      (local_is t old feeds cached e.0).stand (paired_is t old feeds cached e.0).stand (bounded_is t old feeds cached e.0).stand (peaked_is t old feeds cached e.0).stand
      ∙ ap (λ ys. renewed ys n (entity_found t (gathered_held later) x e)) (sym (under_is state e.0 f q))
    where
      old_list : ℕ → List Standing
      old_list part = again.list_under old e.0 part

      l0 : List Standing
      l0 = renewed (old_list 0) n (local_found t e.0 (entity_of e.1))

      l1 : List Standing
      l1 = renewed (old_list 1) n (paired_found (rows_held later) e.0 (entity_of e.1))

      l3 : List Standing
      l3 = renewed (old_list 3) n (peaked_in later e.0 (entity_of e.1))

  entities_then : (f : ℕ) → (feed_of next f).entities ≡ renewed_lists (feeds f).entities n (entities_found t (gathered_held later) (later f).last)
  entities_then f =
      ap (map {B = EntityKey × List Standing} (λ c. (c.0, whole_of c.1))) (parts_then f)
      ∙ map-map (λ (e : Keyed). let d : EntityKey × Lists = (e.0, now_lists e.0 e.1) in d) (λ (c : EntityKey × Lists). let d : EntityKey × List Standing = (c.0, whole_of c.1) in d) (there f)
      ∙ go (later f).last refl (there f) (there_is f)
    where
      mapped : List Keyed → KeyedLists
      mapped es = map {B = EntityKey × List Standing} (λ e. (e.0, whole_of (now_lists e.0 e.1))) es

      go : (o : Option Snapshot) → (later f).last ≡ o → (es : List Keyed) → es ≡ entities_of_snapshot o → mapped es ≡ renewed_lists (feeds f).entities n (entities_found t (gathered_held later) o)
      go None h es q = ap mapped q
      go (Some x) h es q =
          ap mapped q
          ∙ map-same (λ (e : Keyed). let d : EntityKey × List Standing = (e.0, whole_of (now_lists e.0 e.1)) in d) (λ (e : Keyed). let d : EntityKey × List Standing = (e.0, renewed (list_under e.0 (feeds f).entities) n (entity_found t (gathered_held later) x e)) in d) (entities_in x.feed x.bytes)
          (each_weaken (λ (e : Keyed). e.0.feed ≡ f) _ (λ e m. ap (λ (xs : List Standing). let d : EntityKey × List Standing = (e.0, xs) in d) (whole_now f x h e m)) (entities_in x.feed x.bytes) (subst (λ (ds : List Keyed). Each (λ e. e.0.feed ≡ f) ds) (there_is f ∙ ap entities_of_snapshot h) (there_feed f)))
          ∙ sym (map-map (λ (e : Keyed). let d : EntityKey × List Found = (e.0, entity_found t (gathered_held later) x e) in d) (λ (c : EntityKey × List Found). let d : EntityKey × List Standing = (c.0, renewed (list_under c.0 (feeds f).entities) n c.1) in d) (entities_in x.feed x.bytes))

  -- ---- what is owed
  pub is_next : IsNext t n s feeds (feed_of next)
  is_next = record {
    feed = subst (λ m. s.feed < m) (sym feed_limit-is) (more s.feed fits);
    last = last_is;
    header = ap (λ (x : HeldHeader). x.list) into.header_is;
    headers_stay = λ f h. ap (λ (x : HeldHeader). x.list) (into.others_stay f h);
    peaks = into.peaks_are;
    entities = λ f.
        entities_then f
        ∙ ap (λ u. renewed_lists (feeds f).entities n (entities_found t u (later f).last)) (sym gathered_are)
        ∙ ap (λ o. renewed_lists (feeds f).entities n (entities_found t (gathered_held (feed_of next)) o)) (sym (last_is f));
  }
    where
      more : (m : ℕ) → m < 16 → m < 256
      more m l = omega arith

  pub is_state : IsState next
  is_state = record {
    keys_are = keys_then;
    few = λ f l. by_number f
        (λ h. absurd (beyond f (subst (λ m. m < 16) h fits) l))
        (λ h. bytes_last f ∙ ap (λ (x : HeldEntities). x.bytes) (placed.others_are f h) ∙ is.few f l);
    taken = λ f. subst (λ o. IfSome o IsTaken) (sym (last_is f)) (by_number f
        (λ h. subst (λ o. IfSome o IsTaken) (sym (last_here state s is mid.index placed f h)) taken)
        (λ h. subst (λ o. IfSome o IsTaken) (sym (last_far state s is mid.index placed f h)) (is.taken f)));
    own = next_is_own t n s feeds (feed_of next) is.own is_next;
    ordered = λ f. by_number f
        (λ h. subst (λ g. IsInOrder (header_at mid.headers g).list) h
        (subst (λ (x : HeldHeader). IsInOrder x.list) (sym into.header_is) (renewed_rises (header_at state.headers s.feed).list n (head_found s (feeds s.feed).last) (head_ascends s (feeds s.feed).last))))
        (λ h. subst (λ (x : HeldHeader). IsInOrder x.list) (sym (into.others_stay f h)) (is.ordered f));
  }
    where
      beyond : (f : ℕ) → f < 16 → 16 ≤ f → ⊥
      beyond f a b = omega (arith, a, b)

  pub is_cached : AreCached t last (feed_of next)
  is_cached =
      let then_cached : AreCached t last later = cached_then t n state s is taken fits cached rows alike (peak_of mid.peaks) into.peaks_are local paired bounded peaked touched mid.index last placed before after judged in
      record {
        local_are = then_cached.local_are;
        paired_are = λ k. then_cached.paired_are k ∙ ap (λ u. found_under (paired_found u) last k) (sym rows_are);
        bounded_are = λ k. then_cached.bounded_are k ∙ moved k (payload_at last k);
        peaked_are = λ k. then_cached.peaked_are k ∙ ap (λ (u : PeakMap). found_under (peaked_found u) last k) (sym (fun_ext peaks_are));
      }
    where
      moved : (k : EntityKey) (o : Option (List ℕ)) → found_in (bounded_in later) k o ≡ found_in (bounded_in (feed_of next)) k o
      moved k None = refl
      moved k (Some p) = ap (λ x. bounded_by x k (entity_of p)) (sym (last_is k.feed))
