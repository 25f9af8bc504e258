-- What is held once entities were judged again with another timetable is what is owed for it.
use Rattle.std.specs.Prelude.{◌≡◌, ℕ, List, map, Option, Some, None, option_map, IfSome, false, refl}
use Rattle.std.proofs.Common.{sym, ap, ◌∙◌, subst}
use Rattle.feed_values.specs.Snapshot.{entity_of}
use Rattle.timetable.specs.Timetables.{Tables}
use Rattle.rule_table.specs.declared.key.EntityKey.{EntityKey}
use Rattle.rule_table.specs.Found.{Found}
use Rattle.rule_table.specs.Groups.{Each}
use Rattle.rule_table.specs.GroupLaws.{each_weaken}
use Rattle.rule_history.specs.Answered.{payload_under}
use Rattle.rule_history.specs.History.{IsTaken, Keyed, Snapshot}
use Rattle.rule_history.specs.Standing.{Standing}
use Rattle.engine_laws.specs.HeldFeeds.{AreApart, HeldFeed, KeyedLists, entities_found, entity_found, gathered_held, list_under, renewed_lists, rows_held}
use Rattle.engine_laws.specs.Standings.{renewed}
use Rattle.engine_laws.proofs.Lists.{map-same}
use Rattle.engine_laws.proofs.Next.{gathered_same}
use Rattle.engine_laws.proofs.Sorted.{entities_feed}
use Rattle.taken_snapshots.specs.cached_laws.part_laws.Touched.{is_among}
use Rattle.taken_snapshots.specs.cached_laws.State.{State, IsState, feed_of, header_at, snapshot_with, whole_of}
use Rattle.taken_snapshots.specs.cached_laws.Cached.{AreCached, bounded_by, bounded_in, peaked_in}
use Rattle.taken_snapshots.specs.cached_laws.EntriesProofs.{lists_are, map-map}
use Rattle.taken_snapshots.specs.cached_laws.GoneProofs.{apart_before, feed_before}
use Rattle.taken_snapshots.specs.cached_laws.NextProofs.{under_is}
use Rattle.taken_snapshots.specs.cached_laws.PartsProofs.{bounded_is, local_is, paired_is, peaked_is}
use Rattle.taken_snapshots.specs.entity_index.Held.{HeldEntities, at_key, entities_before, held_at}
use Rattle.taken_snapshots.specs.entity_index.Lists.{Lists}
use Rattle.taken_snapshots.specs.entity_parts.Found.{local_found, paired_found}
use Rattle.taken_snapshots.specs.entity_parts.WholeProofs.{parts_are_the_whole}
use Rattle.taken_snapshots.specs.standing_walks.Merged.{merged_four}
use Rattle.taken_snapshots.specs.touched_entities.Again as again
use Rattle.taken_snapshots.specs.touched_entities.Again.{IsPassed, found_under}
use Rattle.taken_snapshots.specs.touched_entities.Told.{FeedTold}
use Rattle.exchanged_timetables.specs.Exchange.{IsExchange}
use Rattle.exchanged_timetables.proofs.Held.{last_new, lists_last, lists_now, retabled, rows_new}
use Rattle.exchanged_timetables.proofs.History.{exchange_own}

module _ (t u : Option Tables) (n : ℕ) (keys : List EntityKey) (state : State) (is : IsState state) (cached : AreCached t state.index (feed_of state))
    (beside : (k : EntityKey) → is_among keys k ≡ false → found_under (local_found t) state.index k ≡ found_under (local_found u) state.index k)
    (last : List HeldEntities) (before after : List FeedTold) (passed : IsPassed 0 n (local_found u) keys state.index last before after) where
  abbrev old : List HeldEntities
  old = state.index

  abbrev feeds : ℕ → HeldFeed
  feeds = feed_of state

  abbrev next : State
  next = retabled t u n keys state is cached beside last before after passed

  abbrev now_lists : EntityKey → List ℕ → Lists
  now_lists = lists_now t u n keys state is cached beside last before after passed

  last_is : (f : ℕ) → (feed_of next f).last ≡ (feeds f).last
  last_is = last_new t u n keys state is cached beside last before after passed

  gathered_are : gathered_held (feed_of next) ≡ gathered_held feeds
  gathered_are = gathered_same (rows_new t u n keys state is cached beside last before after passed) refl

  -- ---- the entities
  abbrev there : ℕ → List Keyed
  there f = entities_before f (held_at old f).bytes

  there_feed : (f : ℕ) → Each (λ e. e.0.feed ≡ f) (there f)
  there_feed f = feed_before f (held_at old f).bytes

  there_apart : (f : ℕ) → AreApart (there f)
  there_apart f = apart_before f (held_at old f).bytes

  keys_then : (f : ℕ) → map (λ c. c.0) (held_at last f).parts ≡ map (λ e. e.0) (there f)
  keys_then f = passed.feeds_are.keys_are f ∙ is.keys_are f

  -- each entity has the lists of now
  parts_then : (f : ℕ) → (held_at last f).parts ≡ map {B = EntityKey × Lists} (λ e. (e.0, now_lists e.0 e.1)) (there f)
  parts_then f = lists_are f now_lists (held_at last f).parts (there f) (keys_then f) (there_apart f) (there_feed f) one
    where
      one : (k : EntityKey) → k.feed ≡ f → at_key k (held_at last f).parts ≡ option_map (now_lists k) (payload_under k (there f))
      one k h =
          ap (λ g. at_key k (held_at last g).parts) (sym h)
          ∙ lists_last t u n keys state is cached beside last before after passed k
          ∙ ap (λ g. option_map (now_lists k) (payload_under k (entities_before g (held_at old g).bytes))) h

  -- the whole of them is the whole renewed
  whole_now : (f : ℕ) (x : Snapshot) → (feeds f).last ≡ Some x → (e : Keyed) → e.0.feed ≡ f → whole_of (now_lists e.0 e.1) ≡ renewed (list_under e.0 (feeds f).entities) n (entity_found u (gathered_held feeds) x e)
  whole_now f x h e q =
      ap (λ (o : Option Snapshot). merged_four l0 l1 (renewed (old_list 2) n (bounded_by o e.0 (entity_of e.1))) l3) (ap (λ g. (feeds g).last) q ∙ h)
      ∙ parts_are_the_whole u (gathered_held feeds) x e.0 e.1 n (old_list 0) (old_list 1) (old_list 2) (old_list 3)
      (local_is t old feeds cached e.0).stand (paired_is t old feeds cached e.0).stand (bounded_is t old feeds cached e.0).stand (peaked_is t old feeds cached e.0).stand
      ∙ ap (λ ys. renewed ys n (entity_found u (gathered_held feeds) x e)) (sym (under_is state e.0 f q))
    where
      old_list : ℕ → List Standing
      old_list part = again.list_under old e.0 part

      l0 : List Standing
      l0 = renewed (old_list 0) n (local_found u e.0 (entity_of e.1))

      l1 : List Standing
      l1 = renewed (old_list 1) n (paired_found (rows_held feeds) e.0 (entity_of e.1))

      l3 : List Standing
      l3 = renewed (old_list 3) n (peaked_in feeds e.0 (entity_of e.1))

  entities_then : (f : ℕ) → (feed_of next f).entities ≡ renewed_lists (feeds f).entities n (entities_found u (gathered_held feeds) (feeds f).last)
  entities_then f =
      ap (map {B = EntityKey × List Standing} (λ c. (c.0, whole_of c.1))) (parts_then f)
      ∙ map-map (λ (e : Keyed). let d : EntityKey × Lists = (e.0, now_lists e.0 e.1) in d) (λ (c : EntityKey × Lists). let d : EntityKey × List Standing = (c.0, whole_of c.1) in d) (there f)
      ∙ go (header_at state.headers f).moment (held_at old f).bytes refl
    where
      mapped : List Keyed → KeyedLists
      mapped es = map {B = EntityKey × List Standing} (λ e. (e.0, whole_of (now_lists e.0 e.1))) es

      go : (m : ℕ) (o : Option (List ℕ)) → (feeds f).last ≡ snapshot_with f m o → mapped (entities_before f o) ≡ renewed_lists (feeds f).entities n (entities_found u (gathered_held feeds) (snapshot_with f m o))
      go m None h = refl
      go m (Some b) h =
          let x : Snapshot = record { feed = f; moment = m; bytes = b } in
          map-same (λ (e : Keyed). let d : EntityKey × List Standing = (e.0, whole_of (now_lists e.0 e.1)) in d) (λ (e : Keyed). let d : EntityKey × List Standing = (e.0, renewed (list_under e.0 (feeds f).entities) n (entity_found u (gathered_held feeds) x e)) in d) (entities_before f (Some b))
          (each_weaken (λ (e : Keyed). e.0.feed ≡ f) _ (λ e q. ap (λ (xs : List Standing). let d : EntityKey × List Standing = (e.0, xs) in d) (whole_now f x h e q)) (entities_before f (Some b)) (entities_feed f b))
          ∙ sym (map-map (λ (e : Keyed). let d : EntityKey × List Found = (e.0, entity_found u (gathered_held feeds) x e) in d) (λ (c : EntityKey × List Found). let d : EntityKey × List Standing = (c.0, renewed (list_under c.0 (feeds f).entities) n c.1) in d) (entities_before f (Some b)))

  -- ---- what is owed
  pub is_exchange : IsExchange u n feeds (feed_of next)
  is_exchange = record {
    last = last_is;
    header = λ f. refl;
    peaks = λ f vehicle. refl;
    entities = λ f.
        entities_then f
        ∙ ap (λ g. renewed_lists (feeds f).entities n (entities_found u g (feeds f).last)) (sym gathered_are)
        ∙ ap (λ o. renewed_lists (feeds f).entities n (entities_found u (gathered_held (feed_of next)) o)) (sym (last_is f));
  }

  pub is_state : IsState next
  is_state = record {
    keys_are = λ f. keys_then f ∙ ap (λ o. map (λ (e : Keyed). e.0) (entities_before f o)) (sym (passed.feeds_are.bytes_are f));
    few = λ f l. passed.feeds_are.bytes_are f ∙ is.few f l;
    taken = λ f. subst (λ o. IfSome o IsTaken) (sym (last_is f)) (is.taken f);
    own = exchange_own u n feeds (feed_of next) is.own is_exchange;
    ordered = is.ordered;
  }
