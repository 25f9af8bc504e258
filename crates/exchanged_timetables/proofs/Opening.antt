-- What was told while entities were judged again with another timetable is what that opened and closed.
use Rattle.std.specs.Prelude.{◌≡◌, ℕ, true, false, List, [], ◌++◌, map, Option, unwrap_or, refl}
use Rattle.std.specs.List.{flat_map}
use Rattle.std.proofs.Common.{sym, ap, ◌∙◌}
use Rattle.timetable.specs.Timetables.{Tables}
use Rattle.rule_table.specs.declared.key.EntityKey.{EntityKey}
use Rattle.rule_table.specs.Groups.{Each}
use Rattle.rule_table.specs.Order.{key_cmp}
use Rattle.rule_table.specs.Rises.{Rises}
use Rattle.rule_history.specs.History.{below, feed_limit}
use Rattle.rule_history.specs.Standing.{Standing}
use Rattle.engine_laws.specs.HeldFeeds.{HeldFeed, closed_in, opened_in}
use Rattle.taken_snapshots.specs.cached_laws.part_laws.Touched.{is_among}
use Rattle.taken_snapshots.specs.cached_laws.State.{State, IsState, feed_of}
use Rattle.taken_snapshots.specs.cached_laws.Cached.{AreCached}
use Rattle.taken_snapshots.specs.cached_laws.BetweenProofs as between
use Rattle.taken_snapshots.specs.cached_laws.RenewedProofs.{plus_none, told_none}
use Rattle.taken_snapshots.specs.entity_index.Held.{HeldEntities, at_key}
use Rattle.taken_snapshots.specs.entity_parts.Found.{local_found}
use Rattle.taken_snapshots.specs.touched_entities.Again as again
use Rattle.taken_snapshots.specs.touched_entities.Again.{IsPassed, found_under, lists_under}
use Rattle.taken_snapshots.specs.touched_entities.Told.{AreTolds, FeedTold, Told, feed_closed, feed_opened, feed_told, header_told, no_told, nothing_told, plus, told_at, told_between, told_parts}
use Rattle.exchanged_timetables.proofs.Held.{cached_new, other_list, retabled, told_new}
use Rattle.exchanged_timetables.proofs.Owed.{is_state}

-- what is handed out behind nothing
pub behind_none : {A B : Type 0} (g : A → B) (xs : List A) (ys : List B) → xs ≡ [] → map g xs ++ ys ≡ ys
behind_none g xs ys h = ap (λ zs. map g zs ++ ys) h

module _ (t u : Option Tables) (n : ℕ) (keys : List EntityKey) (state : State) (is : IsState state) (cached : AreCached t state.index (feed_of state))
    (beside : (k : EntityKey) → is_among keys k ≡ false → found_under (local_found t) state.index k ≡ found_under (local_found u) state.index k)
    (last : List HeldEntities) (before after : List FeedTold) (passed : IsPassed 0 n (local_found u) keys state.index last before after)
    (none : (f : ℕ) → feed_told before f ≡ nothing_told) (were : AreTolds before) (ordered : Each (λ x. Rises key_cmp (map (λ e. e.0) x.entities)) after) where
  abbrev old : List HeldEntities
  old = state.index

  abbrev feeds : ℕ → HeldFeed
  feeds = feed_of state

  abbrev next : State
  next = retabled t u n keys state is cached beside last before after passed

  abbrev next_feeds : ℕ → HeldFeed
  next_feeds = feed_of next

  state_next : IsState next
  state_next = is_state t u n keys state is cached beside last before after passed

  cached_next : AreCached u last next_feeds
  cached_next = cached_new t u n keys state is cached beside last before after passed

  tolds_are : AreTolds after
  tolds_are = passed.tolds_are were

  -- what is told is what the first list opens and closes; nothing is told of the others
  told_then : (k : EntityKey) → told_at after k ≡ told_parts (lists_under old k) (lists_under last k)
  told_then k =
      told_new t u n keys state is cached beside last before after passed k
      ∙ ap (λ (x : FeedTold). plus (unwrap_or (at_key k x.entities) no_told) (told_between (again.list_under old k 0) (again.list_under last k 0))) (none k.feed)
      ∙ sym (nothing_more (again.list_under old k 1) (again.list_under old k 2) (again.list_under old k 3) (again.list_under last k 1) (again.list_under last k 2) (again.list_under last k 3)
      (other_list t u n keys state is cached beside last before after passed 1 (λ l xs. refl) k) (other_list t u n keys state is cached beside last before after passed 2 (λ l xs. refl) k)
      (other_list t u n keys state is cached beside last before after passed 3 (λ l xs. refl) k) (plus no_told (told_between (again.list_under old k 0) (again.list_under last k 0))))
    where
      nothing_more : (a b c x y z : List Standing) → x ≡ a → y ≡ b → z ≡ c → (first : Told) → plus (plus (plus first (told_between a x)) (told_between b y)) (told_between c z) ≡ first
      nothing_more a b c x y z p q r first =
          ap (λ xs. plus (plus (plus first (told_between a xs)) (told_between b y)) (told_between c z)) p
          ∙ ap (λ xs. plus (plus (plus first (told_between a a)) (told_between b xs)) (told_between c z)) q
          ∙ ap (λ xs. plus (plus (plus first (told_between a a)) (told_between b b)) (told_between c xs)) r
          ∙ ap (λ x. plus (plus (plus first x) (told_between b b)) (told_between c c)) (told_none a)
          ∙ ap (λ x. plus (plus (plus first no_told) x) (told_between c c)) (told_none b)
          ∙ ap (λ x. plus (plus (plus first no_told) no_told) x) (told_none c)
          ∙ plus_none (plus (plus first no_told) no_told) ∙ plus_none (plus first no_told) ∙ plus_none first

  told_header : (g : ℕ) → header_told after g ≡ told_between (feeds g).header (next_feeds g).header
  told_header g = passed.headers_are g ∙ ap (λ (x : FeedTold). x.header) (none g) ∙ sym (told_none (feeds g).header)

  pub opened_all : flat_map feed_opened after ≡ below (λ g. opened_in (feeds g) (next_feeds g)) feed_limit
  opened_all = between.opened_all t u state next is state_next cached cached_next after tolds_are ordered told_then told_header

  pub closed_all : flat_map feed_closed after ≡ below (λ g. closed_in (feeds g) (next_feeds g)) feed_limit
  closed_all = between.closed_all t u state next is state_next cached cached_next after tolds_are ordered told_then told_header
