-- What bounds tell of an entity that stays.
use Rattle.std.specs.Prelude.{◌≡◌, ℕ, ◌<◌, ◌≤◌, ◌==◌, nat_lt, ℤ, pos, Bool, true, false, cond, not, ◌&&◌, ◌||◌, List, [], Option, Some, None, IfSome, option_map, refl}
use Rattle.std.proofs.Common.{sym, ap, ◌∙◌, subst, arith, eq-eqb}
use Rattle.std.proofs.lemmas.Bool.{and_parts, or_parts}
use Rattle.std.proofs.lemmas.Bool.Decides.{nat_tests}
use borrow.Author.Tests.{eqb-true}
use Rattle.feed_values.specs.Cells.{entity_cell}
use Rattle.feed_values.specs.Snapshot.{header_of, timestamp_of, entity_of}
use Rattle.rule_table.specs.declared.key.EntityKey.{EntityKey}
use Rattle.rule_table.specs.Bounds.{IsAbove}
use Rattle.rule_history.specs.History.{Snapshot, IsTaken, entities_in, entities_of_snapshot, feed_limit, feed_limit-is}
use Rattle.rule_history.specs.Answered.{payload_under}
use Rattle.rule_history.specs.Changed.{keeps_bounds, same_number}
use Rattle.rule_history.proofs.SameSnapshots.{same_numbers}
use Rattle.engine_laws.specs.HeldFeeds.{HeldFeed, last_after}
use Rattle.touched_entities.specs.part_laws.Bounded.{AreNumbersHeld, low_bound}
use Rattle.touched_entities.specs.part_laws.Touched.{is_among}
use Rattle.touched_entities.specs.part_laws.BoundedProofs.{numbers_held}
use Rattle.touched_entities.specs.entity_index.Held.{entities_before, held_at}
use Rattle.row_changes.specs.Held.{entity_at}
use Rattle.row_changes.specs.Touched.{gives_later}
use Rattle.row_changes.proofs.Over.{none_later}
use Rattle.touched_entities.specs.entity_parts.Found.{bounded_found}
use Rattle.touched_entities.specs.entity_parts.WholeProofs.{bounded_none, none_bounded}
use Rattle.touched_entities.specs.Again.{payload_at}
use Rattle.cached_laws.specs.State.{State, IsState, feed_of, header_at, snapshot_with}
use Rattle.cached_laws.specs.Cached.{bounded_by, bounded_in}
use Rattle.cached_laws.specs.Keys.{AreBoundedKeys, IsBoundOf, is_fresh_key, is_over_then, lasts_then}

-- ---- an entity of a snapshot with its lower bound
module _ (q : Snapshot) (taken : IsTaken q) (bound : ℕ) (is : pos bound ≡ low_bound (timestamp_of (header_of q.bytes)) q.moment) (key : EntityKey) (p : List ℕ) (there : payload_under key (entities_in q.feed q.bytes) ≡ Some p) where
  abbrev stamp : Option ℤ
  stamp = timestamp_of (header_of q.bytes)

  held : AreNumbersHeld stamp q.moment (entity_of p)
  held = numbers_held q taken key p there

  -- nothing is found where no timestamp is above it
  pub later_found : gives_later bound (Some (entity_of p)) ≡ false → bounded_found stamp q.moment key (entity_of p) ≡ []
  later_found h =
      bounded_none stamp q.moment key (entity_of p) held
      (λ slot at above. (none_later bound (entity_of p)).0 h slot at (subst (λ n. IsAbove (entity_cell (entity_of p) slot 0) (Some n)) (sym is) above))

  -- and none is where nothing is found
  pub found_later : bounded_found stamp q.moment key (entity_of p) ≡ [] → gives_later bound (Some (entity_of p)) ≡ false
  found_later h =
      (none_later bound (entity_of p)).1
      (λ slot at above. none_bounded stamp q.moment key (entity_of p) held h slot at (subst (λ n. IsAbove (entity_cell (entity_of p) slot 0) (Some n)) is above))

-- ---- entities of last snapshots
pub entities_are : (state : State) (f : ℕ) → entities_of_snapshot (feed_of state f).last ≡ entities_before f (held_at state.index f).bytes
entities_are state f = go (held_at state.index f).bytes
  where
    go : (o : Option (List ℕ)) → entities_of_snapshot (snapshot_with f (header_at state.headers f).moment o) ≡ entities_before f o
    go None = refl
    go (Some bytes) = refl

past : (f : ℕ) → nat_lt f 256 ≡ false → 16 ≤ f
past f h = grind (arith, nat_tests)

not_past : (f g : ℕ) → f < 16 → 16 ≤ g → (f == g) ≡ false
not_past f g l m = grind (arith, nat_tests)

module _ (state : State) (s : Snapshot) (is : IsState state) (taken : IsTaken s) (fits : s.feed < 16) where
  abbrev old : ℕ → HeldFeed
  old = feed_of state

  pub last_entities : (f : ℕ) → entities_of_snapshot (feed_of state f).last ≡ entities_before f (held_at state.index f).bytes
  last_entities = entities_are state

  -- feeds from 256 on have nothing
  far : (f : ℕ) → nat_lt f feed_limit ≡ false → 16 ≤ f
  far f h = past f (ap (nat_lt f) (sym feed_limit-is) ∙ h)

  none_past : (key : EntityKey) → nat_lt key.feed feed_limit ≡ false → payload_under key (entities_before key.feed (held_at state.index key.feed).bytes) ≡ None
  none_past key h = ap (λ o. payload_under key (entities_before key.feed o)) (is.few key.feed (far key.feed h))

  pub entity_was : (key : EntityKey) → entity_at (feed_of state) key ≡ option_map entity_of (payload_at state.index key)
  entity_was key = either (nat_lt key.feed feed_limit) refl
    where
      either : (b : Bool) → nat_lt key.feed feed_limit ≡ b → cond b (option_map entity_of (payload_under key (entities_of_snapshot (old key.feed).last))) None ≡ option_map entity_of (payload_at state.index key)
      either true h = ap (λ es. option_map entity_of (payload_under key es)) (last_entities key.feed)
      either false h = sym (ap (option_map entity_of) (none_past key h))

  pub entity_then : (key : EntityKey) → entity_at (lasts_then s (feed_of state)) key ≡ option_map entity_of (payload_under key (entities_of_snapshot (lasts_then s (feed_of state) key.feed).last))
  entity_then key = either (nat_lt key.feed feed_limit) refl
    where
      either : (b : Bool) → nat_lt key.feed feed_limit ≡ b →
          cond b (option_map entity_of (payload_under key (entities_of_snapshot (last_after s old key.feed)))) None ≡ option_map entity_of (payload_under key (entities_of_snapshot (last_after s old key.feed)))
      either true h = refl
      either false h =
          sym
          (ap (λ b. option_map entity_of (payload_under key (entities_of_snapshot (cond b (Some s) (old key.feed).last)))) (not_past s.feed key.feed fits (far key.feed h))
          ∙ ap (λ es. option_map entity_of (payload_under key es)) (last_entities key.feed) ∙ ap (option_map entity_of) (none_past key h))

  -- ---- an entity that stays, of the feed of the snapshot
  module _ (keys : List EntityKey) (are : AreBoundedKeys state s keys) (key : EntityKey) (p : List ℕ) (same : s.feed ≡ key.feed)
      (was : payload_under key (entities_of_snapshot (old s.feed).last) ≡ Some p) (there : payload_under key (entities_in s.feed s.bytes) ≡ Some p) (out : is_among keys key ≡ false) where
    entity_there : entity_at (lasts_then s old) key ≡ Some (entity_of p)
    entity_there =
        entity_then key
        ∙ ap (λ b. option_map entity_of (payload_under key (entities_of_snapshot (cond b (Some s) (old key.feed).last)))) (eq-eqb s.feed key.feed same)
        ∙ ap (option_map entity_of) there

    not_later : (bound : ℕ) → is_over_then state s (Some bound) key ≡ false → gives_later bound (Some (entity_of p)) ≡ false
    not_later bound h =
        ap (gives_later bound) (sym entity_there) ∙ sym (ap (λ b. b && gives_later bound (entity_at (lasts_then s old) key)) (eq-eqb key.feed s.feed (sym same))) ∙ h

    not_before : (b : Snapshot) → IsTaken b → payload_under key (entities_in b.feed b.bytes) ≡ Some p → (o : Option ℕ) → IsBoundOf o (Some b) → is_over_then state s o key ≡ false → bounded_by (Some b) key (entity_of p) ≡ []
    not_before b whole had None h n = absurd h
    not_before b whole had (Some bound) h n = later_found b whole bound h key p had (not_later bound n)

    abbrev over : Bool
    over = is_over_then state s are.before key || is_over_then state s (Some are.now) key

    moved : (not (keeps_bounds s (old s.feed).last) && over) ≡ false
    moved = (or_parts (is_fresh_key state s key) (not (keeps_bounds s (old s.feed).last) && over) (sym (are.keys_are.among key) ∙ out)).1

    stays_by : (o : Option Snapshot) → (old s.feed).last ≡ o → bounded_by o key (entity_of p) ≡ bounded_by (Some s) key (entity_of p)
    stays_by None q = let none : None ≡ Some p = sym (ap (λ n. payload_under key (entities_of_snapshot n)) q) ∙ was in cc
    stays_by (Some b) q = choose (keeps_bounds s (Some b)) refl (ap (λ n. not (keeps_bounds s n) && over) (sym q) ∙ moved)
      where
        choose : (k : Bool) → keeps_bounds s (Some b) ≡ k → (not k && over) ≡ false → bounded_by (Some b) key (entity_of p) ≡ bounded_by (Some s) key (entity_of p)
        choose true keeps h =
            let k = and_parts (same_number (timestamp_of (header_of s.bytes)) (timestamp_of (header_of b.bytes))) (s.moment == b.moment) keeps in
            ap (λ x. bounded_found x b.moment key (entity_of p)) (sym (same_numbers (timestamp_of (header_of s.bytes)) (timestamp_of (header_of b.bytes)) k.0))
            ∙ ap (λ m. bounded_found (timestamp_of (header_of s.bytes)) m key (entity_of p)) (sym (eqb-true s.moment b.moment k.1))
        choose false keeps h =
            let n = or_parts (is_over_then state s are.before key) (is_over_then state s (Some are.now) key) h in
            not_before b (subst (λ o. IfSome o IsTaken) q (is.taken s.feed)) (sym (ap (λ o. payload_under key (entities_of_snapshot o)) q) ∙ was) are.before (subst (IsBoundOf are.before) q are.before_is) n.0
            ∙ sym (later_found s taken are.now are.now_is key p there (not_later are.now n.1))

    stays_here : bounded_by (old key.feed).last key (entity_of p) ≡ bounded_by (Some s) key (entity_of p)
    stays_here = ap (λ f. bounded_by (old f).last key (entity_of p)) (sym same) ∙ stays_by (old s.feed).last refl

  pub bounded_stays : (ks : List EntityKey) → AreBoundedKeys state s ks → (key : EntityKey) (p : List ℕ) → payload_at state.index key ≡ Some p → payload_under key (entities_of_snapshot (lasts_then s (feed_of state) key.feed).last) ≡ Some p → is_among ks key ≡ false →
      bounded_in (feed_of state) key (entity_of p) ≡ bounded_in (lasts_then s (feed_of state)) key (entity_of p)
  bounded_stays ks are key p was there out = either (s.feed == key.feed) refl there
    where
      either : (b : Bool) → (s.feed == key.feed) ≡ b → payload_under key (entities_of_snapshot (cond b (Some s) (old key.feed).last)) ≡ Some p →
          bounded_by (old key.feed).last key (entity_of p) ≡ bounded_by (cond b (Some s) (old key.feed).last) key (entity_of p)
      either true e here =
          let same : s.feed ≡ key.feed = eqb-true s.feed key.feed e in
          stays_here ks are key p same (ap (λ f. payload_under key (entities_of_snapshot (old f).last)) same ∙ ap (payload_under key) (last_entities key.feed) ∙ was) here out
      either false e here = refl
