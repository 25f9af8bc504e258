-- How many entities are judged again, part by part.
use Rattle.std.specs.Prelude.{◌≡◌, ℕ, ◌+◌, ◌<◌, ◌==◌, nat_lt, Bool, true, false, cond, not, ◌&&◌, ◌||◌, List, [], ◌∷◌, length, Option, Some, None, IfSome, option_map, unwrap_or, refl}
use Rattle.std.specs.List.{list_any}
use Rattle.std.specs.declared.cmp.Ordering.TheVariants as order
use Rattle.std.specs.Ordering.{nat_cmp, ordering_then}
use Rattle.std.specs.Cmp.Lexicographic.{slice_cmp}
use Rattle.std.proofs.Common.{sym, ap, ◌∙◌, subst, arith, eq-eqb}
use Rattle.std.proofs.lemmas.Bool.Decides.{nat_tests}
use Rattle.std.proofs.Math.Bool.{and-false, or-false}
use Rattle.std.proofs.lemmas.Bool.{or_parts}
use borrow.Author.Tests.{eqb-true}
use Rattle.feed_values.specs.Snapshot.{header_of, timestamp_of, entity_of, entity_payloads}
use Rattle.timetable.specs.Timetables.{Tables}
use Rattle.rule_table.specs.declared.key.EntityKey.{EntityKey}
use Rattle.rule_table.specs.declared.rule.RuleId.{RuleId}
use Rattle.rule_table.specs.declared.rule.RuleId.TheVariants.{E012, E050}
use Rattle.rule_table.specs.Found.{Found}
use Rattle.rule_table.specs.Groups.{Each, NoneInBoth, has_rule}
use Rattle.rule_table.specs.GroupLaws.{any_both, each_weaken}
use Rattle.rule_table.specs.Order.{key_cmp, same_key}
use Rattle.rule_table.specs.Answers.{Gathered}
use Rattle.rule_table.specs.Pairs.{rows_of}
use Rattle.rule_table.specs.Peaks.{vehicle_id_of}
use Rattle.rule_table.specs.Rises.{Rising}
use Rattle.rule_table.specs.Rules.{rule_number, same_rule}
use Rattle.rule_history.specs.History.{Snapshot, IsTaken, Keyed, entities_in, entities_of_snapshot, below, feed_limit, feed_limit-is}
use Rattle.rule_history.specs.Answered.{payload_under}
use Rattle.rule_history.specs.Changed.{count_of, has_moved, is_paired, keeps_bounds}
use Rattle.rule_history.specs.Standing.{Standing}
use Rattle.rule_history.proofs.SameSnapshots.{same_payload}
use Rattle.engine_laws.specs.Delta.{has_limit, is_limited, is_new, is_other, bounded_held, paired_held, peaked_held, tested_held}
use Rattle.engine_laws.specs.HeldFeeds.{HeldFeed, IsLastOf, KeyedLists, entities_found, entity_found, gathered_after, held_after, last_after, list_under, peaks_after, renewed_lists, rows_held}
use Rattle.engine_laws.specs.Standings.{findings_of, renewed}
use Rattle.engine_laws.proofs.Ascending.{nat_less}
use Rattle.engine_laws.proofs.Lists.{each_of_map, filter-none, rises_below}
use Rattle.engine_laws.proofs.Since.{findings-renewed}
use Rattle.engine_laws.proofs.Sorted.{entities_feed, entities_rise}
use Rattle.engine_laws.proofs.Spots.{any-having, having, is_false, is_some_one}
use Rattle.touched_entities.specs.standing_walks.Merged.{merged, merged_four}
use Rattle.history_rules.specs.Rules.{bound_rules, peak_rules}
use Rattle.pairing_rules.specs.Pairing.{pairing_rules}
use Rattle.touched_entities.specs.part_laws.FourParts.{AreFoundOf, StandOf}
use Rattle.touched_entities.specs.part_laws.AtSpotProofs.{left_alone, neither, right_alone}
use Rattle.touched_entities.specs.part_laws.FourPartsProofs.{renewed_of}
use Rattle.touched_entities.specs.part_laws.StaysProofs.{other_way}
use Rattle.touched_entities.specs.entity_index.Changes.{fresh_places, keyed_in}
use Rattle.touched_entities.specs.entity_index.Held.{entities_before, held_at}
use Rattle.touched_entities.specs.entity_index.Lists.{Lists, no_lists}
use Rattle.touched_entities.specs.entity_index.AtKeyProofs.{at-mapped}
use Rattle.touched_entities.specs.entity_index.CountedProofs.{count-ordered, length-fresh}
use Rattle.touched_entities.specs.entity_index.TakingProofs.{keyed_apart}
use Rattle.row_changes.specs.Given.{rows_under}
use Rattle.row_changes.specs.Held.{entity_at}
use Rattle.row_changes.specs.Touched.{gives_later}
use Rattle.row_changes.proofs.Feeds.{of-feed}
use Rattle.row_changes.proofs.Stamped.{eq-turned}
use Rattle.touched_entities.specs.entity_parts.Found.{bounded_found, local_found, local_rules, paired_found, peaked_found}
use Rattle.touched_entities.specs.entity_parts.WholeProofs.{bounded_of, four_groups, local_of, paired_of, peaked_of, parts_are_the_whole}
use Rattle.touched_entities.specs.Again.{found_in, found_under, lists_at, lists_under, payload_at}
use Rattle.touched_entities.proofs.Fresh.{fresh_far, fresh_is, fresh_none, none_far}
use Rattle.cached_laws.specs.Cached.{AreCached, bounded_by, bounded_in, peaked_in}
use Rattle.cached_laws.specs.Keys.{AreBoundedKeys, AreKeys, IsBoundOf, bytes_before, is_fresh_key, is_over_then, is_paired_then, is_peaked_then, gives_moved, lasts_then}
use Rattle.cached_laws.specs.State.{IsState, State, feed_of, whole_of}
use Rattle.cached_laws.proofs.Bounds.{entities_are, entity_then, found_later, later_found}
use Rattle.cached_laws.proofs.Counted.{below_at, counted, passes}

-- ---- bounds among what is found
abbrev limits : Found → Bool
limits f = same_rule f.rule E012 || same_rule f.rule E050

limits-bound : (f : Found) → limits f ≡ has_rule bound_rules f.rule
limits-bound f =
    ap (λ b. b || same_rule f.rule E050) (eq-turned (rule_number f.rule) (rule_number E012))
    ∙ ap (λ b. rule_number E012 == rule_number f.rule || b) (eq-turned (rule_number f.rule) (rule_number E050) ∙ sym (or-false (rule_number E050 == rule_number f.rule)))

none_bound : (fs : List Found) → AreFoundOf bound_rules fs → list_any limits fs ≡ false → fs ≡ []
none_bound [] all h = refl
none_bound (f ∷ fs) all h = let t : limits f ≡ true = limits-bound f ∙ all.0 in let n : limits f ≡ false = (or_parts (limits f) (list_any limits fs) h).0 in cc (t, n)

-- those of other rules have none
abbrev limit : Standing → Bool
limit x = limits x.finding

no_limits : (rules : List RuleId) → NoneInBoth rules bound_rules → (xs : List Standing) → StandOf rules xs → having limits xs ≡ []
no_limits rules apart xs all =
    filter-none limit xs
    (each_weaken (λ x. has_rule rules x.finding.rule ≡ true) (λ x. limit x ≡ false)
    (λ x h. is_false (limit x) (λ e. never (any_both rules bound_rules (rule_number x.finding.rule) h (sym (limits-bound x.finding) ∙ e)))) xs all)
  where
    never : list_any (has_rule bound_rules) rules ≡ true → ⊥
    never t = cc (apart, t)

has-limit : (xs : List Standing) → has_limit xs ≡ list_any limits (findings_of xs)
has-limit [] = refl
has-limit (x ∷ xs) = ap (λ b. limit x || b) (has-limit xs)

renewed-limit : (xs : List Standing) (n : ℕ) (fs : List Found) → has_limit (renewed xs n fs) ≡ list_any limits fs
renewed-limit xs n fs = has-limit (renewed xs n fs) ∙ ap (list_any limits) (findings-renewed xs n fs)

-- of the four parts of an entity the third alone has one
third-limit : (a b c d : List Standing) → StandOf local_rules a → StandOf pairing_rules b → StandOf peak_rules d → has_limit (merged_four a b c d) ≡ list_any limits (findings_of c)
third-limit a b c d ha hb hd =
    has-limit (merged_four a b c d) ∙ any-having limits (merged_four a b c d)
    ∙ ap is_some_one
    (right_alone limit (merged a b) (merged c d) (neither limit a b (no_limits local_rules four_groups.first_third a ha) (no_limits pairing_rules four_groups.second_third b hb))
    ∙ left_alone limit c d (no_limits peak_rules refl d hd))
    ∙ sym (any-having limits c)

found-limit : (t : Option Tables) (u : Gathered) (s : Snapshot) (key : EntityKey) (p : List ℕ) → list_any limits (entity_found t u s (key, p)) ≡ list_any limits (bounded_found (timestamp_of (header_of s.bytes)) s.moment key (entity_of p))
found-limit t u s key p =
    sym (renewed-limit [] 0 (entity_found t u s (key, p))) ∙ ap has_limit (sym (parts_are_the_whole t u s key p 0 [] [] [] [] tt tt tt tt))
    ∙ third-limit (renewed [] 0 local) (renewed [] 0 paired) (renewed [] 0 bounds) (renewed [] 0 peaks)
    (renewed_of local_rules [] 0 local (local_of t key (entity_of p))) (renewed_of pairing_rules [] 0 paired (paired_of u.rows key (entity_of p))) (renewed_of peak_rules [] 0 peaks (peaked_of u.peaks key (entity_of p)))
    ∙ ap (list_any limits) (findings-renewed [] 0 bounds)
  where
    local : List Found
    local = local_found t key (entity_of p)

    paired : List Found
    paired = paired_found u.rows key (entity_of p)

    peaks : List Found
    peaks = peaked_found u.peaks key (entity_of p)

    bounds : List Found
    bounds = bounded_found (timestamp_of (header_of s.bytes)) s.moment key (entity_of p)

-- and it has one exactly where a timestamp is above the lower bound
limit-later : (q : Snapshot) → IsTaken q → (bound : ℕ) → IsBoundOf (Some bound) (Some q) → (key : EntityKey) (p : List ℕ) → payload_under key (entities_in q.feed q.bytes) ≡ Some p →
    list_any limits (bounded_found (timestamp_of (header_of q.bytes)) q.moment key (entity_of p)) ≡ gives_later bound (Some (entity_of p))
limit-later q taken bound is key p there =
    same_false _ _
    (λ h. found_later q taken bound is key p there (none_bound (bounded_found (timestamp_of (header_of q.bytes)) q.moment key (entity_of p)) (bounded_of (timestamp_of (header_of q.bytes)) q.moment key (entity_of p)) h))
    (λ h. ap (list_any limits) (later_found q taken bound is key p there h))
  where
    same_false : (a b : Bool) → (a ≡ false → b ≡ false) → (b ≡ false → a ≡ false) → a ≡ b
    same_false true true f g = refl
    same_false true false f g = g refl
    same_false false b f g = sym (f refl)

-- ---- what stands at an entity that is held
whole-at : (state : State) (key : EntityKey) → list_under key (feed_of state key.feed).entities ≡ whole_of (lists_under state.index key)
whole-at state key = ap (λ o. unwrap_or o []) (at-mapped (λ _ (l : Lists). whole_of l) (held_at state.index key.feed).parts key) ∙ go (lists_at state.index key)
  where
    go : (o : Option Lists) → unwrap_or (option_map (λ (l : Lists). whole_of l) o) [] ≡ whole_of (unwrap_or o no_lists)
    go None = refl
    go (Some l) = refl

stand_of : (rules : List RuleId) (xs : List Standing) (fs : List Found) → findings_of xs ≡ fs → AreFoundOf rules fs → StandOf rules xs
stand_of rules xs fs is all = each_of_map (λ (x : Standing). x.finding) (λ (f : Found). has_rule rules f.rule ≡ true) xs (subst (AreFoundOf rules) (sym is) all)

module _ (state : State) (t : Option Tables) (are : AreCached t state.index (feed_of state)) (key : EntityKey) where
  abbrev lists : Lists
  lists = lists_under state.index key

  are_local : AreFoundOf local_rules (found_under (local_found t) state.index key)
  are_local = go (payload_at state.index key)
    where
      go : (o : Option (List ℕ)) → AreFoundOf local_rules (found_in (local_found t) key o)
      go None = tt
      go (Some p) = local_of t key (entity_of p)

  are_paired : AreFoundOf pairing_rules (found_under (paired_found (rows_held (feed_of state))) state.index key)
  are_paired = go (payload_at state.index key)
    where
      go : (o : Option (List ℕ)) → AreFoundOf pairing_rules (found_in (paired_found (rows_held (feed_of state))) key o)
      go None = tt
      go (Some p) = paired_of (rows_held (feed_of state)) key (entity_of p)

  are_peaked : AreFoundOf peak_rules (found_under (peaked_in (feed_of state)) state.index key)
  are_peaked = go (payload_at state.index key)
    where
      go : (o : Option (List ℕ)) → AreFoundOf peak_rules (found_in (peaked_in (feed_of state)) key o)
      go None = tt
      go (Some p) = peaked_of (λ f. (feed_of state f).peaks) key (entity_of p)

  limit-was : (p : List ℕ) → payload_at state.index key ≡ Some p → has_limit (list_under key (feed_of state key.feed).entities) ≡ list_any limits (bounded_in (feed_of state) key (entity_of p))
  limit-was p h =
      ap has_limit (whole-at state key)
      ∙ third-limit lists.local lists.paired lists.bounded lists.peaked
      (stand_of local_rules lists.local (found_under (local_found t) state.index key) (are.local_are key) are_local)
      (stand_of pairing_rules lists.paired (found_under (paired_found (rows_held (feed_of state))) state.index key) (are.paired_are key) are_paired)
      (stand_of peak_rules lists.peaked (found_under (peaked_in (feed_of state)) state.index key) (are.peaked_are key) are_peaked)
      ∙ ap (list_any limits) (are.bounded_are key ∙ ap (found_in (bounded_in (feed_of state)) key) h)

-- ---- and once a snapshot of its feed came
module _ (t : Option Tables) (n : ℕ) (s : Snapshot) (old : ℕ → HeldFeed) (key : EntityKey) (p : List ℕ) (there : payload_under key (entities_in s.feed s.bytes) ≡ Some p) where
  abbrev u : Gathered
  u = gathered_after s old

  abbrev had : KeyedLists
  had = (old s.feed).entities

  list-then : list_under key (renewed_lists had n (entities_found t u (Some s))) ≡ renewed (list_under key had) n (entity_found t u s (key, p))
  list-then =
      ap (λ o. unwrap_or o [])
      (at-mapped (λ k (fs : List Found). renewed (list_under k had) n fs) (entities_found t u (Some s)) key
      ∙ ap (option_map (λ (fs : List Found). renewed (list_under key had) n fs))
      (at-mapped (λ k (q : List ℕ). entity_found t u s (k, q)) (entities_in s.feed s.bytes) key ∙ ap (option_map (λ (q : List ℕ). entity_found t u s (key, q))) there))

  limit-then : has_limit (list_under key (held_after t n s old s.feed).entities) ≡ list_any limits (bounded_found (timestamp_of (header_of s.bytes)) s.moment key (entity_of p))
  limit-then =
      ap (λ b. has_limit (list_under key (renewed_lists had n (entities_found t u (cond b (Some s) (old s.feed).last))))) (eq-eqb s.feed s.feed refl)
      ∙ ap has_limit list-then ∙ renewed-limit (list_under key had) n (entity_found t u s (key, p)) ∙ found-limit t u s key p

-- ---- entities of all feeds

rise_last : (o : Option Snapshot) → Rising (entities_of_snapshot o)
rise_last None = tt
rise_last (Some q) = entities_rise q.feed q.bytes

feed_less : (a b : EntityKey) → a.feed < b.feed → key_cmp a b ≡ order.Less
feed_less a b l = ap (λ o. ordering_then o (ordering_then (slice_cmp nat_cmp a.id b.id) (nat_cmp a.occurrence b.occurrence))) (nat_less a.feed b.feed l)

below_rise : (part : ℕ → Option Snapshot) → ((f : ℕ) → IsLastOf f (part f)) → (n : ℕ) → Rising (below (λ f. entities_of_snapshot (part f)) n)
below_rise part of n =
    (rises_below {A = Keyed} (λ d e. key_cmp d.0 e.0) (λ e. e.0.feed) (λ d e l. feed_less d.0 e.0 l) (λ f. entities_of_snapshot (part f)) (λ f. rise_last (part f)) (λ f. of-feed f (part f) (of f)) n).0

within_limit : (f : ℕ) → f < 16 → nat_lt f 256 ≡ true
within_limit f l = grind (arith, nat_tests)

same_or : (a b c d : Bool) → a ≡ b → (b ≡ false → c ≡ d) → (a || c) ≡ (b || d)
same_or a true c d h f = ap (λ x. x || c) h
same_or a false c d h f = ap (λ x. x || c) h ∙ f refl

module _ (state : State) (s : Snapshot) (is : IsState state) (fits : s.feed < 16) where
  abbrev old : ℕ → HeldFeed
  old = feed_of state

  abbrev here : List Keyed
  here = entities_in s.feed s.bytes

  -- ---- those that are new or have other bytes
  pub fresh_size : length (fresh_places s.feed (bytes_before state s.feed) s.bytes) ≡ tested_held s (feed_of state)
  fresh_size =
      length-fresh before 0 (keyed_in s.feed s.bytes)
      ∙ sym (count-ordered (is_other before) [] (keyed_in s.feed s.bytes) (all_absent (keyed_in s.feed s.bytes)) (keyed_apart s.feed (entity_payloads s.bytes)) ∙ none (count_of (is_other before) (keyed_in s.feed s.bytes)))
      ∙ ap (λ es. count_of (is_other es) here) (sym (entities_are state s.feed))
    where
      before : List Keyed
      before = entities_before s.feed (bytes_before state s.feed)

      none : (n : ℕ) → n + 0 ≡ n
      none n = omega arith

      all_absent : (es : List Keyed) → Each (λ e. Each (λ (d : Keyed). same_key d.0 e.0 ≡ false) []) es
      all_absent [] = tt
      all_absent (e ∷ es) = (tt, all_absent es)

  fresh_passes : (key : EntityKey) → is_fresh_key state s key ≡ passes (is_new (old s.feed)) key (payload_under key here)
  fresh_passes key = go (payload_under key here) refl
    where
      go : (o : Option (List ℕ)) → payload_under key here ≡ o → is_fresh_key state s key ≡ passes (is_new (old s.feed)) key o
      go None h = fresh_none s.feed (bytes_before state s.feed) s.bytes key h
      go (Some p) h = fresh_is s.feed (bytes_before state s.feed) s.bytes key p h ∙ ap (λ es. is_other es (key, p)) (sym (entities_are state s.feed))

  pub tested_size : (ks : List EntityKey) → AreKeys (is_fresh_key state s) ks → length ks ≡ tested_held s (feed_of state)
  tested_size ks are = counted (is_new (old s.feed)) here ks (entities_rise s.feed s.bytes) are.rise (λ key. are.among key ∙ fresh_passes key)

  -- ---- those of all feeds that rows concern
  abbrev all_then : List Keyed
  all_then = below (λ f. entities_of_snapshot (last_after s old f)) feed_limit

  last_own : (f : ℕ) → IsLastOf f (last_after s old f)
  last_own f = either (s.feed == f) refl
    where
      either : (b : Bool) → (s.feed == f) ≡ b → IsLastOf f (cond b (Some s) (old f).last)
      either true e = eqb-true s.feed f e
      either false e = (is.own f).last_of

  then_under : (key : EntityKey) → payload_under key all_then ≡ cond (nat_lt key.feed feed_limit) (payload_under key (entities_of_snapshot (last_after s old key.feed))) None
  then_under key = below_at (λ f. entities_of_snapshot (last_after s old f)) (λ f. of-feed f (last_after s old f) (last_own f)) feed_limit key

  entity-below : (key : EntityKey) → entity_at (lasts_then s old) key ≡ option_map entity_of (payload_under key all_then)
  entity-below key = either (nat_lt key.feed feed_limit) ∙ sym (ap (option_map entity_of) (then_under key))
    where
      either : (b : Bool) → cond b (option_map entity_of (payload_under key (entities_of_snapshot (last_after s old key.feed)))) None ≡ option_map entity_of (cond b (payload_under key (entities_of_snapshot (last_after s old key.feed))) None)
      either true = refl
      either false = refl

  abbrev is_new_here : Keyed → Bool
  is_new_here e = e.0.feed == s.feed && is_new (old s.feed) e

  fresh_then : (key : EntityKey) → is_fresh_key state s key ≡ passes is_new_here key (payload_under key all_then)
  fresh_then key = either (s.feed == key.feed) refl
    where
      within : s.feed ≡ key.feed → nat_lt key.feed feed_limit ≡ true
      within q = ap (λ f. nat_lt f feed_limit) (sym q) ∙ ap (nat_lt s.feed) feed_limit-is ∙ within_limit s.feed fits

      at : (o : Option (List ℕ)) → (key.feed == s.feed) ≡ true → passes (is_new (old s.feed)) key o ≡ passes is_new_here key o
      at None e = refl
      at (Some p) e = sym (ap (λ b. b && is_new (old s.feed) (key, p)) e)

      off : (o : Option (List ℕ)) → (key.feed == s.feed) ≡ false → passes is_new_here key o ≡ false
      off None e = refl
      off (Some p) e = ap (λ b. b && is_new (old s.feed) (key, p)) e

      either : (b : Bool) → (s.feed == key.feed) ≡ b → is_fresh_key state s key ≡ passes is_new_here key (payload_under key all_then)
      either true e =
          let q : s.feed ≡ key.feed = eqb-true s.feed key.feed e in
          fresh_passes key ∙ at (payload_under key here) (eq-eqb key.feed s.feed (sym q))
          ∙ ap (passes is_new_here key)
          (sym (then_under key ∙ ap (λ b. cond b (payload_under key (entities_of_snapshot (last_after s old key.feed))) None) (within q)
          ∙ ap (λ b. payload_under key (entities_of_snapshot (cond b (Some s) (old key.feed).last))) e))
      either false e = fresh_far s.feed (bytes_before state s.feed) s.bytes key e ∙ sym (off (payload_under key all_then) (other_way s.feed key.feed e))

  abbrev is_paired_here : Keyed → Bool
  is_paired_here e = is_new_here e || is_paired (rows_held old) (rows_held (lasts_then s old)) (rows_of e.0 (entity_of e.1))

  paired_passes : (key : EntityKey) → (is_fresh_key state s key || is_paired_then state s key) ≡ passes is_paired_here key (payload_under key all_then)
  paired_passes key =
      ap (λ b. b || is_paired_then state s key) (fresh_then key)
      ∙ ap (λ v. passes is_new_here key (payload_under key all_then) || is_paired (rows_held old) (rows_held (lasts_then s old)) (rows_under key v)) (entity-below key)
      ∙ either (payload_under key all_then)
    where
      either : (o : Option (List ℕ)) → (passes is_new_here key o || is_paired (rows_held old) (rows_held (lasts_then s old)) (rows_under key (option_map entity_of o))) ≡ passes is_paired_here key o
      either None = refl
      either (Some p) = refl

  pub paired_size : (ks : List EntityKey) → AreKeys (λ key. is_fresh_key state s key || is_paired_then state s key) ks → (t : Option Tables) (n : ℕ) → length ks ≡ paired_held s (feed_of state) (held_after t n s (feed_of state))
  paired_size ks are t n = counted is_paired_here all_then ks (below_rise (last_after s old) last_own feed_limit) are.rise (λ key. are.among key ∙ paired_passes key)

  -- ---- those of the snapshot that bounds concern
  module _ (taken : IsTaken s) (t : Option Tables) (n : ℕ) (cached : AreCached t state.index (feed_of state)) where
    abbrev new : HeldFeed
    new = held_after t n s old s.feed

    entity-here : (key : EntityKey) → (s.feed == key.feed) ≡ true → entity_at (lasts_then s old) key ≡ option_map entity_of (payload_under key here)
    entity-here key e = entity_then state s is taken fits key ∙ ap (λ b. option_map entity_of (payload_under key (entities_of_snapshot (cond b (Some s) (old key.feed).last)))) e

    -- none is above a bound where there is no entity
    not_over : (key : EntityKey) → payload_under key here ≡ None → (o : Option ℕ) → is_over_then state s o key ≡ false
    not_over key h None = refl
    not_over key h (Some bound) = either (s.feed == key.feed) refl
      where
        either : (b : Bool) → (s.feed == key.feed) ≡ b → (key.feed == s.feed && gives_later bound (entity_at (lasts_then s old) key)) ≡ false
        either true e = ap (λ v. key.feed == s.feed && gives_later bound v) (entity-here key e ∙ ap (option_map entity_of) h) ∙ and-false (key.feed == s.feed)
        either false e = ap (λ b. b && gives_later bound (entity_at (lasts_then s old) key)) (other_way s.feed key.feed e)

    -- and where there is one it is, where its list has a bound
    module _ (key : EntityKey) (p : List ℕ) (there : payload_under key here ≡ Some p) where
      same : s.feed ≡ key.feed
      same = either (s.feed == key.feed) refl
        where
          either : (b : Bool) → (s.feed == key.feed) ≡ b → s.feed ≡ key.feed
          either true e = eqb-true s.feed key.feed e
          either false e = let none : payload_under key here ≡ None = none_far s.feed key here (entities_feed s.feed s.bytes) e in cc (there, none)

      over-is : (bound : ℕ) → is_over_then state s (Some bound) key ≡ gives_later bound (Some (entity_of p))
      over-is bound =
          ap (λ b. b && gives_later bound (entity_at (lasts_then s old) key)) (eq-eqb key.feed s.feed (sym same))
          ∙ ap (gives_later bound) (entity-here key (eq-eqb s.feed key.feed same) ∙ ap (option_map entity_of) there)

      over-now : (bound : ℕ) → IsBoundOf (Some bound) (Some s) → is_over_then state s (Some bound) key ≡ has_limit (list_under key new.entities)
      over-now bound b = over-is bound ∙ sym (limit-then t n s old key p there ∙ limit-later s taken bound b key p there)

      over-before : (q : Option Snapshot) → (old s.feed).last ≡ q → (o : Option ℕ) → IsBoundOf o q → payload_under key (entities_of_snapshot q) ≡ Some p → is_over_then state s o key ≡ has_limit (list_under key (old s.feed).entities)
      over-before None e o b was = cc was
      over-before (Some q) e None b was = absurd b
      over-before (Some q) e (Some bound) b was =
          over-is bound
          ∙ sym
          (ap (λ f. has_limit (list_under key (old f).entities)) same ∙ limit-was state t cached key p held
          ∙ ap (λ o. list_any limits (bounded_by o key (entity_of p))) (ap (λ f. (old f).last) (sym same) ∙ e)
          ∙ limit-later q (subst (λ o. IfSome o IsTaken) e (is.taken s.feed)) bound b key p was)
        where
          held : payload_at state.index key ≡ Some p
          held = sym (ap (payload_under key) (entities_are state key.feed)) ∙ ap (λ o. payload_under key (entities_of_snapshot o)) (ap (λ f. (old f).last) (sym same) ∙ e) ∙ was

    abbrev is_bounded_here : Keyed → Bool
    is_bounded_here e = is_new (old s.feed) e || is_limited s (old s.feed) new e

    module _ (ks : List EntityKey) (are : AreBoundedKeys state s ks) (key : EntityKey) where
      abbrev moves : Bool
      moves = not (keeps_bounds s (old s.feed).last)

      abbrev over : Bool
      over = is_over_then state s are.before key || is_over_then state s (Some are.now) key

      bounded_passes : (o : Option (List ℕ)) → payload_under key here ≡ o → (is_fresh_key state s key || (moves && over)) ≡ passes is_bounded_here key o
      bounded_passes None h =
          ap (λ b. b || (moves && over)) (fresh_none s.feed (bytes_before state s.feed) s.bytes key h)
          ∙ ap (λ b. moves && (b || is_over_then state s (Some are.now) key)) (not_over key h are.before)
          ∙ ap (λ b. moves && b) (not_over key h (Some are.now)) ∙ and-false moves
      bounded_passes (Some p) h =
          same_or (is_fresh_key state s key) (is_new (old s.feed) (key, p)) (moves && over) (is_limited s (old s.feed) new (key, p)) (fresh_passes key ∙ ap (passes (is_new (old s.feed)) key) h)
          (λ stays. ap (λ b. moves && (b || is_over_then state s (Some are.now) key))
          (over-before key p h (old s.feed).last refl are.before are.before_is (same_payload p (payload_under key (entities_of_snapshot (old s.feed).last)) stays))
          ∙ ap (λ b. moves && (has_limit (list_under key (old s.feed).entities) || b)) (over-now key p h are.now are.now_is))

    pub bounded_size : (ks : List EntityKey) → AreBoundedKeys state s ks → length ks ≡ bounded_held s (feed_of state) (held_after t n s (feed_of state))
    bounded_size ks are = counted is_bounded_here here ks (entities_rise s.feed s.bytes) are.keys_are.rise (λ key. are.keys_are.among key ∙ bounded_passes ks are key (payload_under key here) refl)

  -- ---- those of the snapshot whose vehicle has another peak
  module _ (taken : IsTaken s) where
    abbrev moved : Option (List ℕ) → Bool
    moved given = has_moved (old s.feed).peaks (peaks_after s old s.feed) given

    then-here : (key : EntityKey) → (s.feed == key.feed) ≡ true → entity_at (lasts_then s old) key ≡ option_map entity_of (payload_under key here)
    then-here key e = entity_then state s is taken fits key ∙ ap (λ b. option_map entity_of (payload_under key (entities_of_snapshot (cond b (Some s) (old key.feed).last)))) e

    moved_there : (key : EntityKey) (b : Bool) → (s.feed == key.feed) ≡ b → is_peaked_then state s key ≡ passes (λ e. moved (vehicle_id_of (entity_of e.1))) key (payload_under key here)
    moved_there key true e =
        ap (λ b. b && gives_moved (old s.feed).peaks (peaks_after s old s.feed) (entity_at (lasts_then s old) key)) (eq-eqb key.feed s.feed (sym (eqb-true s.feed key.feed e)))
        ∙ ap (gives_moved (old s.feed).peaks (peaks_after s old s.feed)) (then-here key e) ∙ go (payload_under key here)
      where
        go : (o : Option (List ℕ)) → gives_moved (old s.feed).peaks (peaks_after s old s.feed) (option_map entity_of o) ≡ passes (λ e. moved (vehicle_id_of (entity_of e.1))) key o
        go None = refl
        go (Some p) = refl
    moved_there key false e =
        ap (λ b. b && gives_moved (old s.feed).peaks (peaks_after s old s.feed) (entity_at (lasts_then s old) key)) (other_way s.feed key.feed e)
        ∙ sym (ap (passes (λ e. moved (vehicle_id_of (entity_of e.1))) key) (none_far s.feed key here (entities_feed s.feed s.bytes) e))

    abbrev is_peaked_here : Keyed → Bool
    is_peaked_here e = is_new (old s.feed) e || moved (vehicle_id_of (entity_of e.1))

    peaked_passes : (key : EntityKey) → (is_fresh_key state s key || is_peaked_then state s key) ≡ passes is_peaked_here key (payload_under key here)
    peaked_passes key =
        ap (λ b. b || is_peaked_then state s key) (fresh_passes key)
        ∙ ap (λ b. passes (is_new (old s.feed)) key (payload_under key here) || b) (moved_there key (s.feed == key.feed) refl)
        ∙ either (payload_under key here)
      where
        either : (o : Option (List ℕ)) → (passes (is_new (old s.feed)) key o || passes (λ e. moved (vehicle_id_of (entity_of e.1))) key o) ≡ passes is_peaked_here key o
        either None = refl
        either (Some p) = refl

    pub peaked_size : (ks : List EntityKey) → AreKeys (λ key. is_fresh_key state s key || is_peaked_then state s key) ks → (t : Option Tables) (n : ℕ) → length ks ≡ peaked_held s (feed_of state) (held_after t n s (feed_of state))
    peaked_size ks are t n = counted is_peaked_here here ks (entities_rise s.feed s.bytes) are.rise (λ key. are.among key ∙ peaked_passes key)
