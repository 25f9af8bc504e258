-- A snapshot judged part by part: each list of each entity is renewed by what its part finds there.
use Rattle.std.specs.Prelude.{◌≡◌, ℕ, ◌<◌, ◌==◌, ◌&&◌, Bool, true, false, List, [], Option, Some, None, option_map, unwrap_or, cond, refl}
use Rattle.std.proofs.Common.{sym, ap, ◌∙◌, subst, arith, eq-eqb}
use Rattle.std.proofs.lemmas.Bool.Decides.{nat_tests}
use Rattle.std.proofs.lemmas.Bool.{or_parts, and_right, or_from, true≢false}
use borrow.Author.Tests.{eqb-true}
use Rattle.feed_values.specs.Schema.{Value}
use Rattle.feed_values.specs.Messages.{entity}
use Rattle.feed_values.specs.Snapshot.{entity_of, header_of, timestamp_of}
use Rattle.timetable.specs.Timetables.{Tables}
use Rattle.rule_table.specs.declared.key.EntityKey.{EntityKey}
use Rattle.rule_table.specs.Pairs.{PairRow}
use Rattle.rule_table.specs.Peaks.{PeakMap, vehicle_id_of}
use Rattle.rule_history.specs.History.{Snapshot, IsTaken}
use Rattle.rule_history.specs.Changed.{is_paired, has_moved}
use Rattle.rule_history.specs.Peaks.{raised_by}
use Rattle.rule_history.specs.Standing.{Standing}
use Rattle.pairing_rules.specs.ByKind.{AreAlike, alike-agree}
use Rattle.engine_laws.specs.HeldFeeds.{HeldFeed, AreOwn, IsLastOf, peaks_after, rows_held}
use Rattle.engine_laws.specs.Order.{found_cmp, Rises}
use Rattle.engine_laws.specs.Standings.{findings_of, renewed}
use Rattle.engine_laws.proofs.Pairing.{pairing_keeps}
use Rattle.engine_laws.proofs.Peaking.{not_moved}
use Rattle.engine_laws.proofs.Since.{findings-renewed}
use Rattle.touched_entities.specs.part_laws.Touched.{is_among}
use Rattle.touched_entities.specs.entity_index.Held.{HeldEntities}
use Rattle.touched_entities.specs.entity_index.Lists.{Lists, no_lists, list_of, with_list}
use Rattle.touched_entities.specs.entity_parts.Found.{local_found, paired_found, bounded_found, peaked_found}
use Rattle.touched_entities.specs.entity_parts.Rising.{local_rises, paired_rises, bounded_rises, peaked_rises}
use Rattle.touched_entities.specs.entity_parts.WholeProofs.{paired_agree, paired_none, peaked_same}
use Rattle.row_changes.specs.Given.{rows_under}
use Rattle.row_changes.specs.Held.{entity_at}
use Rattle.row_changes.specs.Touched.{gives_later}
use Rattle.touched_entities.specs.Again.{FindPart, found_in, found_under, list_under, lists_at, lists_under, payload_at}
use Rattle.touched_entities.specs.Exchanged.{IsExchanged}
use Rattle.touched_entities.specs.Told.{FeedTold, Told, plus, told_at, told_between}
use Rattle.touched_entities.proofs.Fresh.{fresh_far}
use Rattle.touched_entities.proofs.OneMore.{same_payload}
use Rattle.cached_laws.specs.State.{State, IsState, feed_of}
use Rattle.cached_laws.specs.Cached.{AreCached, bounded_by, bounded_in, peaked_in}
use Rattle.cached_laws.specs.Keys.{AreTouched, bytes_before, is_fresh_key, is_over_then, is_paired_then, is_peaked_then, gives_moved, lasts_then}
use Rattle.cached_laws.specs.Judged.{AreJudged}
use Rattle.cached_laws.proofs.Bounds.{bounded_stays, entity_then}
use Rattle.cached_laws.proofs.Placed.{by_feed, last_far, last_here, last_payload, lists_placed, of_limit, then_payload, was_there}
use Rattle.cached_laws.proofs.Renewed.{lists_all, told_all}

-- what is found at an entity that may be there is in order
pub found_rises : (find : FindPart) → ((k : EntityKey) (e : Value entity) → Rises found_cmp (find k e)) → (k : EntityKey) (o : Option (List ℕ)) → Rises found_cmp (found_in find k o)
found_rises find rises k None = tt
found_rises find rises k (Some p) = rises k (entity_of p)

pub by_rises : (last : Option Snapshot) (k : EntityKey) (e : Value entity) → Rises found_cmp (bounded_by last k e)
by_rises None k e = tt
by_rises (Some s) k e = bounded_rises (timestamp_of (header_of s.bytes)) s.moment k e

module _ (t : Option Tables) (n : ℕ) (state : State) (s : Snapshot) (is : IsState state) (taken : IsTaken s) (fits : s.feed < 16) (cached : AreCached t state.index (feed_of state))
    (rows : List PairRow) (alike : AreAlike rows (rows_held (lasts_then s (feed_of state)))) (peaks : PeakMap) (raised : (f : ℕ) (vehicle : List ℕ) → peaks f vehicle ≡ peaks_after s (feed_of state) f vehicle) (local paired bounded peaked : List EntityKey)
    (touched : AreTouched state s local paired bounded peaked)
    (first last : List HeldEntities) (placed : IsExchanged s.feed s.bytes state.index first) (before after : List FeedTold) (judged : AreJudged t n s rows peaks local paired bounded peaked first last before after) where
  abbrev old : List HeldEntities
  old = state.index

  abbrev feeds : ℕ → HeldFeed
  feeds = feed_of state

  abbrev later : ℕ → HeldFeed
  later = lasts_then s (feed_of state)

  -- what each part finds
  abbrev pub local_now : FindPart
  local_now = local_found t

  abbrev pub paired_now : FindPart
  paired_now = paired_found (rows_held later)

  abbrev pub bounded_now : FindPart
  bounded_now = bounded_in later

  abbrev pub peaked_now : FindPart
  peaked_now = peaked_in later

  -- ---- the snapshots are the same while parts are judged
  pub payload_second : (k : EntityKey) → payload_at judged.second k ≡ payload_at first k
  payload_second k = same_payload first judged.second judged.local_is.feeds_are k

  pub payload_third : (k : EntityKey) → payload_at judged.third k ≡ payload_at first k
  payload_third k = same_payload judged.second judged.third judged.paired_is.feeds_are k ∙ payload_second k

  pub payload_fourth : (k : EntityKey) → payload_at judged.fourth k ≡ payload_at first k
  payload_fourth k = same_payload judged.third judged.fourth judged.bounded_is.feeds_are k ∙ payload_third k

  pub payload_last : (k : EntityKey) → payload_at last k ≡ payload_at first k
  payload_last k = same_payload judged.fourth last judged.peaked_is.feeds_are k ∙ payload_fourth k

  -- ---- an entity that isn't fresh keeps a list that has what is found
  kept : (part : ℕ) (was now : FindPart) → list_of no_lists part ≡ [] → ((k : EntityKey) → findings_of (list_under old k part) ≡ found_under was old k) →
      (k : EntityKey) → is_fresh_key state s k ≡ false → ((p : List ℕ) → payload_at first k ≡ Some p → payload_at old k ≡ Some p → was k (entity_of p) ≡ now k (entity_of p)) →
      findings_of (list_under first k part) ≡ found_in now k (payload_at first k)
  kept part was now none stood k fresh agree =
      ap (λ (x : Option Lists). findings_of (list_of (unwrap_or x no_lists) part)) (lists_placed state s is first placed k)
      ∙ go (payload_at first k) refl
    where
      go : (o : Option (List ℕ)) → payload_at first k ≡ o → findings_of (list_of (unwrap_or (option_map (λ p. lists_under old k) o) no_lists) part) ≡ found_in now k o
      go None h = ap findings_of none
      go (Some p) h =
          let there : payload_at old k ≡ Some p = was_there state s is first placed k p h fresh in
          stood k ∙ ap (found_in was k) there ∙ agree p h there

  -- ---- by themselves and with the timetable
  local_stays : (k : EntityKey) → is_among local k ≡ false → findings_of (list_under first k 0) ≡ found_under local_now first k
  local_stays k h = kept 0 local_now local_now refl cached.local_are k (sym (touched.local_are.among k) ∙ h) (λ p a b. refl)

  second_lists : (k : EntityKey) → lists_at judged.second k ≡ option_map (λ l. with_list l 0 (renewed (list_under first k 0) n (found_under local_now first k))) (lists_at first k)
  second_lists = lists_all 0 n local_now local_now local first judged.second before judged.second_told judged.local_is (λ k. found_rises local_now (local_rises t) k (payload_at first k)) (λ k m. refl) local_stays

  -- ---- with pairing rows
  -- lists of other numbers stay where one is renewed
  other_list : (part q : ℕ) → ((l : Lists) (xs : List Standing) → list_of (with_list l part xs) q ≡ list_of l q) → (xs : List Standing) (o o' : Option Lists) → o' ≡ option_map (λ l. with_list l part xs) o →
      list_of (unwrap_or o' no_lists) q ≡ list_of (unwrap_or o no_lists) q
  other_list part q stays xs o o' h = ap (λ (x : Option Lists). list_of (unwrap_or x no_lists) q) h ∙ go o
    where
      go : (o : Option Lists) → list_of (unwrap_or (option_map (λ l. with_list l part xs) o) no_lists) q ≡ list_of (unwrap_or o no_lists) q
      go None = refl
      go (Some l) = stays l xs

  own_then : AreOwn later
  own_then f = record {
    last_of = of_feed (s.feed == f) refl;
    head_on = tt;
    under_keys = tt;
    of_feed = tt;
    apart = tt;
  }
    where
      of_feed : (b : Bool) → (s.feed == f) ≡ b → IsLastOf f (later f).last
      of_feed true h = subst (IsLastOf f) (sym (last_here state s is first placed f (eqb-true s.feed f h))) (eqb-true s.feed f h)
      of_feed false h = subst (IsLastOf f) (sym (last_far state s is first placed f h)) (is.own f).last_of

  paired_agrees : (k : EntityKey) → is_paired_then state s k ≡ false → (p : List ℕ) → payload_at first k ≡ Some p → payload_at old k ≡ Some p → paired_found (rows_held feeds) k (entity_of p) ≡ paired_now k (entity_of p)
  paired_agrees k h p now was =
      pairing_keeps paired_found paired_agree paired_none feeds later is.own own_then (k, p) (of_limit state s is first placed k p was)
      (last_payload state s is first placed k ∙ was) (then_payload state s is first placed k ∙ now)
      (sym (ap (λ o. is_paired (rows_held feeds) (rows_held later) (rows_under k o))
      (entity_then state s is taken fits k ∙ ap (option_map entity_of) (then_payload state s is first placed k ∙ now))) ∙ h)

  paired_stays : (k : EntityKey) → is_among paired k ≡ false → findings_of (list_under judged.second k 1) ≡ found_under paired_now judged.second k
  paired_stays k h =
      let neither = or_parts (is_fresh_key state s k) (is_paired_then state s k) (sym (touched.paired_are.among k) ∙ h) in
      ap findings_of (other_list 0 1 (λ l xs. refl) _ (lists_at first k) (lists_at judged.second k) (second_lists k))
      ∙ kept 1 (paired_found (rows_held feeds)) paired_now refl cached.paired_are k neither.0 (paired_agrees k neither.1)
      ∙ ap (found_in paired_now k) (sym (payload_second k))

  paired_same : (k : EntityKey) → found_under (paired_found rows) judged.second k ≡ found_under paired_now judged.second k
  paired_same k = go (payload_at judged.second k)
    where
      go : (o : Option (List ℕ)) → found_in (paired_found rows) k o ≡ found_in paired_now k o
      go None = refl
      go (Some p) = paired_agree rows (rows_held later) k (entity_of p) (alike-agree rows (rows_held later) alike k (entity_of p))

  third_lists : (k : EntityKey) → lists_at judged.third k ≡ option_map (λ l. with_list l 1 (renewed (list_under judged.second k 1) n (found_under paired_now judged.second k))) (lists_at judged.second k)
  third_lists =
      lists_all 1 n (paired_found rows) paired_now paired judged.second judged.third judged.second_told judged.third_told judged.paired_is (λ k. found_rises paired_now (paired_rises (rows_held later)) k (payload_at judged.second k))
      (λ k m. paired_same k) paired_stays

  -- ---- by bounds
  -- these are of the snapshot's feed
  bounded_here : (k : EntityKey) → (s.feed == k.feed) ≡ false → is_among bounded k ≡ false
  bounded_here k h =
      touched.bounded_are.keys_are.among k
      ∙ or_from _ _ (fresh_far s.feed (bytes_before state s.feed) s.bytes k h)
      (and_right _ _ (or_from _ _ (never touched.bounded_are.before) (never (Some touched.bounded_are.now))))
    where
      turned : (a b : ℕ) → (b == a) ≡ false → (a == b) ≡ false
      turned a b e = grind (arith, nat_tests)

      never : (bound : Option ℕ) → is_over_then state s bound k ≡ false
      never None = refl
      never (Some b) = ap (λ x. x && gives_later b (entity_at later k)) (turned k.feed s.feed h)

  bounded_same : (k : EntityKey) → is_among bounded k ≡ true → found_under (bounded_found (timestamp_of (header_of s.bytes)) s.moment) judged.third k ≡ found_under bounded_now judged.third k
  bounded_same k m = by_feed state s is first placed k
      (λ h. go (payload_at judged.third k) (last_here state s is first placed k.feed (sym h)))
      (λ h. absurd (true≢false (sym m ∙ bounded_here k h)))
    where
      go : (o : Option (List ℕ)) → (later k.feed).last ≡ Some s → found_in (bounded_found (timestamp_of (header_of s.bytes)) s.moment) k o ≡ found_in bounded_now k o
      go None h = refl
      go (Some p) h = sym (ap (λ last. bounded_by last k (entity_of p)) h)

  bounded_beside : (k : EntityKey) → is_among bounded k ≡ false → findings_of (list_under judged.third k 2) ≡ found_under bounded_now judged.third k
  bounded_beside k h =
      let fresh = (or_parts (is_fresh_key state s k) _ (sym (touched.bounded_are.keys_are.among k) ∙ h)).0 in
      ap findings_of (other_list 1 2 (λ l xs. refl) _ (lists_at judged.second k) (lists_at judged.third k) (third_lists k))
      ∙ ap findings_of (other_list 0 2 (λ l xs. refl) _ (lists_at first k) (lists_at judged.second k) (second_lists k))
      ∙ kept 2 (bounded_in feeds) bounded_now refl cached.bounded_are k fresh
      (λ p now was. bounded_stays state s is taken fits bounded touched.bounded_are k p was (then_payload state s is first placed k ∙ now) h)
      ∙ ap (found_in bounded_now k) (sym (payload_third k))

  fourth_lists : (k : EntityKey) → lists_at judged.fourth k ≡ option_map (λ l. with_list l 2 (renewed (list_under judged.third k 2) n (found_under bounded_now judged.third k))) (lists_at judged.third k)
  fourth_lists =
      lists_all 2 n (bounded_found (timestamp_of (header_of s.bytes)) s.moment) bounded_now bounded judged.third judged.fourth judged.third_told judged.fourth_told judged.bounded_is
      (λ k. found_rises bounded_now (λ q e. by_rises (later q.feed).last q e) k (payload_at judged.third k)) bounded_same bounded_beside

  -- ---- by peaks
  peaked_agrees : (k : EntityKey) → is_peaked_then state s k ≡ false → (p : List ℕ) → payload_at first k ≡ Some p → peaked_in feeds k (entity_of p) ≡ peaked_now k (entity_of p)
  peaked_agrees k h p now = peaked_same (λ f. (feeds f).peaks) (λ f. (later f).peaks) k (entity_of p) (λ vehicle given. one vehicle given (s.feed == k.feed) refl)
    where
      second : (a b : Bool) → a ≡ true → (a && b) ≡ false → b ≡ false
      second a b e f = cc

      turned : (a b : ℕ) → (b == a) ≡ true → (a == b) ≡ true
      turned a b e = grind (arith, nat_tests)

      stays : s.feed ≡ k.feed → has_moved (feeds s.feed).peaks (peaks_after s feeds s.feed) (vehicle_id_of (entity_of p)) ≡ false
      stays same =
          sym (ap (gives_moved (feeds s.feed).peaks (peaks_after s feeds s.feed)) (entity_then state s is taken fits k ∙ ap (option_map entity_of) (then_payload state s is first placed k ∙ now)))
          ∙ second (k.feed == s.feed) _ (ap (λ f. k.feed == f) same ∙ eq-eqb k.feed k.feed refl) h

      one : (vehicle : List ℕ) → vehicle_id_of (entity_of p) ≡ Some vehicle → (b : Bool) → (s.feed == k.feed) ≡ b → (feeds k.feed).peaks vehicle ≡ (later k.feed).peaks vehicle
      one vehicle given true e =
          subst (λ f. (feeds f).peaks vehicle ≡ peaks_after s feeds f vehicle) (eqb-true s.feed k.feed e)
          (not_moved (feeds s.feed).peaks (peaks_after s feeds s.feed) (vehicle_id_of (entity_of p)) (stays (eqb-true s.feed k.feed e)) vehicle given)
      one vehicle given false e = ap (λ b. cond b (raised_by (feeds k.feed).last (feeds k.feed).peaks vehicle) ((feeds k.feed).peaks vehicle)) (sym e)

  peaked_beside : (k : EntityKey) → is_among peaked k ≡ false → findings_of (list_under judged.fourth k 3) ≡ found_under peaked_now judged.fourth k
  peaked_beside k h =
      let neither = or_parts (is_fresh_key state s k) (is_peaked_then state s k) (sym (touched.peaked_are.among k) ∙ h) in
      ap findings_of (other_list 2 3 (λ l xs. refl) _ (lists_at judged.third k) (lists_at judged.fourth k) (fourth_lists k))
      ∙ ap findings_of (other_list 1 3 (λ l xs. refl) _ (lists_at judged.second k) (lists_at judged.third k) (third_lists k))
      ∙ ap findings_of (other_list 0 3 (λ l xs. refl) _ (lists_at first k) (lists_at judged.second k) (second_lists k))
      ∙ kept 3 (peaked_in feeds) peaked_now refl cached.peaked_are k neither.0 (λ p now was. peaked_agrees k neither.1 p now)
      ∙ ap (found_in peaked_now k) (sym (payload_fourth k))

  peaked_all : (k : EntityKey) → found_under (peaked_found peaks) judged.fourth k ≡ found_under peaked_now judged.fourth k
  peaked_all k = go (payload_at judged.fourth k)
    where
      go : (o : Option (List ℕ)) → found_in (peaked_found peaks) k o ≡ found_in peaked_now k o
      go None = refl
      go (Some p) = peaked_same peaks (λ f. (later f).peaks) k (entity_of p) (λ vehicle given. raised k.feed vehicle)

  last_lists : (k : EntityKey) → lists_at last k ≡ option_map (λ l. with_list l 3 (renewed (list_under judged.fourth k 3) n (found_under peaked_now judged.fourth k))) (lists_at judged.fourth k)
  last_lists =
      lists_all 3 n (peaked_found peaks) peaked_now peaked judged.fourth last judged.fourth_told after judged.peaked_is
      (λ k. found_rises peaked_now (peaked_rises (λ f. (later f).peaks)) k (payload_at judged.fourth k)) (λ k m. peaked_all k) peaked_beside

  -- ---- all parts: what is under a key, by what stood there and what is there now
  abbrev pub lists_now : EntityKey → List ℕ → Lists
  lists_now k p = record {
    local = renewed (list_under old k 0) n (local_now k (entity_of p));
    paired = renewed (list_under old k 1) n (paired_now k (entity_of p));
    bounded = renewed (list_under old k 2) n (bounded_now k (entity_of p));
    peaked = renewed (list_under old k 3) n (peaked_now k (entity_of p));
  }

  -- a list renewed in the place of what may be there
  abbrev step : (k : EntityKey) (part : ℕ) (find : FindPart) → Option (List ℕ) → Option Lists → Option Lists
  step k part find o x = option_map (λ l. with_list l part (renewed (list_of (unwrap_or x no_lists) part) n (found_in find k o))) x

  abbrev steps : EntityKey → Option (List ℕ) → Option Lists → Option Lists
  steps k o x = step k 3 peaked_now o (step k 2 bounded_now o (step k 1 paired_now o (step k 0 local_now o x)))

  abbrev stood : EntityKey → Option (List ℕ) → Option Lists
  stood k o = option_map (λ p. lists_under old k) o

  second_step : (k : EntityKey) → lists_at judged.second k ≡ step k 0 local_now (payload_at first k) (stood k (payload_at first k))
  second_step k = second_lists k ∙ ap (step k 0 local_now (payload_at first k)) (lists_placed state s is first placed k)

  third_step : (k : EntityKey) → lists_at judged.third k ≡ step k 1 paired_now (payload_at first k) (step k 0 local_now (payload_at first k) (stood k (payload_at first k)))
  third_step k = third_lists k ∙ ap (λ o. step k 1 paired_now o (lists_at judged.second k)) (payload_second k) ∙ ap (step k 1 paired_now (payload_at first k)) (second_step k)

  fourth_step : (k : EntityKey) → lists_at judged.fourth k ≡ step k 2 bounded_now (payload_at first k) (step k 1 paired_now (payload_at first k) (step k 0 local_now (payload_at first k) (stood k (payload_at first k))))
  fourth_step k = fourth_lists k ∙ ap (λ o. step k 2 bounded_now o (lists_at judged.third k)) (payload_third k) ∙ ap (step k 2 bounded_now (payload_at first k)) (third_step k)

  last_step : (k : EntityKey) → lists_at last k ≡ steps k (payload_at first k) (stood k (payload_at first k))
  last_step k = last_lists k ∙ ap (λ o. step k 3 peaked_now o (lists_at judged.fourth k)) (payload_fourth k) ∙ ap (step k 3 peaked_now (payload_at first k)) (fourth_step k)

  pub lists_last : (k : EntityKey) → lists_at last k ≡ option_map (lists_now k) (payload_at first k)
  lists_last k = last_step k ∙ go (payload_at first k)
    where
      go : (o : Option (List ℕ)) → steps k o (stood k o) ≡ option_map (lists_now k) o
      go None = refl
      go (Some p) = refl

  -- ---- and what was told there
  abbrev pub part_told : EntityKey → ℕ → Told
  part_told k part = told_between (list_under first k part) (list_under last k part)

  renewed_is : (k : EntityKey) (part : ℕ) (find : FindPart) → [] ≡ list_of no_lists part → ((p : List ℕ) → renewed (list_under old k part) n (find k (entity_of p)) ≡ list_of (lists_now k p) part) →
      renewed (list_under first k part) n (found_in find k (payload_at first k)) ≡ list_under last k part
  renewed_is k part find none some =
      ap (λ (x : Option Lists). renewed (list_of (unwrap_or x no_lists) part) n (found_in find k (payload_at first k))) (lists_placed state s is first placed k)
      ∙ go (payload_at first k)
      ∙ sym (ap (λ (x : Option Lists). list_of (unwrap_or x no_lists) part) (lists_last k))
    where
      go : (o : Option (List ℕ)) → renewed (list_of (unwrap_or (stood k o) no_lists) part) n (found_in find k o) ≡ list_of (unwrap_or (option_map (lists_now k) o) no_lists) part
      go None = none
      go (Some p) = some p

  second_paired : (k : EntityKey) → list_under judged.second k 1 ≡ list_under first k 1
  second_paired k = other_list 0 1 (λ l xs. refl) _ (lists_at first k) (lists_at judged.second k) (second_lists k)

  third_bounded : (k : EntityKey) → list_under judged.third k 2 ≡ list_under first k 2
  third_bounded k =
      other_list 1 2 (λ l xs. refl) _ (lists_at judged.second k) (lists_at judged.third k) (third_lists k)
      ∙ other_list 0 2 (λ l xs. refl) _ (lists_at first k) (lists_at judged.second k) (second_lists k)

  fourth_peaked : (k : EntityKey) → list_under judged.fourth k 3 ≡ list_under first k 3
  fourth_peaked k =
      other_list 2 3 (λ l xs. refl) _ (lists_at judged.third k) (lists_at judged.fourth k) (fourth_lists k)
      ∙ other_list 1 3 (λ l xs. refl) _ (lists_at judged.second k) (lists_at judged.third k) (third_lists k)
      ∙ other_list 0 3 (λ l xs. refl) _ (lists_at first k) (lists_at judged.second k) (second_lists k)

  -- a list renewed, told
  abbrev told_by : EntityKey → FindPart → Option (List ℕ) → List Standing → Told
  told_by k find o xs = told_between xs (renewed xs n (found_in find k o))

  second_told : (k : EntityKey) → told_at judged.second_told k ≡ plus (told_at before k) (part_told k 0)
  second_told k =
      told_all 0 n local_now local_now local first judged.second before judged.second_told judged.local_is (λ q. found_rises local_now (local_rises t) q (payload_at first q)) (λ q m. refl) local_stays k
      ∙ ap (λ xs. plus (told_at before k) (told_between (list_under first k 0) xs)) (renewed_is k 0 local_now refl (λ p. refl))

  third_told : (k : EntityKey) → told_at judged.third_told k ≡ plus (told_at judged.second_told k) (part_told k 1)
  third_told k =
      told_all 1 n (paired_found rows) paired_now paired judged.second judged.third judged.second_told judged.third_told judged.paired_is (λ q. found_rises paired_now (paired_rises (rows_held later)) q (payload_at judged.second q))
      (λ q m. paired_same q) paired_stays k
      ∙ ap (λ xs. plus (told_at judged.second_told k) (told_by k paired_now (payload_at judged.second k) xs)) (second_paired k)
      ∙ ap (λ o. plus (told_at judged.second_told k) (told_by k paired_now o (list_under first k 1))) (payload_second k)
      ∙ ap (λ xs. plus (told_at judged.second_told k) (told_between (list_under first k 1) xs)) (renewed_is k 1 paired_now refl (λ p. refl))

  fourth_told : (k : EntityKey) → told_at judged.fourth_told k ≡ plus (told_at judged.third_told k) (part_told k 2)
  fourth_told k =
      told_all 2 n (bounded_found (timestamp_of (header_of s.bytes)) s.moment) bounded_now bounded judged.third judged.fourth judged.third_told judged.fourth_told judged.bounded_is
      (λ q. found_rises bounded_now (λ x e. by_rises (later x.feed).last x e) q (payload_at judged.third q)) bounded_same bounded_beside k
      ∙ ap (λ xs. plus (told_at judged.third_told k) (told_by k bounded_now (payload_at judged.third k) xs)) (third_bounded k)
      ∙ ap (λ o. plus (told_at judged.third_told k) (told_by k bounded_now o (list_under first k 2))) (payload_third k)
      ∙ ap (λ xs. plus (told_at judged.third_told k) (told_between (list_under first k 2) xs)) (renewed_is k 2 bounded_now refl (λ p. refl))

  pub told_last : (k : EntityKey) → told_at after k ≡ plus (plus (plus (plus (told_at before k) (part_told k 0)) (part_told k 1)) (part_told k 2)) (part_told k 3)
  told_last k =
      told_all 3 n (peaked_found peaks) peaked_now peaked judged.fourth last judged.fourth_told after judged.peaked_is
      (λ q. found_rises peaked_now (peaked_rises (λ f. (later f).peaks)) q (payload_at judged.fourth q)) (λ q m. peaked_all q) peaked_beside k
      ∙ ap (λ xs. plus (told_at judged.fourth_told k) (told_by k peaked_now (payload_at judged.fourth k) xs)) (fourth_peaked k)
      ∙ ap (λ o. plus (told_at judged.fourth_told k) (told_by k peaked_now o (list_under first k 3))) (payload_fourth k)
      ∙ ap (λ xs. plus (told_at judged.fourth_told k) (told_between (list_under first k 3) xs)) (renewed_is k 3 peaked_now refl (λ p. refl))
      ∙ ap (λ x. plus x (part_told k 3)) (fourth_told k ∙ ap (λ x. plus x (part_told k 2)) (third_told k ∙ ap (λ x. plus x (part_told k 1)) (second_told k)))

  -- ---- what is cached then
  found_now : (k : EntityKey) (part : ℕ) (find : FindPart) → list_of no_lists part ≡ [] → ((p : List ℕ) → list_of (lists_now k p) part ≡ renewed (list_under old k part) n (find k (entity_of p))) →
      findings_of (list_under last k part) ≡ found_under find last k
  found_now k part find none some =
      ap (λ (x : Option Lists). findings_of (list_of (unwrap_or x no_lists) part)) (lists_last k)
      ∙ go (payload_at first k)
      ∙ ap (found_in find k) (sym (payload_last k))
    where
      go : (o : Option (List ℕ)) → findings_of (list_of (unwrap_or (option_map (lists_now k) o) no_lists) part) ≡ found_in find k o
      go None = ap findings_of none
      go (Some p) = ap findings_of (some p) ∙ findings-renewed (list_under old k part) n (find k (entity_of p))

  pub cached_then : AreCached t last later
  cached_then = record {
    local_are = λ k. found_now k 0 local_now refl (λ p. refl);
    paired_are = λ k. found_now k 1 paired_now refl (λ p. refl);
    bounded_are = λ k. found_now k 2 bounded_now refl (λ p. refl);
    peaked_are = λ k. found_now k 3 peaked_now refl (λ p. refl);
  }
