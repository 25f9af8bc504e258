-- What is owed for another timetable, by what is held of each feed, is what is found with it after the same history.
use Rattle.std.specs.Prelude.{◌≡◌, ℕ, ◌<◌, ◌-◌, false, List, [], ◌∷◌, map, length, Option, Some, None, refl}
use Rattle.std.proofs.Common.{sym, ap, ◌∙◌, subst}
use Rattle.std.proofs.Math.Path.{fun_ext}
use Rattle.timetable.specs.Timetables.{Tables}
use Rattle.rule_table.specs.declared.key.EntityKey.{EntityKey}
use Rattle.rule_table.specs.Answers.{Gathered}
use Rattle.rule_table.specs.Found.{Found}
use Rattle.rule_table.specs.Groups.{Each}
use Rattle.rule_table.specs.Order.{same_key}
use Rattle.rule_history.specs.Answered.{gathered, rows, rows_in}
use Rattle.rule_history.specs.Findings.{findings}
use Rattle.rule_history.specs.History.{Keyed, Snapshot, before, below, entities, entities_in, entities_of_snapshot, feed_limit, now}
use Rattle.rule_history.specs.Peaks.{peak}
use Rattle.rule_history.specs.Standing.{Spot, Standing, closed, opened}
use Rattle.engine_laws.specs.HeldFeeds.{AreApart, AreOn, AreOwn, AreUnder, HeldFeed, IsJoined, IsLastOf, IsOwn, KeyedFindings, KeyedLists, closed_in, entities_found, entity_found, gathered_held, header_found, joined, list_under, opened_in, renewed_lists, rows_held}
use Rattle.engine_laws.specs.Order.{found_cmp, Rises}
use Rattle.engine_laws.specs.Standings.{Held, Matches, findings_of, renewed}
use Rattle.engine_laws.proofs.Ascending.{head_ascends}
use Rattle.engine_laws.proofs.Joined.{closed_joined, joined_renewed, opened_joined}
use Rattle.engine_laws.proofs.Lists.{below-same}
use Rattle.engine_laws.proofs.Longer.{findings-parts}
use Rattle.engine_laws.proofs.Next.{found_own, gathered_same, header_stands, last_now, renewed-itself}
use Rattle.engine_laws.proofs.Since.{findings-renewed}
use Rattle.engine_laws.proofs.Sorted.{apart_rising, entities_rise}
use Rattle.exchanged_timetables.specs.Exchange.{IsExchange}
use Rattle.exchanged_timetables.specs.Laws.{ExchangeRetables}
use Rattle.exchanged_timetables.specs.Retabled.{IsRetabled, OpensAndCloses}

-- ---- lists renewed stay at their own places
under_renewed : (old : KeyedLists) (n : ℕ) (keyed : KeyedFindings) → Each (λ c. AreUnder c.0 c.1) keyed → Each (λ c. AreUnder c.0 (findings_of c.1)) (renewed_lists old n keyed)
under_renewed old n [] h = tt
under_renewed old n (c ∷ keyed) h = (subst (AreUnder c.0) (sym (findings-renewed (list_under c.0 old) n c.1)) h.0, under_renewed old n keyed h.1)

feeds_renewed : (f : ℕ) (old : KeyedLists) (n : ℕ) (keyed : KeyedFindings) → Each (λ c. c.0.feed ≡ f) keyed → Each (λ c. c.0.feed ≡ f) (renewed_lists old n keyed)
feeds_renewed f old n [] h = tt
feeds_renewed f old n (c ∷ keyed) h = (h.0, feeds_renewed f old n keyed h.1)

apart_lists : (u : Option Tables) (g : Gathered) (s : Snapshot) (old : KeyedLists) (n : ℕ) (es : List Keyed) → AreApart es → AreApart (renewed_lists old n (map (λ e. (e.0, entity_found u g s e)) es))
apart_lists u g s old n [] h = tt
apart_lists u g s old n (e ∷ es) h = (far es h.0, apart_lists u g s old n es h.1)
  where
    far : (ds : List Keyed) → Each (λ d. same_key e.0 d.0 ≡ false) ds → Each (λ d. same_key e.0 d.0 ≡ false) (renewed_lists old n (map (λ e. (e.0, entity_found u g s e)) ds))
    far [] k = tt
    far (d ∷ ds) k = (k.0, far ds k.1)

apart_in : (u : Option Tables) (g : Gathered) (o : Option Snapshot) (old : KeyedLists) (n : ℕ) → AreApart (renewed_lists old n (entities_found u g o))
apart_in u g None old n = tt
apart_in u g (Some s) old n = apart_lists u g s old n (entities_in s.feed s.bytes) (apart_rising (entities_in s.feed s.bytes) (entities_rise s.feed s.bytes))

header_ascends : (n b : Option Snapshot) → Rises found_cmp (header_found n b)
header_ascends None b = tt
header_ascends (Some s) b = head_ascends s b

module _ (u : Option Tables) (n : ℕ) (old new : ℕ → HeldFeed) (home : AreOwn old) (is : IsExchange u n old new) where
  pub exchange_own : AreOwn new
  exchange_own f = record {
    last_of = last_of;
    head_on = subst (λ (xs : List Standing). AreOn f (findings_of xs)) (sym (is.header f)) (home f).head_on;
    under_keys = subst (λ (cs : KeyedLists). Each (λ c. AreUnder c.0 (findings_of c.1)) cs) (sym (is.entities f)) (under_renewed (old f).entities n found (found_own u (gathered_held new) f (new f).last None last_of).under);
    of_feed = subst (λ (cs : KeyedLists). Each (λ c. c.0.feed ≡ f) cs) (sym (is.entities f)) (feeds_renewed f (old f).entities n found (found_own u (gathered_held new) f (new f).last None last_of).of_feed);
    apart = subst (λ (cs : KeyedLists). AreApart cs) (sym (is.entities f)) (apart_in u (gathered_held new) (new f).last (old f).entities n);
  }
    where
      last_of : IsLastOf f (new f).last
      last_of = subst (IsLastOf f) (sym (is.last f)) (home f).last_of

      found : KeyedFindings
      found = entities_found u (gathered_held new) (new f).last

  -- ---- after a history
  module _ (t : Option Tables) (h : List Snapshot) (found : findings_of (joined old) ≡ findings t h) (kept : (f : ℕ) → (old f).last ≡ now h f)
      (peaks_kept : (f : ℕ) (vehicle : List ℕ) → (old f).peaks vehicle ≡ peak h f vehicle) where
    pub last_then : (f : ℕ) → (new f).last ≡ now h f
    last_then f = is.last f ∙ kept f

    pub peaks_then : (f : ℕ) (vehicle : List ℕ) → (new f).peaks vehicle ≡ peak h f vehicle
    peaks_then f vehicle = is.peaks f vehicle ∙ peaks_kept f vehicle

    rows_then : rows_held new ≡ rows h
    rows_then = below-same (λ f. rows_in (entities_of_snapshot (new f).last)) (λ f. rows_in (entities h f)) feed_limit (λ f l. ap (λ o. rows_in (entities_of_snapshot o)) (last_then f))

    gathered_then : gathered_held new ≡ gathered h
    gathered_then = gathered_same rows_then (fun_ext (λ f. fun_ext (λ vehicle. peaks_then f vehicle)))

    header_then : (f : ℕ) → f < feed_limit → (new f).header ≡ renewed (old f).header n (header_found (now h f) (before h f))
    header_then f l =
        let stood : findings_of (old f).header ≡ header_found (now h f) (before h f) = header_stands t h old home found f l in
        is.header f
        ∙ sym (ap (renewed (old f).header n) (sym stood) ∙ renewed-itself (old f).header n (subst (λ (xs : List Found). Rises found_cmp xs) (sym stood) (header_ascends (now h f) (before h f))))

    lists_then : (f : ℕ) → (new f).entities ≡ renewed_lists (old f).entities n (entities_found u (gathered h) (now h f))
    lists_then f =
        is.entities f ∙ ap (λ g. renewed_lists (old f).entities n (entities_found u g (new f).last)) gathered_then
        ∙ ap (λ o. renewed_lists (old f).entities n (entities_found u (gathered h) o)) (last_then f)

    -- all lists joined are what is found with the other timetable, with their numbers in the lists before
    pub renewed_then : joined new ≡ renewed (joined old) n (findings u h)
    renewed_then =
        joined_renewed old home n new (λ f. header_found (now h f) (before h f)) (λ f. entities_found u (gathered h) (now h f))
        (λ f l. found_own u (gathered h) f (now h f) (before h f) (last_now h f)) header_then (λ f l. lists_then f)
        ∙ ap (renewed (joined old) n) (sym (findings-parts u h))

    pub found_then : findings_of (joined new) ≡ findings u h
    found_then = ap findings_of renewed_then ∙ findings-renewed (joined old) n (findings u h)

    pub opened_then : below (λ f. opened_in (old f) (new f)) feed_limit ≡ opened (findings t h) (joined new)
    opened_then = sym (opened_joined old home new exchange_own) ∙ ap (λ fs. opened fs (joined new)) found

    pub closed_then : below (λ f. closed_in (old f) (new f)) feed_limit ≡ closed (findings t h) (findings u h)
    closed_then = sym (closed_joined old home new exchange_own) ∙ ap (λ fs. closed fs (findings_of (joined new))) found ∙ ap (closed (findings t h)) found_then

pub exchange_retables : ExchangeRetables
exchange_retables e later old new home held holds number is opens closes opens_are closes_are t h m = record {
  matches = record {
    table_is = refl;
    number = number ∙ m.number;
    last_is = λ f. holds.last_is f ∙ last_then later.table (e.applied - 1) old new home is t h found kept peaks_kept f;
    peaks_are = λ f vehicle. holds.peaks_are f vehicle ∙ peaks_then later.table (e.applied - 1) old new home is t h found kept peaks_kept f vehicle;
    found_is = ap findings_of holds.list_is ∙ found_then later.table (e.applied - 1) old new home is t h found kept peaks_kept;
  };
  numbers = holds.list_is ∙ renewed_then later.table (e.applied - 1) old new home is t h found kept peaks_kept
      ∙ ap (λ xs. renewed xs (e.applied - 1) (findings later.table h)) (sym held.list_is)
      ∙ ap (λ n. renewed e.list (n - 1) (findings later.table h)) m.number;
  changes = record {
    opened_is = opens_are ∙ opened_then later.table (e.applied - 1) old new home is t h found kept peaks_kept ∙ ap (opened (findings t h)) (sym holds.list_is);
    closed_is = closes_are ∙ closed_then later.table (e.applied - 1) old new home is t h found kept peaks_kept;
  };
}
  where
    found : findings_of (joined old) ≡ findings t h
    found = ap findings_of (sym held.list_is) ∙ m.found_is

    kept : (f : ℕ) → (old f).last ≡ now h f
    kept f = sym (held.last_is f) ∙ m.last_is f

    peaks_kept : (f : ℕ) (vehicle : List ℕ) → (old f).peaks vehicle ≡ peak h f vehicle
    peaks_kept f vehicle = sym (held.peaks_are f vehicle) ∙ m.peaks_are f vehicle
