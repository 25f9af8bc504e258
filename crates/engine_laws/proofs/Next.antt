-- One more snapshot, by what is held of each feed.
use Rattle.std.specs.Prelude.{◌≡◌, ℕ, ◌<◌, ◌==◌, Bool, true, false, cond, List, [], ◌∷◌, length, map, filter, Option, Some, None, unwrap_or, refl}
use Rattle.std.specs.declared.cmp.Ordering.TheVariants.{Less}
use Rattle.std.proofs.Common.{sym, ◌∙◌, ap, subst, eq-eqb}
use Rattle.std.proofs.Math.Path.{fun_ext}
use borrow.Author.Tests.{eqb-true}
use Rattle.timetable.specs.Timetables.{Tables}
use Rattle.rule_table.specs.declared.key.EntityKey.{EntityKey}
use Rattle.rule_table.specs.declared.place.Place.{Place}
use Rattle.rule_table.specs.declared.place.Place.TheVariants as place
use Rattle.rule_table.specs.Order.{same_key}
use Rattle.rule_table.specs.Found.{Found}
use Rattle.rule_table.specs.Groups.{Each, IsOn}
use Rattle.rule_table.specs.GroupLaws.{each_weaken}
use Rattle.rule_table.specs.Answers.{Gathered}
use Rattle.rule_table.specs.Peaks.{PeakMap}
use Rattle.rule_table.specs.Pairs.{PairRow}
use Rattle.rule_history.specs.History.{Snapshot, Keyed, now, before, entities, entities_in, entities_of_snapshot, below, feed_limit}
use Rattle.rule_history.specs.Answered.{rows, rows_in, gathered}
use Rattle.rule_history.specs.Peaks.{peak, raised_by}
use Rattle.rule_history.specs.Findings.{findings}
use Rattle.rule_history.specs.Changed.{with}
use Rattle.rule_history.specs.Standing.{Standing, opened, closed}
use Rattle.engine_laws.specs.Order.{found_cmp, Rises}
use Rattle.engine_laws.specs.HeldFeeds.{KeyedLists, HeldFeed, AreOn, AreUnder, AreApart, IsLastOf, IsOwn, KeyedFindings, found_list, AreFoundAt, header_found, list_under, joined, no_feed, rows_held, gathered_held, head_found, entity_found, entities_found, renewed_lists, IsNext, opened_in, closed_in}
use Rattle.engine_laws.specs.Standings.{findings_of, since_in, renewed, IsListOf}
use Rattle.engine_laws.proofs.Apart.{having-header}
use Rattle.engine_laws.proofs.Ascending.{head_ascends, head_on, entity_under, less_apart}
use Rattle.engine_laws.proofs.Joined.{joined_renewed, opened_joined, closed_joined}
use Rattle.engine_laws.proofs.Lists.{below-same, filter-all}
use Rattle.engine_laws.proofs.Longer.{now-feed, now-other, now-same, before-other, before-same, findings-parts}
use Rattle.engine_laws.proofs.Peaking.{peaks_raise, raised_same}
use Rattle.engine_laws.proofs.Since.{findings-renewed, renewed-same, list_more}
use Rattle.engine_laws.proofs.Sorted.{entities_rise, entities_feed, apart_rising}
use Rattle.engine_laws.proofs.Spots.{spot_self, having}

-- ---- a list in order numbers itself
pub renewed-itself : (xs : List Standing) (n : ℕ) → Rises found_cmp (findings_of xs) → renewed xs n (findings_of xs) ≡ xs
renewed-itself [] n h = refl
renewed-itself (x ∷ xs) n h =
    cons2
    (ap (λ b. let y : Standing = record { finding = x.finding; since = unwrap_or (cond b (Some x.since) (since_in xs x.finding)) n } in y) (spot_self x.finding))
    (renewed-same (x ∷ xs) xs n (findings_of xs)
    (each_weaken (λ f. found_cmp x.finding f ≡ Less) (λ f. since_in (x ∷ xs) f ≡ since_in xs f) (λ f l. ap (λ b. cond b (Some x.since) (since_in xs f)) (less_apart x.finding f l)) (findings_of xs) h.0)
    ∙ renewed-itself xs n h.1)
  where
    cons2 : {x y : Standing} {xs ys : List Standing} → x ≡ y → xs ≡ ys → x ∷ xs ≡ y ∷ ys
    cons2 h k = cc

-- ---- findings by what is at hand are at their own places
own_lists : (t : Option Tables) (u : Gathered) (s : Snapshot) (es : List Keyed) → Each (λ c. AreUnder c.0 c.1) (map {B = EntityKey × List Found} (λ e. (e.0, entity_found t u s e)) es)
own_lists t u s [] = tt
own_lists t u s (e ∷ es) = (entity_under t u s e, own_lists t u s es)

keyed_feeds : (t : Option Tables) (u : Gathered) (s : Snapshot) (f : ℕ) (es : List Keyed) → Each (λ e. e.0.feed ≡ f) es → Each (λ c. c.0.feed ≡ f) (map {B = EntityKey × List Found} (λ e. (e.0, entity_found t u s e)) es)
keyed_feeds t u s f [] h = tt
keyed_feeds t u s f (e ∷ es) h = (h.0, keyed_feeds t u s f es h.1)

apart_lists : (t : Option Tables) (u : Gathered) (s : Snapshot) (old : KeyedLists) (m : ℕ) (es : List Keyed) → AreApart es → AreApart (renewed_lists old m (map (λ e. (e.0, entity_found t u s e)) es))
apart_lists t u s old m [] h = tt
apart_lists t u s old m (e ∷ es) h = (far es h.0, apart_lists t u s old m es h.1)
  where
    far : (ds : List Keyed) → Each (λ d. same_key e.0 d.0 ≡ false) ds → Each (λ d. same_key e.0 d.0 ≡ false) (renewed_lists old m (map (λ e. (e.0, entity_found t u s e)) ds))
    far [] k = tt
    far (d ∷ ds) k = (k.0, far ds k.1)

pub found_own : (t : Option Tables) (u : Gathered) (f : ℕ) (n b : Option Snapshot) → IsLastOf f n → AreFoundAt f (header_found n b) (entities_found t u n)
found_own t u f None b of = record { head_on = tt; under = tt; of_feed = tt }
found_own t u f (Some s) b of = record {
  head_on = subst (λ g. AreOn g (head_found s b)) of (head_on s b);
  under = own_lists t u s (entities_in s.feed s.bytes);
  of_feed = subst (λ g. Each (λ c. c.0.feed ≡ g) (entities_found t u (Some s))) of (keyed_feeds t u s s.feed (entities_in s.feed s.bytes) (entities_feed s.feed s.bytes));
}

apart_in : (t : Option Tables) (u : Gathered) (n : Option Snapshot) (old : KeyedLists) (m : ℕ) → AreApart (renewed_lists old m (entities_found t u n))
apart_in t u None old m = tt
apart_in t u (Some s) old m = apart_lists t u s old m (entities_in s.feed s.bytes) (apart_rising (entities_in s.feed s.bytes) (entities_rise s.feed s.bytes))

under_renewed : (old : KeyedLists) (m : ℕ) (keyed : KeyedFindings) → Each (λ c. AreUnder c.0 c.1) keyed → Each (λ c. AreUnder c.0 (findings_of c.1)) (renewed_lists old m keyed)
under_renewed old m [] h = tt
under_renewed old m (c ∷ keyed) h = (subst (AreUnder c.0) (sym (findings-renewed (list_under c.0 old) m c.1)) h.0, under_renewed old m keyed h.1)

feeds_renewed : (f : ℕ) (old : KeyedLists) (m : ℕ) (keyed : KeyedFindings) → Each (λ c. c.0.feed ≡ f) keyed → Each (λ c. c.0.feed ≡ f) (renewed_lists old m keyed)
feeds_renewed f old m [] h = tt
feeds_renewed f old m (c ∷ keyed) h = (h.0, feeds_renewed f old m keyed h.1)

-- a room whose lists are renewed from whatever lists
own_renewed : (t : Option Tables) (u : Gathered) (f : ℕ) (n b : Option Snapshot) (old : KeyedLists) (m : ℕ) (held : HeldFeed) → IsLastOf f n → held.last ≡ n → AreOn f (findings_of held.header) → held.entities ≡ renewed_lists old m (entities_found t u n) → IsOwn f held
own_renewed t u f n b old m held of last on lists = record {
  last_of = subst (IsLastOf f) (sym last) of;
  head_on = on;
  under_keys = subst (Each (λ c. AreUnder c.0 (findings_of c.1))) (sym lists) (under_renewed old m (entities_found t u n) (found_own t u f n b of).under);
  of_feed = subst (Each (λ c. c.0.feed ≡ f)) (sym lists) (feeds_renewed f old m (entities_found t u n) (found_own t u f n b of).of_feed);
  apart = subst AreApart (sym lists) (apart_in t u n old m);
}

-- ---- what is held of a history, numbered at will
abbrev history_feed : Option Tables → List Snapshot → ℕ → HeldFeed
history_feed t h f = record {
  last = now h f;
  header = renewed [] 0 (header_found (now h f) (before h f));
  entities = renewed_lists [] 0 (entities_found t (gathered h) (now h f));
  peaks = peak h f;
}

pub last_now : (h : List Snapshot) (f : ℕ) → IsLastOf f (now h f)
last_now h f = go (now h f) refl
  where
    go : (n : Option Snapshot) → now h f ≡ n → IsLastOf f n
    go None e = tt
    go (Some s) e = now-feed h f s e

history_own : (t : Option Tables) (h : List Snapshot) (f : ℕ) → IsOwn f (history_feed t h f)
history_own t h f =
    own_renewed t (gathered h) f (now h f) (before h f) [] 0 (history_feed t h f) (last_now h f) refl
    (subst (AreOn f) (sym (findings-renewed [] 0 (header_found (now h f) (before h f)))) (found_own t (gathered h) f (now h f) (before h f) (last_now h f)).head_on) refl

abbrev empty_feed : ℕ → HeldFeed
empty_feed f = no_feed

empty_own : (f : ℕ) → IsOwn f (empty_feed f)
empty_own f = record { last_of = tt; head_on = tt; under_keys = tt; of_feed = tt; apart = tt }

feeds-found : (t : Option Tables) (h : List Snapshot) → findings_of (joined (history_feed t h)) ≡ findings t h
feeds-found t h =
    ap findings_of
    (joined_renewed empty_feed empty_own 0 (history_feed t h) (λ f. header_found (now h f) (before h f)) (λ f. entities_found t (gathered h) (now h f))
    (λ f l. found_own t (gathered h) f (now h f) (before h f) (last_now h f)) (λ f l. refl) (λ f l. refl))
    ∙ findings-renewed (joined empty_feed) 0 (below (λ f. found_list (header_found (now h f) (before h f)) (entities_found t (gathered h) (now h f))) feed_limit)
    ∙ sym (findings-parts t h)

-- ---- what a list has on the header of a feed
abbrev is_head_of : ℕ → Place → Bool
is_head_of f (place.Head g s) = g == f
is_head_of f (place.Entity k p) = false

abbrev is_on : ℕ → Found → Bool
is_on f x = is_head_of f x.place

on_sound : (f : ℕ) (p : Place) → is_head_of f p ≡ true → IsOn f p
on_sound f (place.Head g s) e = eqb-true g f e
on_sound f (place.Entity k p) e = cc

on_whole : (f : ℕ) (p : Place) → IsOn f p → is_head_of f p ≡ true
on_whole f (place.Head g s) m = eq-eqb g f m
on_whole f (place.Entity k p) m = absurd m

filter-findings : (test : Found → Bool) (xs : List Standing) → filter test (findings_of xs) ≡ findings_of (having test xs)
filter-findings test [] = refl
filter-findings test (x ∷ xs) =
    elim (test x.finding) as (λ b. cond b (x.finding ∷ filter test (findings_of xs)) (filter test (findings_of xs)) ≡ findings_of (cond b (x ∷ having test xs) (having test xs))) [
      | true ↦ ap (λ fs. x.finding ∷ fs) (filter-findings test xs)
      | false ↦ filter-findings test xs
    ]

head-alone : (feeds : ℕ → HeldFeed) → ((f : ℕ) → IsOwn f (feeds f)) → (f : ℕ) → f < feed_limit → filter (is_on f) (findings_of (joined feeds)) ≡ findings_of (feeds f).header
head-alone feeds home f l =
    filter-findings (is_on f) (joined feeds)
    ∙ ap findings_of (having-header feeds home f (is_on f) l (λ x e. on_sound f x.place e))
    ∙ sym (filter-findings (is_on f) (feeds f).header)
    ∙ filter-all (is_on f) (findings_of (feeds f).header) (each_weaken (λ x. IsOn f x.place) (λ x. is_on f x ≡ true) (λ x m. on_whole f x.place m) (findings_of (feeds f).header) (home f).head_on)

-- where all lists joined have the findings of a history, the list of each header has those of that header
pub header_stands : (t : Option Tables) (h : List Snapshot) (feeds : ℕ → HeldFeed) → ((f : ℕ) → IsOwn f (feeds f)) → findings_of (joined feeds) ≡ findings t h → (f : ℕ) → f < feed_limit → findings_of (feeds f).header ≡ header_found (now h f) (before h f)
header_stands t h feeds home e f l =
    sym (head-alone feeds home f l)
    ∙ ap (filter (is_on f)) (e ∙ sym (feeds-found t h))
    ∙ head-alone (history_feed t h) (history_own t h) f l
    ∙ findings-renewed [] 0 (header_found (now h f) (before h f))

header_ascends : (n b : Option Snapshot) → Rises found_cmp (header_found n b)
header_ascends None b = tt
header_ascends (Some s) b = head_ascends s b

-- ---- one more snapshot
pub gathered_same : {u v : List PairRow} {p q : PeakMap} → u ≡ v → p ≡ q → (let r : Gathered = record { rows = u; peaks = p } in r) ≡ (let r : Gathered = record { rows = v; peaks = q } in r)
gathered_same {u} {v} {p} {q} h k = ap (λ w. let r : Gathered = record { rows = w; peaks = p } in r) h ∙ ap (λ w. let r : Gathered = record { rows = v; peaks = w } in r) k

module _ (t : Option Tables) (applied : ℕ) (s : Snapshot) (old new : ℕ → HeldFeed) (home : (f : ℕ) → IsOwn f (old f)) (is : IsNext t applied s old new) where
  last_later : (f : ℕ) → IsLastOf f (new f).last
  last_later f =
      subst (IsLastOf f) (sym (is.last f))
      (elim (s.feed == f) as (λ b. (s.feed == f) ≡ b → IsLastOf f (cond b (Some s) (old f).last)) [ true ↦ λ e. eqb-true s.feed f e | false ↦ λ _. (home f).last_of ] refl)

  -- the lists after it are at their own places too
  pub next_own : (f : ℕ) → IsOwn f (new f)
  next_own f = own_renewed t (gathered_held new) f (new f).last None (old f).entities applied (new f) (last_later f) refl on (is.entities f)
    where
      on : AreOn f (findings_of (new f).header)
      on =
          elim (s.feed == f) as (λ b. (s.feed == f) ≡ b → AreOn f (findings_of (new f).header)) [
            | true ↦ λ e.
                subst (λ g. AreOn g (findings_of (new g).header)) (eqb-true s.feed f e)
                (subst (λ xs. AreOn s.feed (findings_of xs)) (sym is.header)
                (subst (AreOn s.feed) (sym (findings-renewed (old s.feed).header applied (head_found s (old s.feed).last))) (head_on s (old s.feed).last)))
            | false ↦ λ e. subst (λ xs. AreOn f (findings_of xs)) (sym (is.headers_stay f e)) (home f).head_on
          ] refl

  module _ (h : List Snapshot) (number : applied ≡ length h) (found : findings_of (joined old) ≡ findings t h) (kept : (f : ℕ) → (old f).last ≡ now h f)
      (peaks_kept : (f : ℕ) (vehicle : List ℕ) → (old f).peaks vehicle ≡ peak h f vehicle) where
    -- the last snapshots are those of the longer history
    pub next_last : (f : ℕ) → (new f).last ≡ now (with h s) f
    next_last f =
        is.last f ∙
        elim (s.feed == f) as (λ b. (s.feed == f) ≡ b → cond b (Some s) (old f).last ≡ now (with h s) f) [
          | true ↦ λ e. sym (now-same h s f e)
          | false ↦ λ e. kept f ∙ sym (now-other h s f e)
        ] refl

    pub next_rows : rows_held new ≡ rows (with h s)
    next_rows = below-same (λ f. rows_in (entities_of_snapshot (new f).last)) (λ f. rows_in (entities (with h s) f)) feed_limit (λ f l. ap (λ n. rows_in (entities_of_snapshot n)) (next_last f))

    pub next_peaks : (f : ℕ) (vehicle : List ℕ) → (new f).peaks vehicle ≡ peak (with h s) f vehicle
    next_peaks f vehicle =
        is.peaks f vehicle ∙
        elim (s.feed == f) as (λ b. cond b (raised_by (old f).last (old f).peaks vehicle) ((old f).peaks vehicle) ≡ cond b (raised_by (now h f) (peak h f) vehicle) (peak h f vehicle)) [
          | true ↦ ap (λ n. raised_by n (old f).peaks vehicle) (kept f) ∙ raised_same (now h f) (old f).peaks (peak h f) vehicle (peaks_kept f vehicle)
          | false ↦ peaks_kept f vehicle
        ]
        ∙ sym (peaks_raise h s f vehicle)

    next_gathered : gathered_held new ≡ gathered (with h s)
    next_gathered = gathered_same next_rows (fun_ext (λ f. fun_ext (λ vehicle. next_peaks f vehicle)))

    next_header : (f : ℕ) → f < feed_limit → (new f).header ≡ renewed (old f).header applied (header_found (now (with h s) f) (before (with h s) f))
    next_header f l =
        elim (s.feed == f) as (λ b. (s.feed == f) ≡ b → (new f).header ≡ renewed (old f).header applied (header_found (now (with h s) f) (before (with h s) f))) [
          | true ↦ λ e.
              subst (λ g. (new g).header ≡ renewed (old g).header applied (head_found s (old g).last)) (eqb-true s.feed f e) is.header
              ∙ ap (λ b. renewed (old f).header applied (header_found (Some s) b)) (kept f ∙ sym (before-same h s f e))
              ∙ ap (λ n. renewed (old f).header applied (header_found n (before (with h s) f))) (sym (now-same h s f e))
          | false ↦ λ e.
              let stood : findings_of (old f).header ≡ header_found (now h f) (before h f) = header_stands t h old home found f l in
              is.headers_stay f e
              ∙ sym (renewed-itself (old f).header applied (subst (λ (xs : List Found). Rises found_cmp xs) (sym stood) (header_ascends (now h f) (before h f))))
              ∙ ap (renewed (old f).header applied) (stood ∙ ap (λ n. header_found n (before h f)) (sym (now-other h s f e)) ∙ ap (header_found (now (with h s) f)) (sym (before-other h s f e)))
        ] refl

    next_lists : (f : ℕ) → (new f).entities ≡ renewed_lists (old f).entities applied (entities_found t (gathered (with h s)) (now (with h s) f))
    next_lists f = is.entities f ∙ ap (λ u. renewed_lists (old f).entities applied (entities_found t u (new f).last)) next_gathered ∙ ap (λ n. renewed_lists (old f).entities applied (entities_found t (gathered (with h s)) n)) (next_last f)

    -- all lists joined are the findings of the longer history, with their numbers in the lists before
    pub next_renewed : joined new ≡ renewed (joined old) (length h) (findings t (with h s))
    next_renewed =
        sym (ap (λ n. renewed (joined old) n (findings t (with h s))) (sym number)
        ∙ ap (renewed (joined old) applied) (findings-parts t (with h s))
        ∙ sym (joined_renewed old home applied new (λ f. header_found (now (with h s) f) (before (with h s) f)) (λ f. entities_found t (gathered (with h s)) (now (with h s) f))
        (λ f l. found_own t (gathered (with h s)) f (now (with h s) f) (before (with h s) f) (last_now (with h s) f)) next_header (λ f l. next_lists f)))

    pub next_found : findings_of (joined new) ≡ findings t (with h s)
    next_found = ap findings_of next_renewed ∙ findings-renewed (joined old) (length h) (findings t (with h s))

    pub next_listed : IsListOf t h (joined old) → IsListOf t (with h s) (joined new)
    next_listed listed = subst (IsListOf t (with h s)) (sym next_renewed) (list_more t h s (joined old) listed)

    -- what opened and closed list by list is what opened and closed
    pub next_opened : below (λ f. opened_in (old f) (new f)) feed_limit ≡ opened (findings t h) (joined new)
    next_opened = sym (opened_joined old home new next_own) ∙ ap (λ fs. opened fs (joined new)) found

    pub next_closed : below (λ f. closed_in (old f) (new f)) feed_limit ≡ closed (findings t h) (findings t (with h s))
    next_closed = sym (closed_joined old home new next_own) ∙ ap (λ fs. closed fs (findings_of (joined new))) found ∙ ap (closed (findings t h)) next_found
