-- The laws, from the lemmas of specs/.
use Rattle.std.specs.Prelude.{◌≡◌, ℕ, zero, suc, ◌+◌, ◌==◌, ◌<◌, true, false, cond, List, [], ◌∷◌, ◌++◌, Option, Some, None, length, refl}
use Rattle.std.proofs.Common.{sym, ◌∙◌, ap, subst, length-append, eq-eqb}
use Rattle.std.proofs.Math.Path.{fun_ext}
use borrow.Author.Tests.{eqb-true}
use Rattle.timetable.specs.Timetables.{Tables}
use Rattle.rule_table.specs.Groups.{Each}
use Rattle.rule_history.specs.History.{Snapshot, now, entities_of_snapshot, below, feed_limit}
use Rattle.rule_history.specs.Answered.{rows, rows_in}
use Rattle.rule_history.specs.Findings.{feed_findings, findings}
use Rattle.rule_history.specs.Peaks.{peak}
use Rattle.rule_history.specs.Changed.{with}
use Rattle.rule_history.specs.Standing.{IsSince, stands_after}
use Rattle.engine_laws.proofs.Joined as parts
use Rattle.engine_laws.proofs.Ascending as ascending
use Rattle.engine_laws.proofs.Seats as seats
use Rattle.engine_laws.proofs.Rows as in_rows
use Rattle.engine_laws.proofs.Places as places
use Rattle.engine_laws.specs.Delta.{Delta, IsDelta, IsChange, AreCounts}
use Rattle.engine_laws.specs.Laws.{FindingsRise, FindingsAreParts, HeadersStay, NoneIsLost, SinceGoesOn, SinceStarts, ListGoesOn, PartsRenew, PartsOpen, PartsClose, RowsRise, RowsStay, RowsAgree, NothingStands, DataAreJoined, NextIsOwn, NextMatches, NextNumbers, NextStands, NextChanges, NextIsComputed, CountsAreHeld}
use Rattle.engine_laws.specs.HeldFeeds.{HeldFeed, AreOwn, IsJoined, joined, header_found, head_found, entities_found, renewed_lists, rows_held, rows_after, last_after, gathered_held, gathered_after, peaks_after, held_after, IsNext}
use Rattle.engine_laws.specs.Standings.{Held, Matches, IsListOf, listed, findings_of, renewed}
use Rattle.engine_laws.proofs.Lists.{below-same}
use Rattle.engine_laws.proofs.Longer.{now-other, before-other, head-found, findings-parts}
use Rattle.engine_laws.proofs.Next.{gathered_same, next_own, next_last, next_peaks, next_renewed, next_found}
use Rattle.engine_laws.proofs.Since.{goes_on, starts, list_more}
use Rattle.engine_laws.proofs.Sizes.{change_is, counts_are}

pub findings_rise : FindingsRise
findings_rise = ascending.findings_ascend

pub findings_are_parts : FindingsAreParts
findings_are_parts = findings-parts

pub headers_stay : HeadersStay
headers_stay t h s f last other is =
    head-found t (with h s) f last (now-other h s f other ∙ is)
    ∙ ap (header_found (Some last)) (before-other h s f other)
    ∙ sym (head-found t h f last is)

pub none_is_lost : NoneIsLost
none_is_lost = seats.none_is_lost

pub since_goes_on : SinceGoesOn
since_goes_on = goes_on

pub since_starts : SinceStarts
since_starts = starts

pub list_goes_on : ListGoesOn
list_goes_on = list_more

pub parts_renew : PartsRenew
parts_renew old home n new headers keyed own hs cs = parts.joined_renewed old home n new headers keyed own hs cs

pub parts_open : PartsOpen
parts_open old new home later = parts.opened_joined old home new later

pub parts_close : PartsClose
parts_close old new home later = parts.closed_joined old home new later

pub rows_rise : RowsRise
rows_rise = in_rows.rows_rise

pub rows_stay : RowsStay
rows_stay g h test none = in_rows.same_filters (rows g) (rows h) (in_rows.rows_rise g) (in_rows.rows_rise h) test none

pub rows_agree : RowsAgree
rows_agree = in_rows.rows_agree

pub no_findings : (t : Option Tables) (n : ℕ) → below (λ f. feed_findings t [] f None) n ≡ []
no_findings t zero = refl
no_findings t (suc n) = ap (λ xs. xs ++ []) (no_findings t n)

pub nothing_stands : NothingStands
nothing_stands e number last peaks list = record {
  matches = record {
    table_is = refl;
    number = number;
    last_is = last;
    peaks_are = peaks;
    found_is = ap findings_of list ∙ sym (no_findings e.table feed_limit);
  };
  since = subst (Each (λ x. IsSince (stands_after e.table [] x.finding) 0 x.since)) (sym list) tt;
}

pub data_are_joined : DataAreJoined
data_are_joined = places.data_are_joined

pub next_is_own : NextIsOwn
next_is_own t applied s old new home is = next_own t applied s old new home is

-- ---- what matches, and what is owed for one more snapshot
module _ (e later : Held) (s : Snapshot) (old new : ℕ → HeldFeed) (home : AreOwn old) (held : IsJoined e old) (holds : IsJoined later new) (is : IsNext e.table e.applied s old new)
    (t : Option Tables) (h : List Snapshot) (m : Matches e t h) where
  is_for : IsNext t e.applied s old new
  is_for = subst (λ x. IsNext x e.applied s old new) m.table_is is

  found : findings_of (joined old) ≡ findings t h
  found = ap findings_of (sym held.list_is) ∙ m.found_is

  kept : (f : ℕ) → (old f).last ≡ now h f
  kept f = sym (held.last_is f) ∙ m.last_is f

  peaks_kept : (f : ℕ) (vehicle : List ℕ) → (old f).peaks vehicle ≡ peak h f vehicle
  peaks_kept f vehicle = sym (held.peaks_are f vehicle) ∙ m.peaks_are f vehicle

  matches_later : later.table ≡ e.table → later.applied ≡ e.applied + 1 → Matches later t (with h s)
  matches_later table number = record {
    table_is = table ∙ m.table_is;
    number = number ∙ ap (λ n. n + 1) m.number ∙ sym (length-append h (s ∷ []));
    last_is = λ f. holds.last_is f ∙ next_last t e.applied s old new home is_for h m.number found kept peaks_kept f;
    peaks_are = λ f vehicle. holds.peaks_are f vehicle ∙ next_peaks t e.applied s old new home is_for h m.number found kept peaks_kept f vehicle;
    found_is = ap findings_of holds.list_is ∙ next_found t e.applied s old new home is_for h m.number found kept peaks_kept;
  }

  numbers : later.list ≡ renewed e.list (length h) (findings t (with h s))
  numbers =
      holds.list_is ∙ next_renewed t e.applied s old new home is_for h m.number found kept peaks_kept
      ∙ ap (λ xs. renewed xs (length h) (findings t (with h s))) (sym held.list_is)

  changes : (d : Delta) → IsChange e.applied s old new d → IsDelta t h s later.list d
  changes d c = subst (λ l. IsDelta t h s l d) (sym holds.list_is) (change_is t e.applied s old new home is_for h m.number found kept peaks_kept d c)

pub next_matches : NextMatches
next_matches e later s old new home held holds table number is t h m = matches_later e later s old new home held holds is t h m table number

pub next_numbers : NextNumbers
next_numbers e later s old new home held holds is t h m = numbers e later s old new home held holds is t h m

pub next_stands : NextStands
next_stands e later s old new home held holds table number is t h st =
    let more : IsListOf t (with h s) (renewed e.list (length h) (findings t (with h s))) = list_more t h s e.list (listed e t h st) in
    let there : IsListOf t (with h s) later.list = subst (IsListOf t (with h s)) (sym (numbers e later s old new home held holds is t h st.matches)) more in
    record { matches = matches_later e later s old new home held holds is t h st.matches table number; since = there.since }

pub next_changes : NextChanges
next_changes e later s old new home held holds is d c t h m = changes e later s old new home held holds is t h m d c

-- ---- what is owed, computed
next_there : (t : Option Tables) (applied : ℕ) (s : Snapshot) (old : ℕ → HeldFeed) → s.feed < feed_limit → IsNext t applied s old (held_after t applied s old)
next_there t applied s old l = record {
  feed = l;
  last = λ f. refl;
  header = ap (λ b. cond b (renewed (old s.feed).header applied (head_found s (old s.feed).last)) (old s.feed).header) (eq-eqb s.feed s.feed refl);
  headers_stay = λ f e. ap (λ b. cond b (renewed (old f).header applied (head_found s (old f).last)) (old f).header) e;
  peaks = λ f vehicle. refl;
  entities = λ f. refl;
}

module _ (t : Option Tables) (applied : ℕ) (s : Snapshot) (old new : ℕ → HeldFeed) (is : IsNext t applied s old new) where
  same_rows : rows_held new ≡ rows_after s old
  same_rows = below-same (λ f. rows_in (entities_of_snapshot (new f).last)) (λ f. rows_in (entities_of_snapshot (last_after s old f))) feed_limit (λ f l. ap (λ n. rows_in (entities_of_snapshot n)) (is.last f))

  same_peaks : (f : ℕ) → (new f).peaks ≡ peaks_after s old f
  same_peaks f = fun_ext (λ vehicle. is.peaks f vehicle)

  same_gathered : gathered_held new ≡ gathered_after s old
  same_gathered = gathered_same same_rows (fun_ext same_peaks)

  same_header : (f : ℕ) → (new f).header ≡ (held_after t applied s old f).header
  same_header f =
      elim (s.feed == f) as (λ b. (s.feed == f) ≡ b → (new f).header ≡ cond b (renewed (old f).header applied (head_found s (old f).last)) (old f).header) [
        | true ↦ λ e. subst (λ g. (new g).header ≡ renewed (old g).header applied (head_found s (old g).last)) (eqb-true s.feed f e) is.header
        | false ↦ λ e. is.headers_stay f e
      ] refl

  same_lists : (f : ℕ) → (new f).entities ≡ (held_after t applied s old f).entities
  same_lists f =
      is.entities f
      ∙ ap (λ u. renewed_lists (old f).entities applied (entities_found t u (new f).last)) same_gathered
      ∙ ap (λ n. renewed_lists (old f).entities applied (entities_found t (gathered_after s old) n)) (is.last f)

  only_next : (f : ℕ) → new f ≡ held_after t applied s old f
  only_next f = make (new f) (held_after t applied s old f) (is.last f) (same_header f) (same_lists f) (same_peaks f)
    where
      make : (x y : HeldFeed) → x.last ≡ y.last → x.header ≡ y.header → x.entities ≡ y.entities → x.peaks ≡ y.peaks → x ≡ y
      make x y l h e p =
          ap (λ v. let r : HeldFeed = record { last = v; header = x.header; entities = x.entities; peaks = x.peaks } in r) l
          ∙ ap (λ v. let r : HeldFeed = record { last = y.last; header = v; entities = x.entities; peaks = x.peaks } in r) h
          ∙ ap (λ v. let r : HeldFeed = record { last = y.last; header = y.header; entities = v; peaks = x.peaks } in r) e
          ∙ ap (λ v. let r : HeldFeed = record { last = y.last; header = y.header; entities = y.entities; peaks = v } in r) p

pub next_is_computed : NextIsComputed
next_is_computed = record { is_next = next_there; is_only = only_next }

pub counts_are_held : CountsAreHeld
counts_are_held e s old home held l t h m =
    let is = next_there t e.applied s old l in
    let kept : (f : ℕ) → (old f).last ≡ now h f = λ f. sym (held.last_is f) ∙ m.last_is f in
    subst (λ x. AreCounts t h s old (held_after x e.applied s old)) (sym m.table_is)
    (counts_are t e.applied s old (held_after t e.applied s old) home is h m.number (ap findings_of (sym held.list_is) ∙ m.found_is) kept (λ f vehicle. sym (held.peaks_are f vehicle) ∙ m.peaks_are f vehicle))
