-- The work for rows, one after the other.
use Rattle.std.proofs.Common.{◌≡◌, ℕ, ◌+◌, ◌<◌, ◌≤◌, Bool, List, [], ◌∷◌, ◌++◌, take, drop, get_or, length, refl, sym, ◌∙◌, ap, subst, arith, append-nil, append_assoc, Some, None, IfSome, Result, Ok, Err}
use Rattle.std.specs.declared.option.Option.{Option}
use Rattle.std.specs.FinMap.{get}
use Rattle.std.proofs.lemmas.List.{take-append-drop, take_all}
use Rattle.rt_outside.specs.Store.{Contents}
use Rattle.feed_codec.specs.declared.refusal.Refusal.{Refusal}
use Rattle.feed_list.specs.declared.row.SnapshotRow.{SnapshotRow}
use Rattle.timetable.specs.Timetables.{Tables}
use Rattle.rule_history.specs.History.{Snapshot}
use Rattle.rule_history.specs.Changed.{with}
use Rattle.follow_engine.specs.declared.engine.Engine.{Engine}
use Rattle.run_base.specs.Counted.{RoseAtMost, RoseBy, Work, counters, no_work, plus}
use Rattle.run_base.specs.Found.{bytes_in}
use Rattle.run_base.proofs.Chosen.{each}
use Rattle.run_base.proofs.Counted.{most_first, most_both, by_both}
use Rattle.run_rows.specs.declared.telling.Telling.{Telling}
use Rattle.run_rows.specs.Counted.{history_work, outcome_work, row_work, work_after, work_of}
use Rattle.run_rows.specs.Followed.{RowCounts}
use Rattle.run_rows.specs.Rows.{Outcome, row_outcome, rows_from, taken}
use Rattle.run_rows.proofs.RowByRow.{Done, from-more, from-split}

-- ---- sums of work
pub same_work : (a b c d : ℕ) → a ≡ b → c ≡ d → counters a c ≡ counters b d
same_work a b c d p q = ap (λ n. counters n c) p ∙ ap (counters b) q

plus_none : (a : Work) → plus a no_work ≡ a
plus_none a = same_work _ _ _ _ (omega arith) (omega arith)

none_plus : (a : Work) → plus no_work a ≡ a
none_plus a = same_work _ _ _ _ (omega arith) (omega arith)

plus_apart : (a b c : Work) → plus (plus a b) c ≡ plus a (plus b c)
plus_apart a b c = same_work _ _ _ _ (omega arith) (omega arith)

-- ---- of histories
module _ (t : Option Tables) where
  -- for some snapshots, and then for others after them
  work_split : (g ss more : List Snapshot) → work_after t g (ss ++ more) ≡ plus (work_after t g ss) (work_after t (g ++ ss) more)
  work_split g [] more = ap (λ h. work_after t h more) (sym (append-nil g)) ∙ sym (none_plus (work_after t (g ++ []) more))
  work_split g (s ∷ ss) more =
      ap (plus (work_of t g s)) (work_split (with g s) ss more)
      ∙ sym (plus_apart (work_of t g s) (work_after t (with g s) ss) (work_after t (with g s ++ ss) more))
      ∙ ap (λ h. plus (work_after t g (s ∷ ss)) (work_after t h more)) (append_assoc g (s ∷ []) ss)

  -- for one snapshot more
  pub work_with : (h : List Snapshot) (s : Snapshot) → history_work t (with h s) ≡ plus (history_work t h) (work_of t h s)
  work_with h s = work_split [] h (s ∷ []) ∙ ap (plus (history_work t h)) (plus_none (work_of t h s))

  -- no more than a front's work is no more than the whole's
  pub most_front : (g more : List Snapshot) (old new : Work) → RoseAtMost (history_work t g) old new → RoseAtMost (history_work t (g ++ more)) old new
  most_front g more old new most = subst (λ w. RoseAtMost w old new) (sym (work_split [] g more)) (most_first (history_work t g) (work_after t g more) old new most)

-- ---- of rows
module _ (telling : Telling) (t : Option Tables) where
  row_more : (h : List Snapshot) (n : ℕ) (row : SnapshotRow) (found : Result (List ℕ) Refusal) →
      outcome_work t (row_outcome telling t h n row found) ≡ plus (history_work t h) (row_work t h row found)
  row_more h n row (Ok bytes) = work_with t h (taken row bytes)
  row_more h n row (Err why) = sym (plus_none (history_work t h))

  -- a row leaves the history or makes it longer
  row_longer : (h : List Snapshot) (n : ℕ) (row : SnapshotRow) (found : Result (List ℕ) Refusal) →
      (more : List Snapshot) × ((let o : Outcome = row_outcome telling t h n row found in o.after) ≡ h ++ more)
  row_longer h n row (Ok bytes) = (taken row bytes ∷ [], refl)
  row_longer h n row (Err why) = ([], sym (append-nil h))

  module _ (held : Contents) where
    abbrev from : List Snapshot → ℕ → List SnapshotRow → Outcome
    from h n rows = rows_from telling t held h n rows

    -- and so do rows
    rows_longer : (h : List Snapshot) (n : ℕ) (rows : List SnapshotRow) → (more : List Snapshot) × ((from h n rows).after ≡ h ++ more)
    rows_longer h n [] = ([], sym (append-nil h))
    rows_longer h n (row ∷ rows) =
        let first = row_longer h n row (bytes_in (get held row.path)) in
        let o : Outcome = row_outcome telling t h n row (bytes_in (get held row.path)) in
        let rest = rows_longer o.after (n + 1) rows in
        (first.0 ++ rest.0, rest.1 ∙ ap (λ g. g ++ rest.0) first.1 ∙ append_assoc h first.0 rest.0)

    module _ (rows : List SnapshotRow) where
      -- no more than the work for a front of the rows is no more than that for all
      rows_front : (i : ℕ) (old new : Work) → RoseAtMost (outcome_work t (from [] 0 (take i rows))) old new → RoseAtMost (outcome_work t (from [] 0 rows)) old new
      rows_front i old new most =
          let front : Outcome = from [] 0 (take i rows) in
          let rest = rows_longer front.after (0 + length (take i rows)) (drop i rows) in
          subst (λ h. RoseAtMost (history_work t h) old new)
          (sym (ap (λ rs. (from [] 0 rs).after) (sym (take-append-drop i rows)) ∙ ap (λ o. o.after) (from-split telling t held [] 0 (take i rows) (drop i rows)) ∙ rest.1))
          (most_front t front.after rest.0 old new most)

      -- one row more
      next_work : (i : ℕ) (row : SnapshotRow) → i < length rows → row ≡ get_or rows i row →
          outcome_work t (from [] 0 (take (i + 1) rows)) ≡ plus (outcome_work t (from [] 0 (take i rows))) (row_work t (from [] 0 (take i rows)).after row (bytes_in (get held row.path)))
      next_work i row l is = ap (outcome_work t) (from-more telling t held [] rows i row l is) ∙ row_more (from [] 0 (take i rows)).after i row (bytes_in (get held row.path))

-- what was found in a row's file is what stands there, where that is told
pub row_counts : (told : Option Contents) (rose : Work → Work → Work → Type 0) (engine : Engine) (row : SnapshotRow) (name : List ℕ) (found : Result (List ℕ) Refusal) (old new : Work) → name ≡ row.path →
    IfSome told (λ held. bytes_in (get held name) ≡ found) → RowCounts rose engine row found old new → IfSome told (λ held. RowCounts rose engine row (bytes_in (get held row.path)) old new)
row_counts told rose engine row name found old new named is counts =
    each told _ _ (λ held e. subst (λ f. RowCounts rose engine row f old new) (sym e ∙ ap (λ n. bytes_in (get held n)) named) counts) is

-- ---- while rows are followed
module _ (telling : Telling) (t : Option Tables) (rows : List SnapshotRow) (old : Work) where
  -- the counters rose by the work for the first so many rows
  abbrev pub AreCounted : Option Contents → Work → ℕ → Type 0
  AreCounted told now i = IfSome told (λ held. RoseBy (outcome_work t (rows_from telling t held [] 0 (take i rows))) old now)

  -- and by no more than that for all
  abbrev pub AreCountedMost : Option Contents → Work → Type 0
  AreCountedMost told now = IfSome told (λ held. RoseAtMost (outcome_work t (rows_from telling t held [] 0 rows)) old now)

  -- one row more
  module _ (before now : Option (List ℕ)) (engine : Engine) (error : Bool) (i : ℕ) (row : SnapshotRow) (l : i < length rows) (is : row ≡ get_or rows i row) (mid new : Work) where
    pub counted_next : (told : Option Contents) → Done told telling t before rows engine error now i → AreCounted told mid i →
        IfSome told (λ held. RowCounts RoseBy engine row (bytes_in (get held row.path)) mid new) → AreCounted told new (i + 1)
    counted_next None done first next = tt
    counted_next (Some held) done first next =
        subst (λ w. RoseBy w old new) (sym (next_work telling t held rows i row l is)) (by_both _ _ old mid new first (next t _ done.stands_for.matches))

    pub most_next : (told : Option Contents) → Done told telling t before rows engine error now i → AreCounted told mid i →
        IfSome told (λ held. RowCounts RoseAtMost engine row (bytes_in (get held row.path)) mid new) → AreCountedMost told new
    most_next None done first next = tt
    most_next (Some held) done first next =
        rows_front telling t held rows (i + 1) old new
        (subst (λ w. RoseAtMost w old new) (sym (next_work telling t held rows i row l is)) (most_both _ _ old mid new first (next t _ done.stands_for.matches)))

  -- all rows
  pub counted_all_rows : (told : Option Contents) (now : Work) (i : ℕ) → length rows ≤ i → AreCounted told now i → IfSome told (λ held. RoseBy (outcome_work t (rows_from telling t held [] 0 rows)) old now)
  counted_all_rows None now i l counted = tt
  counted_all_rows (Some held) now i l counted = subst (λ w. RoseBy w old now) (ap (λ rs. outcome_work t (rows_from telling t held [] 0 rs)) (take_all i rows l)) counted
