-- Rows, one after the other.
use Rattle.std.proofs.Common.{◌≡◌, ℕ, zero, suc, ◌+◌, ◌<◌, ◌≤◌, Bool, false, ◌||◌, List, [], ◌∷◌, ◌++◌, take, drop, get_or, slice_get, length, refl, sym, ◌∙◌, ap, subst, arith, append-nil, append_assoc, length-append, Some, None, IfSome, Result, Ok, Err}
use Rattle.std.specs.declared.option.Option.{Option}
use Rattle.std.specs.FinMap.{get}
use Rattle.std.specs.List.{AllByRecursion}
use Rattle.std.specs.Io.KnownBytes.{append_known}
use Rattle.std.proofs.lemmas.List.{take-append-drop, take_more, take_all}
use Rattle.rt_outside.specs.Store.{Contents}
use Rattle.rt_outside.specs.Sink.{AppendsPrefix}
use Rattle.rt_outside.proofs.Appends.{append_known-both, AppendsPrefix-first, AppendsPrefix-second, AppendsPrefix-whole}
use Rattle.feed_codec.specs.declared.refusal.Refusal.{Refusal}
use Rattle.feed_list.specs.declared.row.SnapshotRow.{SnapshotRow}
use Rattle.timetable.specs.Timetables.{Tables}
use Rattle.rule_history.specs.History.{Snapshot}
use Rattle.rule_history.specs.Changed.{with}
use Rattle.engine_laws.specs.Standings.{listed}
use Rattle.engine_laws.proofs.Computed.{delta_is_computed}
use Rattle.follow_engine.specs.declared.engine.Engine.{Engine}
use Rattle.follow_engine.specs.Engines.{engine_data}
use Rattle.run_rows.specs.declared.row.RowEnd.{RowEnd}
use Rattle.run_rows.specs.declared.telling.Telling.{Telling}
use Rattle.run_rows.specs.Followed.{Stands, IsOutcome, Takes, IsRowEnd, IsDone, StandsWithin, lines_text}
use Rattle.rt_report.proofs.Joined.{or_apart, or_false}
use Rattle.run_rows.specs.Rows.{Outcome, then, no_rows, accepted_text, told_text, told_error, taken, row_outcome, rows_from}
use Rattle.run_base.specs.Found.{bytes_in}

-- a front of a list is as long as it is said
pub length_take : {A : Type 0} (xs : List A) (i : ℕ) → i < length xs → 0 + length (take i xs) ≡ i
length_take [] i l = absurd (omega arith)
length_take (x ∷ xs) zero l = refl
length_take (x ∷ xs) (suc i) l = more (length (take i xs)) i (length_take xs i (omega arith))
  where
    more : (m i : ℕ) → 0 + m ≡ i → 0 + suc m ≡ suc i
    more m i e = omega arith

-- ---- outcomes one after the other
then-assoc : (a b c : Outcome) → then (then a b) c ≡ then a (then b c)
then-assoc a b c =
    ap (λ t. let o : Outcome = record { text = t; after = c.after; error = (a.error || b.error) || c.error } in o) (append_assoc a.text b.text c.text)
    ∙ ap (λ f. let o : Outcome = record { text = a.text ++ (b.text ++ c.text); after = c.after; error = f } in o) (or_apart a.error b.error c.error)

pub then-none : (o : Outcome) → then o (no_rows o.after) ≡ o
then-none o =
    ap (λ t. let p : Outcome = record { text = t; after = o.after; error = o.error || false } in p) (append-nil o.text)
    ∙ ap (λ f. let p : Outcome = record { text = o.text; after = o.after; error = f } in p) (or_false o.error)

module _ (telling : Telling) (t : Option Tables) (held : Contents) where
  abbrev at_row : List Snapshot → ℕ → SnapshotRow → Outcome
  at_row h n row = row_outcome telling t h n row (bytes_in (get held row.path))

  abbrev from : List Snapshot → ℕ → List SnapshotRow → Outcome
  from h n rows = rows_from telling t held h n rows

  -- the rows of a front, and then the others after its history
  pub from-split : (h : List Snapshot) (n : ℕ) (xs ys : List SnapshotRow) → from h n (xs ++ ys) ≡ then (from h n xs) (from (from h n xs).after (n + length xs) ys)
  from-split h n [] ys = ap (λ m. from h m ys) (none n)
    where
      none : (n : ℕ) → n ≡ n + 0
      none n = omega arith
  from-split h n (x ∷ xs) ys =
      ap (then (at_row h n x)) (from-split (at_row h n x).after (n + 1) xs ys)
      ∙ sym (then-assoc (at_row h n x) (from (at_row h n x).after (n + 1) xs) (from (from (at_row h n x).after (n + 1) xs).after ((n + 1) + length xs) ys))
      ∙ ap (λ m. then (from h n (x ∷ xs)) (from (from h n (x ∷ xs)).after m ys)) (next n (length xs))
    where
      next : (n k : ℕ) → (n + 1) + k ≡ n + suc k
      next n k = omega arith

  -- one row more
  pub from-more : (h : List Snapshot) (rows : List SnapshotRow) (i : ℕ) (row : SnapshotRow) → i < length rows → row ≡ get_or rows i row →
      from h 0 (take (i + 1) rows) ≡ then (from h 0 (take i rows)) (at_row (from h 0 (take i rows)).after i row)
  from-more h rows i row l is =
      ap (from h 0) (take_more rows i row l ∙ ap (λ r. take i rows ++ r ∷ []) (sym is))
      ∙ from-split h 0 (take i rows) (row ∷ [])
      ∙ ap (λ m. then (from h 0 (take i rows)) (from (from h 0 (take i rows)).after m (row ∷ []))) (length_take rows i l)
      ∙ ap (then (from h 0 (take i rows))) (then-none (at_row (from h 0 (take i rows)).after i row))

  -- the text of a front is a front of the text
  front_is : (h : List Snapshot) (rows : List SnapshotRow) (i : ℕ) → (from h 0 rows).text ≡ (from h 0 (take i rows)).text ++ (from (from h 0 (take i rows)).after (0 + length (take i rows)) (drop i rows)).text
  front_is h rows i = ap (λ xs. (from h 0 xs).text) (sym (take-append-drop i rows)) ∙ ap (λ o. o.text) (from-split h 0 (take i rows) (drop i rows))

  part_text : (before now : Option (List ℕ)) (h : List Snapshot) (rows : List SnapshotRow) (i : ℕ) → AppendsPrefix before now (from h 0 (take i rows)).text → AppendsPrefix before now (from h 0 rows).text
  part_text before now h rows i p = subst (AppendsPrefix before now) (sym (front_is h rows i)) (AppendsPrefix-first before now (from h 0 (take i rows)).text _ p)

-- ---- what was taken is the outcome after a history that the engine stood for
taken_outcome : (telling : Telling) (number : ℕ) (row : SnapshotRow) (found : Result (List ℕ) Refusal) (engine : Engine) (end : RowEnd) → Takes telling number row found engine end →
    (t : Option Tables) (h : List Snapshot) → Stands t engine h → IsOutcome t (row_outcome telling t h number row found) end
taken_outcome telling number row (Ok bytes) engine end takes t h st =
    let is = delta_is_computed t h (taken row bytes) (engine_data end.engine).list takes.delta (listed (engine_data end.engine) t (with h (taken row bytes)) (takes.stands t h st)) (takes.changes t h st.matches) in
    record {
      stands_for = takes.stands t h st;
      text_is = takes.told.text_is ∙ ap (λ x. accepted_text number row x ++ told_text telling x) is;
      error_is = takes.told.error_is ∙ ap (told_error telling) is;
    }
taken_outcome telling number row (Err why) engine end takes t h st = record {
  stands_for = subst (λ e. Stands t e h) (sym takes.stays) st;
  text_is = takes.text_is;
  error_is = takes.error_is;
}

-- ---- while rows are followed
module _ (told : Option Contents) (telling : Telling) (t : Option Tables) (before : Option (List ℕ)) (rows : List SnapshotRow) where
  -- the first so many rows are done
  abbrev pub Done : Engine → Bool → Option (List ℕ) → ℕ → Type 0
  Done engine error now i = IfSome told (λ held. IsDone t engine error before now (rows_from telling t held [] 0 (take i rows)))

  -- what was written is a part of the text of all
  abbrev pub IsPart : Option (List ℕ) → Type 0
  IsPart now = IfSome told (λ held. AppendsPrefix before now (rows_from telling t held [] 0 rows).text)

  abbrev pub IsNext : ℕ → SnapshotRow → Engine → RowEnd → Type 0
  IsNext i row engine end = IsRowEnd told telling i row engine end

-- before the first row
pub done_none : (told : Option Contents) (telling : Telling) (t : Option Tables) (before : Option (List ℕ)) (rows : List SnapshotRow) (engine : Engine) → Stands t engine [] → before ≡ append_known before [] → Done told telling t before rows engine false before 0
done_none None telling t before rows engine s e = tt
done_none (Some held) telling t before rows engine s e = record { stands_for = s; error_is = refl; written = e }

-- where a row can't be judged, a part of the text stands there
pub stopped : (told : Option Contents) (telling : Telling) (t : Option Tables) (before now : Option (List ℕ)) (rows : List SnapshotRow) (engine : Engine) (error : Bool) (i : ℕ) →
    Done told telling t before rows engine error now i → IsPart told telling t before rows now
stopped None telling t before now rows engine error i done = tt
stopped (Some held) telling t before now rows engine error i done =
    part_text telling t held before now [] rows i (AppendsPrefix-whole before now (rows_from telling t held [] 0 (take i rows)).text done.written)

-- what a row gives after those before it
next_outcome : (held : Contents) (telling : Telling) (t : Option Tables) (h : List Snapshot) (i : ℕ) (row : SnapshotRow) (engine : Engine) (end : RowEnd) →
    IsRowEnd (Some held) telling i row engine end → Stands t engine h → IsOutcome t (row_outcome telling t h i row (bytes_in (get held row.path))) end
next_outcome held telling t h i row engine end is stands = subst (λ f. IsOutcome t (row_outcome telling t h i row f) end) (sym is.found_is) (taken_outcome telling i row is.found engine end is.takes t h stands)

-- where a row's lines can't be written whole, a part of the text stands there
pub cut : (told : Option Contents) (telling : Telling) (t : Option Tables) (before now new : Option (List ℕ)) (rows : List SnapshotRow) (engine : Engine) (error : Bool) (i : ℕ) (row : SnapshotRow) (end : RowEnd) → i < length rows → row ≡ get_or rows i row →
    Done told telling t before rows engine error now i → IsRowEnd told telling i row engine end → AppendsPrefix now new (lines_text end.lines) → IsPart told telling t before rows new
cut None telling t before now new rows engine error i row end l is done next p = tt
cut (Some held) telling t before now new rows engine error i row end l is done next p =
    let o : Outcome = rows_from telling t held [] 0 (take i rows) in
    let out = next_outcome held telling t o.after i row engine end next done.stands_for in
    part_text telling t held before new [] rows (i + 1)
    (subst (AppendsPrefix before new) (sym (ap (λ p. p.text) (from-more telling t held [] rows i row l is)))
    (AppendsPrefix-second before now new o.text _ done.written (subst (AppendsPrefix now new) out.text_is p)))

-- one row more is done
pub done_next : (told : Option Contents) (telling : Telling) (t : Option Tables) (before now new : Option (List ℕ)) (rows : List SnapshotRow) (engine : Engine) (error next_error : Bool) (i : ℕ) (row : SnapshotRow) (end : RowEnd) → i < length rows → row ≡ get_or rows i row →
    Done told telling t before rows engine error now i → IsRowEnd told telling i row engine end → next_error ≡ (error || end.lines.error) → new ≡ append_known now (lines_text end.lines) →
    Done told telling t before rows end.engine next_error new (i + 1)
done_next None telling t before now new rows engine error next_error i row end l is done next e w = tt
done_next (Some held) telling t before now new rows engine error next_error i row end l is done next e w =
    let o : Outcome = rows_from telling t held [] 0 (take i rows) in
    let out = next_outcome held telling t o.after i row engine end next done.stands_for in
    subst (IsDone t end.engine next_error before new) (sym (from-more telling t held [] rows i row l is)) (record {
      stands_for = out.stands_for;
      error_is = e ∙ both done.error_is out.error_is;
      written = append_known-both before now new o.text _ done.written (w ∙ ap (append_known now) out.text_is);
    })
  where
    both : {a b c d : Bool} → a ≡ b → c ≡ d → (a || c) ≡ (b || d)
    both p q = cc

-- all rows are done
pub done_all : (told : Option Contents) (telling : Telling) (t : Option Tables) (before now : Option (List ℕ)) (rows : List SnapshotRow) (engine : Engine) (error : Bool) (i : ℕ) → length rows ≤ i →
    Done told telling t before rows engine error now i → IfSome told (λ held. IsDone t engine error before now (rows_from telling t held [] 0 rows))
done_all None telling t before now rows engine error i l done = tt
done_all (Some held) telling t before now rows engine error i l done = subst (IsDone t engine error before now) (ap (rows_from telling t held [] 0) (take_all i rows l)) done

-- ---- the history is no longer than the rows
after_within : (telling : Telling) (t : Option Tables) (h : List Snapshot) (i n : ℕ) (row : SnapshotRow) (found : Result (List ℕ) Refusal) → length h < n + 1 →
    length (let o : Outcome = row_outcome telling t h i row found in o.after) < (n + 1) + 1
after_within telling t h i n row (Ok bytes) l = rw (length-append h (record { feed = row.feed; moment = row.moment; bytes = bytes } ∷ [])) (omega (arith, l))
after_within telling t h i n row (Err why) l = omega (arith, l)

pub within_next : (told : Option Contents) (telling : Telling) (t : Option Tables) (i n : ℕ) (row : SnapshotRow) (engine : Engine) (end : RowEnd) → StandsWithin t engine n → IsRowEnd told telling i row engine end → StandsWithin t end.engine (n + 1)
within_next told telling t i n row engine end w is = record {
  history = let o : Outcome = row_outcome telling t w.history i row is.found in o.after;
  stands_for = (taken_outcome telling i row is.found engine end is.takes t w.history w.stands_for).stands_for;
  within = after_within telling t w.history i n row is.found w.within;
}

-- ---- a row by its number
pub got : (rows : List SnapshotRow) (i : ℕ) (row : SnapshotRow) → i < length rows → row ≡ get_or rows i row → slice_get rows i ≡ Some row
got [] i row l is = absurd (omega arith)
got (r ∷ rows) zero row l is = ap Some (sym is)
got (r ∷ rows) (suc i) row l is = got rows i row (omega arith) is

pub got_feed : (rows : List SnapshotRow) (i : ℕ) (row : SnapshotRow) → i < length rows → row ≡ get_or rows i row → AllByRecursion (λ r. r.feed < 16) rows → row.feed < 16
got_feed [] i row l is all = absurd (omega arith)
got_feed (r ∷ rows) zero row l is all = subst (λ r. r.feed < 16) (sym is) all.0
got_feed (r ∷ rows) (suc i) row l is all = got_feed rows i row (omega arith) is all.1

pub got_within : (rows : List SnapshotRow) (i : ℕ) (row : SnapshotRow) → slice_get rows i ≡ Some row → i < length rows
got_within [] i row e = absurd (cc e)
got_within (r ∷ rows) zero row e = omega arith
got_within (r ∷ rows) (suc i) row e = more (got_within rows i row e)
  where
    more : i < length rows → suc i < suc (length rows)
    more l = omega arith
