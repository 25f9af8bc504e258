-- Rows of a list, one after the other.
use Rattle.std.proofs.Common.{◌≡◌, ℕ, zero, suc, ◌+◌, ◌<◌, ◌≤◌, Bool, false, ◌||◌, List, [], ◌∷◌, ◌++◌, take, drop, get_or, length, refl, sym, ◌∙◌, ap, subst, arith, append-nil, append_assoc, Some, None, IfSome}
use Rattle.std.specs.declared.option.Option.{Option}
use Rattle.std.specs.Io.KnownBytes.{append_known}
use Rattle.std.specs.List.{Contains}
use Rattle.std.proofs.lemmas.List.{take-append-drop, take_more, take_all}
use Rattle.rt_outside.specs.Store.{Contents}
use Rattle.rt_outside.specs.Sink.{AppendsPrefix}
use Rattle.rt_outside.proofs.Appends.{append_known-both, AppendsPrefix-first, AppendsPrefix-second, AppendsPrefix-whole}
use Rattle.feed_list.specs.declared.row.ListRow.{ListRow}
use Rattle.timetable.specs.Timetables.{Tables}
use Rattle.run_rows.specs.follow_engine.Engine.{Engine}
use Rattle.run_base.specs.Counted.{RoseAtMost, RoseBy, Work, counters, no_work, plus}
use Rattle.run_base.proofs.Counted.{by_both, most_both, most_first}
use Rattle.run_rows.specs.declared.row.RowEnd.{RowEnd}
use Rattle.run_rows.specs.Followed.{lines_text}
use Rattle.run_rows.proofs.Counted.{same_work}
use Rattle.run_rows.proofs.RowByRow.{length_take}
use Rattle.rt_report.proofs.Joined.{or_apart, or_false}
use Rattle.run_list.specs.Listed.{Input, Outcome, State, input_in, list_outcome, no_rows, row_outcome, rows_from, started, then}
use Rattle.run_list.specs.Taken.{Counts, IsDone, IsIn, IsOutcome, IsRowEnd}

-- ---- sums of work
plus_apart : (a b c : Work) → plus (plus a b) c ≡ plus a (plus b c)
plus_apart a b c = same_work _ _ _ _ (omega arith) (omega arith)

none_plus : (a : Work) → a ≡ plus no_work a
none_plus a = same_work _ _ _ _ (omega arith) (omega arith)

plus_none : (a : Work) → plus a no_work ≡ a
plus_none a = same_work _ _ _ _ (omega arith) (omega arith)

-- ---- outcomes one after the other
abbrev outcome : List ℕ → State → Bool → Work → Outcome
outcome text after error work = record { text = text; after = after; error = error; work = work }

then-assoc : (a b c : Outcome) → then (then a b) c ≡ then a (then b c)
then-assoc a b c =
    ap (λ t. outcome t c.after ((a.error || b.error) || c.error) (plus (plus a.work b.work) c.work)) (append_assoc a.text b.text c.text)
    ∙ ap (λ f. outcome (a.text ++ (b.text ++ c.text)) c.after f (plus (plus a.work b.work) c.work)) (or_apart a.error b.error c.error)
    ∙ ap (outcome (a.text ++ (b.text ++ c.text)) c.after (a.error || (b.error || c.error))) (plus_apart a.work b.work c.work)

then-none : (o : Outcome) → then o (no_rows o.after) ≡ o
then-none o =
    ap (λ t. outcome t o.after (o.error || false) (plus o.work no_work)) (append-nil o.text)
    ∙ ap (λ f. outcome o.text o.after f (plus o.work no_work)) (or_false o.error)
    ∙ ap (outcome o.text o.after o.error) (plus_none o.work)

module _ (held : Contents) where
  abbrev at_row : State → ℕ → ListRow → Outcome
  at_row st n row = row_outcome st n row (input_in row held)

  abbrev from : State → ℕ → List ListRow → Outcome
  from st n rows = rows_from held st n rows

  -- the rows of a front, and then the others after its state
  pub from-split : (st : State) (n : ℕ) (xs ys : List ListRow) → from st n (xs ++ ys) ≡ then (from st n xs) (from (from st n xs).after (n + length xs) ys)
  from-split st n [] ys = front (from st n ys) ∙ ap (λ m. then (no_rows st) (from st m ys)) (none n)
    where
      front : (o : Outcome) → o ≡ then (no_rows st) o
      front o = ap (outcome o.text o.after o.error) (none_plus o.work)

      none : (n : ℕ) → n ≡ n + 0
      none n = omega arith
  from-split st n (x ∷ xs) ys =
      ap (then (at_row st n x)) (from-split (at_row st n x).after (n + 1) xs ys)
      ∙ sym (then-assoc (at_row st n x) (from (at_row st n x).after (n + 1) xs) (from (from (at_row st n x).after (n + 1) xs).after ((n + 1) + length xs) ys))
      ∙ ap (λ m. then (from st n (x ∷ xs)) (from (from st n (x ∷ xs)).after m ys)) (next n (length xs))
    where
      next : (n k : ℕ) → (n + 1) + k ≡ n + suc k
      next n k = omega arith

  -- one row more
  pub from-more : (st : State) (rows : List ListRow) (i : ℕ) (row : ListRow) → i < length rows → row ≡ get_or rows i row →
      from st 0 (take (i + 1) rows) ≡ then (from st 0 (take i rows)) (at_row (from st 0 (take i rows)).after i row)
  from-more st rows i row l is =
      ap (from st 0) (take_more rows i row l ∙ ap (λ r. take i rows ++ r ∷ []) (sym is))
      ∙ from-split st 0 (take i rows) (row ∷ [])
      ∙ ap (λ m. then (from st 0 (take i rows)) (from (from st 0 (take i rows)).after m (row ∷ []))) (length_take rows i l)
      ∙ ap (then (from st 0 (take i rows))) (then-none (at_row (from st 0 (take i rows)).after i row))

  -- a front, and then what is left
  front_is : (st : State) (rows : List ListRow) (i : ℕ) → from st 0 rows ≡ then (from st 0 (take i rows)) (from (from st 0 (take i rows)).after (0 + length (take i rows)) (drop i rows))
  front_is st rows i = ap (from st 0) (sym (take-append-drop i rows)) ∙ from-split st 0 (take i rows) (drop i rows)

  -- the text of a front is a front of the text
  part_text : (before now : Option (List ℕ)) (st : State) (rows : List ListRow) (i : ℕ) → AppendsPrefix before now (from st 0 (take i rows)).text → AppendsPrefix before now (from st 0 rows).text
  part_text before now st rows i p = subst (λ o. AppendsPrefix before now o.text) (sym (front_is st rows i)) (AppendsPrefix-first before now (from st 0 (take i rows)).text _ p)

  -- and its work no more than the whole's
  most_front : (st : State) (rows : List ListRow) (i : ℕ) (old new : Work) → RoseAtMost (from st 0 (take i rows)).work old new → RoseAtMost (from st 0 rows).work old new
  most_front st rows i old new most = subst (λ o. RoseAtMost o.work old new) (sym (front_is st rows i)) (most_first (from st 0 (take i rows)).work _ old new most)

-- ---- while rows are followed
module _ (told : Option Contents) (t : Option Tables) (before : Option (List ℕ)) (rows : List ListRow) where
  -- the first so many rows are done
  abbrev pub Done : Engine → Bool → Option (List ℕ) → ℕ → Type 0
  Done engine error now i = IfSome told (λ held. IsDone engine error before now (rows_from held (started t) 0 (take i rows)))

  -- what was written is a part of the text of all
  abbrev pub IsPart : Option (List ℕ) → Type 0
  IsPart now = IfSome told (λ held. AppendsPrefix before now (list_outcome t held rows).text)

-- before the first row
pub done_none : (told : Option Contents) (t : Option Tables) (before : Option (List ℕ)) (rows : List ListRow) (engine : Engine) → IsIn (started t) engine → before ≡ append_known before [] → Done told t before rows engine false before 0
done_none None t before rows engine s e = tt
done_none (Some held) t before rows engine s e = record { is_in = s; error_is = refl; written = e }

-- where a row can't be taken, a part of the text stands there
pub stopped : (told : Option Contents) (t : Option Tables) (before now : Option (List ℕ)) (rows : List ListRow) (engine : Engine) (error : Bool) (i : ℕ) →
    Done told t before rows engine error now i → IsPart told t before rows now
stopped None t before now rows engine error i done = tt
stopped (Some held) t before now rows engine error i done =
    part_text held before now (started t) rows i (AppendsPrefix-whole before now (rows_from held (started t) 0 (take i rows)).text done.written)

-- what a row gives after those before it
next_outcome : (held : Contents) (st : State) (i : ℕ) (row : ListRow) (engine : Engine) (end : RowEnd) → IsRowEnd (Some held) i row engine end → IsIn st engine → IsOutcome (row_outcome st i row (input_in row held)) end
next_outcome held st i row engine end is at = subst (λ f. IsOutcome (row_outcome st i row f) end) (sym is.found_is) (is.gives st at)

-- where a row's lines can't be written whole, a part of the text stands there
pub cut : (told : Option Contents) (t : Option Tables) (before now new : Option (List ℕ)) (rows : List ListRow) (engine : Engine) (error : Bool) (i : ℕ) (row : ListRow) (end : RowEnd) → i < length rows → row ≡ get_or rows i row →
    Done told t before rows engine error now i → IsRowEnd told i row engine end → AppendsPrefix now new (lines_text end.lines) → IsPart told t before rows new
cut None t before now new rows engine error i row end l is done next p = tt
cut (Some held) t before now new rows engine error i row end l is done next p =
    let o : Outcome = rows_from held (started t) 0 (take i rows) in
    let out = next_outcome held o.after i row engine end next done.is_in in
    part_text held before new (started t) rows (i + 1)
    (subst (AppendsPrefix before new) (sym (ap (λ p. p.text) (from-more held (started t) rows i row l is)))
    (AppendsPrefix-second before now new o.text _ done.written (subst (AppendsPrefix now new) out.text_is p)))

-- one row more is done
pub done_next : (told : Option Contents) (t : Option Tables) (before now new : Option (List ℕ)) (rows : List ListRow) (engine : Engine) (error next_error : Bool) (i : ℕ) (row : ListRow) (end : RowEnd) → i < length rows → row ≡ get_or rows i row →
    Done told t before rows engine error now i → IsRowEnd told i row engine end → next_error ≡ (error || end.lines.error) → new ≡ append_known now (lines_text end.lines) →
    Done told t before rows end.engine next_error new (i + 1)
done_next None t before now new rows engine error next_error i row end l is done next e w = tt
done_next (Some held) t before now new rows engine error next_error i row end l is done next e w =
    let o : Outcome = rows_from held (started t) 0 (take i rows) in
    let out = next_outcome held o.after i row engine end next done.is_in in
    subst (IsDone end.engine next_error before new) (sym (from-more held (started t) rows i row l is)) (record {
      is_in = out.is_in;
      error_is = e ∙ both done.error_is out.error_is;
      written = append_known-both before now new o.text _ done.written (w ∙ ap (append_known now) out.text_is);
    })
  where
    both : {a b c d : Bool} → a ≡ b → c ≡ d → (a || c) ≡ (b || d)
    both p q = cc

-- all rows are done
pub done_all : (told : Option Contents) (t : Option Tables) (before now : Option (List ℕ)) (rows : List ListRow) (engine : Engine) (error : Bool) (i : ℕ) → length rows ≤ i →
    Done told t before rows engine error now i → IfSome told (λ held. IsDone engine error before now (list_outcome t held rows))
done_all None t before now rows engine error i l done = tt
done_all (Some held) t before now rows engine error i l done = subst (IsDone engine error before now) (ap (rows_from held (started t) 0) (take_all i rows l)) done

-- ---- how much was decoded and tested
module _ (t : Option Tables) (rows : List ListRow) (old : Work) where
  -- the counters rose by the work for the first so many rows
  abbrev pub AreCounted : Option Contents → Work → ℕ → Type 0
  AreCounted told now i = IfSome told (λ held. RoseBy (rows_from held (started t) 0 (take i rows)).work old now)

  -- one row more
  module _ (before now : Option (List ℕ)) (engine : Engine) (error : Bool) (i : ℕ) (row : ListRow) (l : i < length rows) (is : row ≡ get_or rows i row) (mid new : Work) where
    pub counted_next : (told : Option Contents) → Done told t before rows engine error now i → AreCounted told mid i →
        IfSome told (λ held. Counts RoseBy (λ st. row_outcome st i row (input_in row held)) engine mid new) → AreCounted told new (i + 1)
    counted_next None done first next = tt
    counted_next (Some held) done first next =
        subst (λ o. RoseBy o.work old new) (sym (from-more held (started t) rows i row l is)) (by_both _ _ old mid new first (next _ done.is_in))

    pub most_next : (told : Option Contents) → Done told t before rows engine error now i → AreCounted told mid i →
        IfSome told (λ held. Counts RoseAtMost (λ st. row_outcome st i row (input_in row held)) engine mid new) → IfSome told (λ held. RoseAtMost (list_outcome t held rows).work old new)
    most_next None done first next = tt
    most_next (Some held) done first next =
        most_front held (started t) rows (i + 1) old new
        (subst (λ o. RoseAtMost o.work old new) (sym (from-more held (started t) rows i row l is)) (most_both _ _ old mid new first (next _ done.is_in)))

  -- all rows
  pub counted_all : (told : Option Contents) (now : Work) (i : ℕ) → length rows ≤ i → AreCounted told now i → IfSome told (λ held. RoseBy (list_outcome t held rows).work old now)
  counted_all None now i l counted = tt
  counted_all (Some held) now i l counted = subst (λ rs. RoseBy (rows_from held (started t) 0 rs).work old now) (take_all i rows l) counted

-- a row is one of its list
pub got : (rows : List ListRow) (i : ℕ) (row : ListRow) → i < length rows → row ≡ get_or rows i row → Contains rows row
got [] i row l is = absurd (omega arith)
got (r ∷ rows) zero row l is = (0, omega arith, sym is)
got (r ∷ rows) (suc i) row l is = let there = got rows i row (omega arith) is in (suc there.0, omega (arith, there.1), there.2)
