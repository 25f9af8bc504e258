-- The rows of a list by their places.
use Rattle.std.proofs.Common.{◌≡◌, ◌≤◌, ◌<◌, ◌+◌, ◌⊎◌, inl, inr, ℕ, zero, suc, Bool, true, false, cond, List, [], ◌∷◌, length, Some, Result, Ok, Err, refl, sym, ap, subst, ◌∙◌, arith, nat_lt}
use Rattle.std.specs.Prelude.{IsOk, slice_get}
use Rattle.std.proofs.lemmas.Bool.Decides.{nat_tests}
use Rattle.csv_records.specs.Results.{then_with}
use Rattle.csv_records.specs.Records.{Record}
use Rattle.feed_list.specs.declared.fault.ListFault.{ListFault}
use Rattle.feed_list.specs.declared.fault.ListFault.TheVariants.{TooLarge}
use Rattle.feed_list.specs.declared.row.ListRow.{ListRow}
use Rattle.feed_list.specs.Lists.{list_of, row_limit, rows_from, with_front}
use Rattle.feed_list.specs.Rows.{row_of}
use Rattle.feed_list.specs.Laws.{AreRows, FirstBadRow, ListFollowsItsRows}
use Rattle.feed_list.proofs.Lists.{few_records, list_ok, rows_many, rows_ok}

-- the row of a place, where the first row counts as `number`
abbrev RowAt : (number i : ℕ) → Record → List ListRow → Type 0
RowAt number i fields rows = (row : ListRow) × (slice_get rows i ≡ Some row) × (row_of (i + number) fields ≡ Ok row)

rows_at : (number : ℕ) (records : List Record) (rows : List ListRow) → rows_from number records ≡ Ok rows
    → (i : ℕ) (fields : Record) → slice_get records i ≡ Some fields → RowAt number i fields rows
rows_at number [] rows e i fields there = absurd cc
rows_at number (first ∷ records) rows e zero fields there =
    let h = rows_ok number first records rows e in
    let same : first ≡ fields = cc in
    let place : number ≡ 0 + number = omega arith in
    (h.0, ap (λ (l : List ListRow). slice_get l 0) (sym h.4), subst (λ n. row_of n fields ≡ Ok h.0) place (subst (λ f. row_of number f ≡ Ok h.0) same h.2))
rows_at number (first ∷ records) rows e (suc i) fields there =
    let h = rows_ok number first records rows e in
    let k = rows_at (number + 1) records h.1 h.3 i fields there in
    let place : i + (number + 1) ≡ suc i + number = omega arith in
    (k.0, ap (λ (l : List ListRow). slice_get l (suc i)) (sym h.4) ∙ k.1, subst (λ n. row_of n fields ≡ Ok k.0) place k.2)

-- the first bad row, where the first row counts as `number`
record BadAt (number : ℕ) (records : List Record) (fault : ListFault) : Type 0 where
  i : ℕ
  fields : Record
  there : slice_get records i ≡ Some fields
  bad : row_of (i + number) fields ≡ Err fault
  before : (j : ℕ) (earlier : Record) → j < i → slice_get records j ≡ Some earlier → IsOk (row_of (j + number) earlier)

front_err : (front : List ListRow) (r : Result (List ListRow) ListFault) (fault : ListFault) → with_front front r ≡ Err fault → r ≡ Err fault
front_err front (Ok rows) fault e = absurd cc
front_err front (Err x) fault e = e

bad_here : (number : ℕ) (first : Record) (records : List Record) (fault : ListFault) → row_of number first ≡ Err fault → BadAt number (first ∷ records) fault
bad_here number first records fault is =
    let place : number ≡ 0 + number = omega arith in
    record { i = 0; fields = first; there = refl; bad = subst (λ n. row_of n first ≡ Err fault) place is; before = λ j earlier lt there. absurd (omega (arith, lt)) }

row_ok : (number : ℕ) (first earlier : Record) (row : ListRow) → row_of number first ≡ Ok row → Some first ≡ Some earlier → IsOk (row_of (0 + number) earlier)
row_ok number first earlier row is there =
    let same : first ≡ earlier = cc in
    let place : number ≡ 0 + number = omega arith in
    subst (λ n. IsOk (row_of n earlier)) place (subst (λ f. IsOk (row_of number f)) same (rw is refl))

bad_later : (number : ℕ) (first : Record) (records : List Record) (fault : ListFault) (row : ListRow) → row_of number first ≡ Ok row → BadAt (number + 1) records fault → BadAt number (first ∷ records) fault
bad_later number first records fault row is k =
    let place : k.i + (number + 1) ≡ suc k.i + number = omega arith in
    record { i = suc k.i; fields = k.fields; there = k.there; bad = subst (λ n. row_of n k.fields ≡ Err fault) place k.bad; before = earlier_ok }
  where
    earlier_ok : (j : ℕ) (earlier : Record) → j < suc k.i → slice_get (first ∷ records) j ≡ Some earlier → IsOk (row_of (j + number) earlier)
    earlier_ok zero earlier lt there = row_ok number first earlier row is there
    earlier_ok (suc j) earlier lt there =
        let place : j + (number + 1) ≡ suc j + number = omega arith in
        let before : j < k.i = omega (arith, lt) in
        subst (λ n. IsOk (row_of n earlier)) place (k.before j earlier before there)

by_first : (number : ℕ) (first : Record) (records : List Record) (fault : ListFault) (r : Result ListRow ListFault) → row_of number first ≡ r
    → then_with r (λ row. with_front (row ∷ []) (rows_from (number + 1) records)) ≡ Err fault
    → (rows_from (number + 1) records ≡ Err fault → BadAt (number + 1) records fault) → BadAt number (first ∷ records) fault
by_first number first records fault (Err x) is e later = let same : Err x ≡ Err fault = e in bad_here number first records fault (is ∙ cc)
by_first number first records fault (Ok row) is e later = bad_later number first records fault row is (later (front_err (row ∷ []) (rows_from (number + 1) records) fault e))

first_bad : (number : ℕ) (records : List Record) (fault : ListFault) → rows_from number records ≡ Err fault → BadAt number records fault
first_bad number [] fault e = absurd cc
first_bad number (first ∷ records) fault e = by_first number first records fault (row_of number first) refl e (first_bad (number + 1) records fault)

accepted_rows : (records : List Record) (rows : List ListRow) → list_of records ≡ Ok rows → (length records ≤ row_limit) × AreRows records rows
accepted_rows records rows e = let h = list_ok records rows e in (h.0, (rows_many 1 records rows h.1, rows_at 1 records rows h.1))

refused_rows : (records : List Record) (fault : ListFault) → list_of records ≡ Err fault
    → ((row_limit < length records) × (fault ≡ TooLarge)) ⊎ ((length records ≤ row_limit) × FirstBadRow records fault)
refused_rows records fault e = by (nat_lt row_limit (length records)) refl e
  where
    by : (b : Bool) → nat_lt row_limit (length records) ≡ b → cond b (Err TooLarge) (rows_from 1 records) ≡ Err fault
        → ((row_limit < length records) × (fault ≡ TooLarge)) ⊎ ((length records ≤ row_limit) × FirstBadRow records fault)
    by true t h = inl (grind (arith, nat_tests, t), cc)
    by false t h =
        let k = first_bad 1 records fault h in
        inr (few_records records t, record { i = k.i; fields = k.fields; there = k.there; bad = k.bad; before = k.before })

pub list_follows_its_rows : ListFollowsItsRows
list_follows_its_rows = record { accepted = accepted_rows; refused = refused_rows }
