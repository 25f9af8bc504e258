-- Rows of a list, one after the other.
use Rattle.std.proofs.Common.{◌≡◌, ◌≤◌, ◌<◌, ◌+◌, ℕ, suc, Bool, true, false, cond, List, [], ◌∷◌, ◌++◌, append_assoc, append-nil, length, Option, Some, None, Result, Ok, Err, refl, sym, ap, subst, ◌∙◌, arith, nat_lt}
use Rattle.std.specs.Prelude.{option_and_then, IfOk, bytes_eq}
use Rattle.std.specs.List.{AllByRecursion}
use Rattle.std.proofs.lemmas.Bool.Decides.{nat_tests}
use Rattle.csv_records.specs.Results.{ok_or, then_with}
use Rattle.csv_records.specs.Records.{Record}
use Rattle.feed_list.specs.declared.column.Column.TheVariants.{Feed, Moment}
use Rattle.feed_list.specs.declared.fault.ListFault.{ListFault}
use Rattle.feed_list.specs.declared.fault.ListFault.TheVariants.{BadValue, NotThreeFields, TooLarge}
use Rattle.feed_list.specs.declared.row.ListRow.{ListRow}
use Rattle.feed_list.specs.declared.row.ListRow.TheVariants.{Snapshot, Timetable}
use Rattle.feed_list.specs.Lists.{HasFeedWithin, IsWithinLimits, list_of, row_limit, rows_from, with_front}
use Rattle.feed_list.specs.Rows.{Fields, empty_of, fields_in, path_in, row_of, snapshot_of, text_in, timetable_of, timetable_word, value_in}
use Rattle.feed_list.specs.Values.{below, feed_of, number_of}

-- ---- rows that are read

front_more : (front : List ListRow) (row : ListRow) (r : Result (List ListRow) ListFault) → with_front front (with_front (row ∷ []) r) ≡ with_front (front ++ row ∷ []) r
front_more front row (Ok rows) = ap (λ (l : List ListRow). Ok l) (sym (append_assoc front (row ∷ []) rows))
front_more front row (Err fault) = refl

-- a row that is read is one more before what is left
pub row_read : (front : List ListRow) (number : ℕ) (fields : Record) (records : List Record) (row : ListRow) → row_of number fields ≡ Ok row
    → with_front front (rows_from number (fields ∷ records)) ≡ with_front (front ++ row ∷ []) (rows_from (number + 1) records)
row_read front number fields records row e =
    ap (λ r. with_front front (then_with r (λ row. with_front (row ∷ []) (rows_from (number + 1) records)))) e ∙ front_more front row (rows_from (number + 1) records)

-- a row that is refused is the answer
pub row_refused : (front : List ListRow) (number : ℕ) (fields : Record) (records : List Record) (fault : ListFault) → row_of number fields ≡ Err fault
    → with_front front (rows_from number (fields ∷ records)) ≡ Err fault
row_refused front number fields records fault e = ap (λ r. with_front front (then_with r (λ row. with_front (row ∷ []) (rows_from (number + 1) records)))) e

pub no_rows : (front : List ListRow) (number : ℕ) → with_front front (rows_from number []) ≡ Ok front
no_rows front number = ap (λ (l : List ListRow). Ok l) (append-nil front)

pub rows_before : (r : Result (List ListRow) ListFault) → with_front [] r ≡ r
rows_before (Ok rows) = refl
rows_before (Err fault) = refl

-- ---- what an answer says of the steps before it

pub then_ok : {A B E : Type 0} (r : Result A E) (k : A → Result B E) (b : B) → then_with r k ≡ Ok b → (a : A) × (r ≡ Ok a) × (k a ≡ Ok b)
then_ok (Ok a) k b e = (a, refl, e)
then_ok (Err x) k b e = absurd cc

pub front_ok : (front : List ListRow) (r : Result (List ListRow) ListFault) (rows : List ListRow) → with_front front r ≡ Ok rows
    → (rest : List ListRow) × (r ≡ Ok rest) × (front ++ rest ≡ rows)
front_ok front (Ok rest) rows e = (rest, refl, cc)
front_ok front (Err x) rows e = absurd cc

-- the first row and the others of an accepted list
pub rows_ok : (number : ℕ) (fields : Record) (records : List Record) (rows : List ListRow) → rows_from number (fields ∷ records) ≡ Ok rows
    → (row : ListRow) × (rest : List ListRow) × (row_of number fields ≡ Ok row) × (rows_from (number + 1) records ≡ Ok rest) × (row ∷ rest ≡ rows)
rows_ok number fields records rows e =
    let h = then_ok (row_of number fields) (λ row. with_front (row ∷ []) (rows_from (number + 1) records)) rows e in
    let k = front_ok (h.0 ∷ []) (rows_from (number + 1) records) rows h.2 in
    (h.0, k.0, h.1, k.1, k.2)

-- ---- a feed is below 16

below_is : (bound n m : ℕ) (b : Bool) → nat_lt n bound ≡ b → cond b (Some n) None ≡ Some m → m < bound
below_is bound n m true t e = let same : n ≡ m = cc in subst (λ k. k < bound) same (grind (arith, nat_tests, t))
below_is bound n m false t e = absurd cc

feed_below : (o : Option ℕ) (m : ℕ) → option_and_then (below 16) o ≡ Some m → m < 16
feed_below None m e = absurd cc
feed_below (Some n) m e = below_is 16 n m (nat_lt n 16) refl e

small_or : (o : Option ℕ) (e : ListFault) → ((n : ℕ) → o ≡ Some n → n < 16) → IfOk (ok_or o e) (λ n. n < 16)
small_or None e h = tt
small_or (Some n) e h = h n refl

feed_small : (r : Result (List ℕ) ListFault) (e : ListFault) → IfOk (then_with r (λ text. ok_or (feed_of text) e)) (λ n. n < 16)
feed_small (Ok text) e = small_or (feed_of text) e (feed_below (number_of text))
feed_small (Err x) e = tt

ok_row : (row found : ListRow) → HasFeedWithin row → (let r : Result ListRow ListFault = Ok row in r ≡ Ok found) → HasFeedWithin found
ok_row row found has e = let same : row ≡ found = cc in subst HasFeedWithin same has

from_values : (a b : Result ℕ ListFault) (c : Result (List ℕ) ListFault) (row : ListRow) → IfOk a (λ n. n < 16)
    → then_with a (λ feed. then_with b (λ moment. then_with c (λ path. Ok (Snapshot (record { feed = feed; moment = moment; path = path }))))) ≡ Ok row → HasFeedWithin row
from_values (Err x) b c row small e = absurd cc
from_values (Ok n) (Err x) c row small e = absurd cc
from_values (Ok n) (Ok m) (Err x) row small e = absurd cc
from_values (Ok n) (Ok m) (Ok p) row small e = ok_row (Snapshot (record { feed = n; moment = m; path = p })) row small e

snapshot_feed : (number : ℕ) (f : Fields) (row : ListRow) → snapshot_of number f ≡ Ok row → HasFeedWithin row
snapshot_feed number f row e =
    from_values (value_in feed_of number Feed f.feed) (value_in number_of number Moment f.moment) (path_in number f.path) row (feed_small (text_in number Feed f.feed) (BadValue number Feed)) e

from_folder : (a b : Result (List ℕ) ListFault) (row : ListRow) → then_with a (λ empty. then_with b (λ folder. Ok (Timetable folder))) ≡ Ok row → HasFeedWithin row
from_folder (Err x) b row e = absurd cc
from_folder (Ok n) (Err x) row e = absurd cc
from_folder (Ok n) (Ok p) row e = ok_row (Timetable p) row tt e

by_word : (number : ℕ) (f : Fields) (b : Bool) (row : ListRow) → cond b (timetable_of number f) (snapshot_of number f) ≡ Ok row → HasFeedWithin row
by_word number f true row e = from_folder (value_in empty_of number Moment f.moment) (path_in number f.path) row e
by_word number f false row e = snapshot_feed number f row e

from_fields : (number : ℕ) (r : Result Fields ListFault) (row : ListRow)
    → then_with r (λ f. cond (bytes_eq f.feed timetable_word) (timetable_of number f) (snapshot_of number f)) ≡ Ok row → HasFeedWithin row
from_fields number (Ok f) row e = by_word number f (bytes_eq f.feed timetable_word) row e
from_fields number (Err x) row e = absurd cc

row_feed : (number : ℕ) (fields : Record) (row : ListRow) → row_of number fields ≡ Ok row → HasFeedWithin row
row_feed number fields row e = from_fields number (ok_or (fields_in fields) (NotThreeFields number)) row e

rows_feeds : (number : ℕ) (records : List Record) (rows : List ListRow) → rows_from number records ≡ Ok rows → AllByRecursion HasFeedWithin rows
rows_feeds number [] rows e = let same : [] ≡ rows = cc in subst (λ (l : List ListRow). AllByRecursion HasFeedWithin l) same tt
rows_feeds number (fields ∷ records) rows e =
    let h = rows_ok number fields records rows e in
    subst (λ (l : List ListRow). AllByRecursion HasFeedWithin l) h.4 (row_feed number fields h.0 h.2, rows_feeds (number + 1) records h.1 h.3)

pub rows_many : (number : ℕ) (records : List Record) (rows : List ListRow) → rows_from number records ≡ Ok rows → length rows ≡ length records
rows_many number [] rows e = let same : [] ≡ rows = cc in ap (λ (l : List ListRow). length l) (sym same)
rows_many number (fields ∷ records) rows e =
    let h = rows_ok number fields records rows e in
    ap (λ (l : List ListRow). length l) (sym h.4) ∙ ap suc (rows_many (number + 1) records h.1 h.3)

-- ---- an accepted list

pub few_records : (records : List Record) → nat_lt row_limit (length records) ≡ false → length records ≤ row_limit
few_records records e = grind (arith, nat_tests, e)

pub list_ok : (records : List Record) (rows : List ListRow) → list_of records ≡ Ok rows → (length records ≤ row_limit) × (rows_from 1 records ≡ Ok rows)
list_ok records rows e = by (nat_lt row_limit (length records)) refl e
  where
    by : (b : Bool) → nat_lt row_limit (length records) ≡ b → cond b (Err TooLarge) (rows_from 1 records) ≡ Ok rows → (length records ≤ row_limit) × (rows_from 1 records ≡ Ok rows)
    by true t h = absurd cc
    by false t h = (few_records records t, h)

-- what is read of few records is within the limits
pub read_within_limits : (records : List Record) (r : Result (List ListRow) ListFault) → length records ≤ row_limit → IfOk r (λ list. rows_from 1 records ≡ Ok list) → IfOk r IsWithinLimits
read_within_limits records (Ok rows) few e = record { few = rw (rows_many 1 records rows e) few; feeds = rows_feeds 1 records rows e }
read_within_limits records (Err fault) few e = tt
