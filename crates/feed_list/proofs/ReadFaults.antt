-- Bytes in memory give no read fault.
use Rattle.std.proofs.Common.{◌≡◌, ◌≢◌, ◌+◌, ℕ, Bool, true, false, cond, List, Option, Some, None, Result, Ok, Err, IfErr, refl, subst, inl, inr}
use Rattle.std.specs.Prelude.{bytes_eq}
use Rattle.std.specs.Result.{IsErrOf}
use Rattle.csv_records.specs.Results.{ok_or, then_with}
use Rattle.csv_records.specs.Texts.{text_of}
use Rattle.csv_records.specs.Records.{Record}
use Rattle.feed_list.specs.declared.column.Column.{Column}
use Rattle.feed_list.specs.declared.column.Column.TheVariants.{Feed, Moment, Path}
use Rattle.feed_list.specs.declared.fault.ListFault.{ListFault}
use Rattle.feed_list.specs.declared.fault.ListFault.TheVariants.{BadValue, Memory, NotText, NotThreeFields, ReadFault}
use Rattle.feed_list.specs.declared.row.ListRow.{ListRow}
use Rattle.feed_list.specs.declared.row.ListRow.TheVariants.{Snapshot, Timetable}
use Rattle.feed_list.specs.Lists.{list_of}
use Rattle.feed_list.specs.Rows.{Fields, empty_of, fields_in, path_in, snapshot_of, timetable_of, timetable_word, value_in}
use Rattle.feed_list.specs.Values.{feed_of, number_of, path_of}
use Rattle.feed_list.proofs.ListRows.{list_follows_its_rows}

value_read : {V : Type 0} (o : Option V) (number : ℕ) (column : Column) → ok_or o (BadValue number column) ≢ Err ReadFault
value_read None number column e = cc
value_read (Some v) number column e = cc

text_read : {V : Type 0} (o : Option (List ℕ)) (read : List ℕ → Option V) (number : ℕ) (column : Column)
    → then_with (ok_or o (NotText number column)) (λ text. ok_or (read text) (BadValue number column)) ≢ Err ReadFault
text_read None read number column e = cc
text_read (Some text) read number column e = value_read (read text) number column e

abbrev row_from : Result ℕ ListFault → Result ℕ ListFault → Result (List ℕ) ListFault → Result ListRow ListFault
row_from a b c = then_with a (λ feed. then_with b (λ moment. then_with c (λ path. Ok (Snapshot (record { feed = feed; moment = moment; path = path })))))

values_read : (a b : Result ℕ ListFault) (c : Result (List ℕ) ListFault) → a ≢ Err ReadFault → b ≢ Err ReadFault → c ≢ Err ReadFault → row_from a b c ≢ Err ReadFault
values_read (Err x) b c na nb nc e = let same : x ≡ ReadFault = cc in na (rw same refl)
values_read (Ok n) (Err x) c na nb nc e = let same : x ≡ ReadFault = cc in nb (rw same refl)
values_read (Ok n) (Ok m) (Err x) na nb nc e = let same : x ≡ ReadFault = cc in nc (rw same refl)
values_read (Ok n) (Ok m) (Ok p) na nb nc e = cc

snapshot_read : (number : ℕ) (f : Fields) → snapshot_of number f ≢ Err ReadFault
snapshot_read number f e =
    values_read (value_in feed_of number Feed f.feed) (value_in number_of number Moment f.moment) (path_in number f.path)
    (text_read (text_of f.feed) feed_of number Feed) (text_read (text_of f.moment) number_of number Moment) (text_read (text_of f.path) path_of number Path) e

folder_read : (a b : Result (List ℕ) ListFault) → a ≢ Err ReadFault → b ≢ Err ReadFault → then_with a (λ empty. then_with b (λ folder. Ok (Timetable folder))) ≢ Err ReadFault
folder_read (Err x) b na nb e = let same : x ≡ ReadFault = cc in na (rw same refl)
folder_read (Ok n) (Err x) na nb e = let same : x ≡ ReadFault = cc in nb (rw same refl)
folder_read (Ok n) (Ok p) na nb e = cc

timetable_read : (number : ℕ) (f : Fields) → timetable_of number f ≢ Err ReadFault
timetable_read number f e =
    folder_read (value_in empty_of number Moment f.moment) (path_in number f.path) (text_read (text_of f.moment) empty_of number Moment) (text_read (text_of f.path) path_of number Path) e

by_word : (number : ℕ) (f : Fields) (b : Bool) → cond b (timetable_of number f) (snapshot_of number f) ≢ Err ReadFault
by_word number f true e = timetable_read number f e
by_word number f false e = snapshot_read number f e

fields_read : (number : ℕ) (o : Option Fields)
    → then_with (ok_or o (NotThreeFields number)) (λ f. cond (bytes_eq f.feed timetable_word) (timetable_of number f) (snapshot_of number f)) ≢ Err ReadFault
fields_read number None e = cc
fields_read number (Some f) e = by_word number f (bytes_eq f.feed timetable_word) e

list_read : (records : List Record) → list_of records ≢ Err ReadFault
list_read records e = elim (list_follows_its_rows.refused records ReadFault e) [
  | inl large ↦ cc large.1
  | inr bad ↦ fields_read (bad.1.i + 1) (fields_in bad.1.fields) bad.1.bad
]

-- so an answer that stands on them is none
pub no_read_fault : {T : Type 0} (records : List Record) (r : Result T ListFault) → IfErr r (λ e. e ≢ Memory → list_of records ≡ Err e) → IsErrOf r ReadFault → ⊥
no_read_fault records (Ok t) h e = cc
no_read_fault records (Err x) h e =
    let same : x ≡ ReadFault = cc in
    list_read records (subst (λ (y : ListFault). y ≢ Memory → list_of records ≡ Err y) same h (λ m. cc m))
