-- A row of a list: a feed, a moment and the path of a snapshot; or the folder of a timetable. (This profile.)
use Rattle.std.specs.Prelude.{ℕ, List, [], ◌∷◌, Option, Some, None, Result, Ok, bytes_eq, codes, if◌then◌else◌}
use Rattle.csv_records.specs.Results.{ok_or, then_with}
use Rattle.csv_records.specs.Texts.{text_of}
use Rattle.csv_records.specs.Records.{Record}
use Rattle.feed_list.specs.Values.{feed_of, number_of, path_of}
use Rattle.feed_list.specs.declared.column.Column.{Column}
use Rattle.feed_list.specs.declared.column.Column.TheVariants.{Feed, Moment, Path}
use Rattle.feed_list.specs.declared.fault.ListFault.{ListFault}
use Rattle.feed_list.specs.declared.fault.ListFault.TheVariants.{BadValue, NotText, NotThreeFields}
use Rattle.feed_list.specs.declared.row.ListRow.{ListRow}
use Rattle.feed_list.specs.declared.row.ListRow.TheVariants.{Snapshot, Timetable}

-- the fields of a row
pub record Fields : Type 0 where
  pub feed : List ℕ
  pub moment : List ℕ
  pub path : List ℕ

-- a row has three fields
abbrev pub fields_in : Record → Option Fields
fields_in (feed ∷ moment ∷ path ∷ []) = Some (record { feed = feed; moment = moment; path = path })
fields_in _ = None

-- a field as text
abbrev pub text_in : ℕ → Column → List ℕ → Result (List ℕ) ListFault
text_in number column field = ok_or (text_of field) (NotText number column)

-- the value of a field: first not text, then a bad value
abbrev pub value_in : {V : Type 0} → (List ℕ → Option V) → ℕ → Column → List ℕ → Result V ListFault
value_in read number column field = then_with (text_in number column field) (λ text. ok_or (read text) (BadValue number column))

abbrev pub path_in : ℕ → List ℕ → Result (List ℕ) ListFault
path_in number field = value_in path_of number Path field

-- the first field of a timetable's row
abbrev pub timetable_word : List ℕ
timetable_word = codes "timetable"

-- a timetable has no moment: the field is empty
abbrev pub empty_of : List ℕ → Option (List ℕ)
empty_of [] = Some []
empty_of (byte ∷ bytes) = None

-- The row of a timetable: the moment, which is empty, and then the folder.
abbrev pub timetable_of : ℕ → Fields → Result ListRow ListFault
timetable_of number fields =
    then_with (value_in empty_of number Moment fields.moment) (λ empty.
    then_with (path_in number fields.path) (λ folder.
    Ok (Timetable folder)))

-- The row of a snapshot: the feed, the moment and the path.
abbrev pub snapshot_of : ℕ → Fields → Result ListRow ListFault
snapshot_of number fields =
    then_with (value_in feed_of number Feed fields.feed) (λ feed.
    then_with (value_in number_of number Moment fields.moment) (λ moment.
    then_with (path_in number fields.path) (λ path.
    Ok (Snapshot (record { feed = feed; moment = moment; path = path })))))

-- The row of this number: first not three fields, then what its first field says that it is.
abbrev pub row_of : ℕ → Record → Result ListRow ListFault
row_of number cells =
    then_with (ok_or (fields_in cells) (NotThreeFields number)) (λ fields.
    if bytes_eq fields.feed timetable_word then timetable_of number fields else snapshot_of number fields)
