-- What a `Records` shows and keeps.
use Rattle.std.specs.Prelude.{◌≡◌, ℕ, List, [], true, false, if◌then◌else◌, Option, Some, unwrap_or}
use Rattle.std.specs.Borrow.{Bor}
use Rattle.csv.specs.Machine.{ends_at_end}
use Rattle.csv.specs.Reading.{Ready, default_config, is_flexible, reader_config, reader_state, reader_trim, source_of}
use Rattle.csv.specs.declared.reader.Reader.{Reader}
use Rattle.csv.specs.declared.reader.Trim.TheVariants as trim
use Rattle.csv_records.specs.Records.{Record, left_from}
use Rattle.csv_records.specs.declared.records.Records.TheInside.{Inside}

abbrev pub SliceReader : Type 0
SliceReader = Reader (Bor (List ℕ))

-- the bytes that a reader of a slice reads from next
abbrev pub unread : SliceReader → Option (List ℕ)
unread reader = source_of (λ s. Some s.now) reader

-- the records that a reader has left
abbrev pub left_of : SliceReader → List Record
left_of reader = left_from (reader_state reader) (unwrap_or (unread reader) [])

-- the records that are left
abbrev pub records_view : Inside → List Record
records_view r = if r.ended then [] else left_of r.reader

-- the reader reads record after record of known bytes
pub record IsReading (reader : SliceReader) : Type 0 where
  pub untrimmed : reader_trim reader ≡ trim.None
  pub ready : Ready reader
  pub plain : reader_config reader ≡ default_config
  pub lenient : is_flexible reader ≡ true
  pub known : unread reader ≡ Some (unwrap_or (unread reader) [])
  pub between : ends_at_end (reader_state reader) ≡ false

abbrev pub IsRecords : Inside → Type 0
IsRecords r = r.ended ≡ false → IsReading r.reader
