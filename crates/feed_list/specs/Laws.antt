-- What a list holds, in words of its rows.
use Rattle.std.specs.Prelude.{◌≡◌, ◌⊎◌, ◌≤◌, ◌<◌, ℕ, ◌+◌, List, length, Some, Ok, Err, IsOk, slice_get}
use Rattle.csv_records.specs.Records.{Record}
use Rattle.feed_list.specs.Lists.{list_of, row_limit}
use Rattle.feed_list.specs.Rows.{row_of}
use Rattle.feed_list.specs.declared.row.ListRow.{ListRow}
use Rattle.feed_list.specs.declared.fault.ListFault.{ListFault}
use Rattle.feed_list.specs.declared.fault.ListFault.TheVariants.{TooLarge}

-- Record i, counted from 0, is what row i + 1 says.
abbrev pub AreRows : List Record → List ListRow → Type 0
AreRows records rows =
    (length rows ≡ length records)
    × ((i : ℕ) (fields : Record) → slice_get records i ≡ Some fields → (row : ListRow) × (slice_get rows i ≡ Some row) × (row_of (i + 1) fields ≡ Ok row))

-- Row i + 1 has this fault, and all rows before it are rows.
pub record FirstBadRow (records : List Record) (fault : ListFault) : Type 0 where
  pub i : ℕ
  pub fields : Record
  pub there : slice_get records i ≡ Some fields
  pub bad : row_of (i + 1) fields ≡ Err fault
  pub before : (j : ℕ) (earlier : Record) → j < i → slice_get records j ≡ Some earlier → IsOk (row_of (j + 1) earlier)

pub record ListFollowsItsRows : Type 0 where
  pub accepted : (records : List Record) (rows : List ListRow) → list_of records ≡ Ok rows → (length records ≤ row_limit) × AreRows records rows
  pub refused : (records : List Record) (fault : ListFault) → list_of records ≡ Err fault
      → ((row_limit < length records) × (fault ≡ TooLarge)) ⊎ ((length records ≤ row_limit) × FirstBadRow records fault)
