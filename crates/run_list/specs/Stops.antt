-- Why rows aren't followed to their end. (This profile.)
use Rattle.std.specs.Prelude.{◌≡◌, ℕ, List, [], map, Contains, ◌⊎◌, Option, Some, IfSome}
use Rattle.std.specs.List.{flat_map}
use Rattle.feed_list.specs.declared.row.ListRow.{ListRow}
use Rattle.feed_list.specs.declared.row.ListRow.TheVariants as row
use Rattle.run_base.specs.declared.fault.Fault.{Fault}
use Rattle.run_base.specs.declared.fault.Fault.TheVariants as fault
use Rattle.run_base.specs.Inputs.{in_folder}
use Rattle.run_timetable.specs.Timetables.{IsTableFile}
use Rattle.run_list.specs.declared.stop.Stop.{Stop}
use Rattle.run_list.specs.declared.stop.Stop.TheVariants as stop

-- what stopped, and the name of the file if it was a read
abbrev pub fault_of : Stop → Fault
fault_of (stop.Read name) = fault.Read
fault_of (stop.ReadIn folder name) = fault.Read
fault_of stop.Write = fault.Write
fault_of stop.Memory = fault.Memory

abbrev pub name_of : Stop → List ℕ
name_of (stop.Read name) = name.now
name_of (stop.ReadIn folder name) = in_folder folder.now name.now
name_of stop.Write = []
name_of stop.Memory = []

-- a file that a row has read: that of its snapshot, or one of its timetable's folder
abbrev pub IsReadFor : ListRow → List ℕ → Type 0
IsReadFor (row.Snapshot row) name = name ≡ row.path
IsReadFor (row.Timetable folder) name = IsTableFile (Some folder) name

-- one of the files that rows have read
pub record IsReadByRows (rows : List ListRow) (name : List ℕ) : Type 0 where
  pub row : ListRow
  pub there : Contains rows row
  pub read : IsReadFor row name

-- A read of such a file failed, and it was the last asked for; or the output failed; or memory was wanted.
pub record IsStop (reads : List ℕ → Type 0) (last : Option (List ℕ)) (read_rose write_rose : Type 0) (why : Stop) : Type 0 where
  pub reading : fault_of why ≡ fault.Read → reads (name_of why)
  pub named : fault_of why ≡ fault.Read → IfSome last (λ name. name ≡ name_of why)
  pub read : fault_of why ≡ fault.Read → read_rose
  pub write : fault_of why ≡ fault.Write → write_rose
