-- What is told of a list that is refused. (This profile.)
use Rattle.std.specs.Prelude.{ℕ, List, [], ◌++◌, codes, decimal}
use Rattle.feed_list.specs.declared.column.Column.{Column}
use Rattle.feed_list.specs.declared.column.Column.TheVariants.{Feed, Moment, Path}
use Rattle.feed_list.specs.declared.fault.ListFault.{ListFault}
use Rattle.feed_list.specs.declared.fault.ListFault.TheVariants.{MissingFile, TooLarge, NotThreeFields, NotText, BadValue, ReadFault, Memory}

abbrev pub column_name : Column → List ℕ
column_name Feed = codes "feed"
column_name Moment = codes "moment"
column_name Path = codes "path"

abbrev pub bad_value_text : ℕ → Column → List ℕ
bad_value_text row column = codes "row " ++ decimal row ++ codes ": bad value in " ++ column_name column

-- A row that hasn't three fields is bad in its path. A failed read and want of memory are no faults of a list, and have no
-- text here.
abbrev pub fault_text : ListFault → List ℕ
fault_text MissingFile = codes "missing file"
fault_text TooLarge = codes "too large"
fault_text (NotThreeFields row) = bad_value_text row Path
fault_text (NotText row column) = codes "row " ++ decimal row ++ codes ": not text"
fault_text (BadValue row column) = bad_value_text row column
fault_text ReadFault = []
fault_text Memory = []
