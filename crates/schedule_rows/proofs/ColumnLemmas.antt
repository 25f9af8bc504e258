-- Columns by number.
use Rattle.std.proofs.Common.{◌≡◌, ◌<◌, get_or, arith}
use Rattle.schedule_rows.specs.Columns.{number_of}
use Rattle.schedule_rows.specs.declared.column.Column.{Column}
use Rattle.schedule_rows.specs.declared.column.Column.TheVariants.{AgencyId}
use Rattle.schedule_rows.specs.declared.column.TheConstants.Column.{ALL}

pub at_number : (column : Column) → get_or ALL (number_of column) AgencyId ≡ column
at_number column = grind arith

pub number_of-within : (column : Column) → number_of column < 25
number_of-within column = grind arith
