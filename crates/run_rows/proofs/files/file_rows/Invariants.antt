use Rattle.std.proofs.Common.{◌≡◌, take}
use Rattle.run_rows.specs.Files.{file_rows}
use Rattle.run_rows.proofs.files.file_rows.Given as goal

-- the rows of the files so far
abbrev pub invariant-loop-index : goal.invariant-loop-index
invariant-loop-index l = record {
  same : l.name-items ≡ l.names;
  rows_are : l.rows ≡ file_rows 0 l.moment (take l.index l.names);
}
