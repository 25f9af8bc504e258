use Rattle.std.proofs.Common.{◌≡◌, ◌+◌, length}
use Rattle.csv_records.specs.Records.{records_of}
use Rattle.feed_list.proofs.rows.has_many_rows.Given as goal

-- the rows so far and those that are left are all
abbrev pub invariant-loop-record : goal.invariant-loop-record
invariant-loop-record l = l.count + length l.rows ≡ length (records_of l.bytes)

abbrev pub decreases-loop-record : goal.decreases-loop-record
decreases-loop-record l = length l.rows
