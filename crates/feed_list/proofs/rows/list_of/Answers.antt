use Rattle.std.proofs.Common.{◌≤◌, ◌∙◌, length, sym}
use Rattle.csv_records.specs.Records.{records_of}
use Rattle.feed_list.specs.Lists.{row_limit}
use Rattle.feed_list.proofs.Lists.{few_records, read_within_limits}
use Rattle.feed_list.proofs.rows.list_of.Goals as goal

pub returns-clause-limits : goal.returns-clause-limits
returns-clause-limits c =
    let all = records_of c.args.bytes.now in
    let few : length all ≤ row_limit = few_records all (sym c.in_ok-has_many_rows.ensures ∙ c.if-branch.false) in
    let left : length c.new.result ≤ row_limit = rw c.new.ensures.records few in
    read_within_limits c.new.result c.read_rows.result left c.read_rows.ensures.ok
