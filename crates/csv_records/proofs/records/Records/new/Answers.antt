use Rattle.csv_records.proofs.Left.{few_records}
use Rattle.csv_records.proofs.records.Records.new.Goals as goal

pub returns-clause-few : goal.returns-clause-few
returns-clause-few c = few_records c.args.bytes.now
