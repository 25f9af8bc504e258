use Rattle.csv_records.specs.Records.{records_of}
use Rattle.feed_list.proofs.ReadFaults.{no_read_fault}
use Rattle.feed_list.proofs.list.read_list.Goals as goal

pub returns-in-Ok-clause-cause : goal.returns-in-Ok-clause-cause
returns-in-Ok-clause-cause g c = λ is. absurd (no_read_fault (records_of c.deref.result.now) c.list_of.result c.list_of.ensures.err is)
