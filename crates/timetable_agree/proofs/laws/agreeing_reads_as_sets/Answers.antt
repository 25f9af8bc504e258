use Rattle.timetable_agree.proofs.Sets.{agree_reads_as_sets}
use Rattle.timetable_agree.proofs.laws.agreeing_reads_as_sets.Goals as goal

pub returns : goal.returns
returns c = agree_reads_as_sets
