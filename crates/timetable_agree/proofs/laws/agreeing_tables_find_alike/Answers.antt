use Rattle.timetable_agree.proofs.Finding.{agreeing_find_alike}
use Rattle.timetable_agree.proofs.laws.agreeing_tables_find_alike.Goals as goal

pub returns : goal.returns
returns c = agreeing_find_alike
