use Rattle.timetable.specs.Lookups.{is_present, tables_in}
use Rattle.rule_history.specs.Answered.{tables_of}
use Rattle.timetable_agree.proofs.Finding.{agreeing_find_alike, once_held}
use Rattle.timetable_agree.proofs.laws.agreeing_timetables_find_alike.Goals as goal

pub returns : goal.returns
returns c =
    let old = c.args.old.now in
    let new = c.args.new.now in
    agreeing_find_alike (tables_of old) (tables_of new) (once_held (is_present old) (tables_in old) c.stops_differ.ensures) (once_held (is_present new) (tables_in new) c.stops_differ-2.ensures)
