use Rattle.trip_calendar.proofs.ViewLemmas.{seconds_same}
use Rattle.trip_calendar.proofs.laws.rule_offsets_follow_the_text.Goals as goal

pub returns : goal.returns
returns c = seconds_same
