use Rattle.trip_calendar.proofs.ViewLemmas.{chosen_same}
use Rattle.trip_calendar.proofs.laws.rule_choices_follow_the_text.Goals as goal

pub returns : goal.returns
returns c = chosen_same
