use Rattle.exchanged_timetables.proofs.History.{exchange_retables}
use Rattle.exchanged_timetables.proofs.laws.exchange_retables.Goals as goal

pub returns : goal.returns
returns c = exchange_retables
