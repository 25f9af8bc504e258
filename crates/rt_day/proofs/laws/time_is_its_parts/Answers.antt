use Rattle.rt_day.proofs.SpellingLemmas.{time_read, time_is}
use Rattle.rt_day.proofs.laws.time_is_its_parts.Goals as goal

pub returns-clause-read : goal.returns-clause-read
returns-clause-read c = time_read

pub returns-clause-exact : goal.returns-clause-exact
returns-clause-exact c = time_is
