use Rattle.rt_day.proofs.DateSpellingLemmas.{date_read, date_is}
use Rattle.rt_day.proofs.laws.date_is_its_parts.Goals as goal

pub returns-clause-read : goal.returns-clause-read
returns-clause-read c = date_read

pub returns-clause-exact : goal.returns-clause-exact
returns-clause-exact c = date_is
