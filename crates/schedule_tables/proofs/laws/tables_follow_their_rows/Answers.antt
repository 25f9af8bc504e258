use Rattle.schedule_tables.specs.Formats.{day_key, only, only_key}
use Rattle.schedule_tables.specs.Groups.{exceptions}
use Rattle.schedule_tables.proofs.KeyLemmas.{keeps_by_id, keeps_days, keeps_lists, keeps_only}
use Rattle.schedule_tables.proofs.LawLemmas.{follows_rows}
use Rattle.schedule_tables.proofs.VisitLemmas.{keeps_visits}
use Rattle.schedule_tables.proofs.laws.tables_follow_their_rows.Goals as goal

pub returns-clause-agency : goal.returns-clause-agency
returns-clause-agency c = follows_rows _ _ _ (keeps_by_id _ _ only only_key keeps_only)

pub returns-clause-stops : goal.returns-clause-stops
returns-clause-stops c = follows_rows _ _ _ (keeps_by_id _ _ only only_key keeps_only)

pub returns-clause-routes : goal.returns-clause-routes
returns-clause-routes c = follows_rows _ _ _ (keeps_by_id _ _ only only_key keeps_only)

pub returns-clause-calendar : goal.returns-clause-calendar
returns-clause-calendar c = follows_rows _ _ _ (keeps_by_id _ _ only only_key keeps_only)

pub returns-clause-calendar_dates : goal.returns-clause-calendar_dates
returns-clause-calendar_dates c = follows_rows _ _ _ (keeps_by_id _ _ exceptions day_key keeps_days)

pub returns-clause-frequencies : goal.returns-clause-frequencies
returns-clause-frequencies c = follows_rows _ _ _ (keeps_lists _ _)

pub returns-clause-trips : goal.returns-clause-trips
returns-clause-trips c = follows_rows _ _ _ (keeps_by_id _ _ only only_key keeps_only)

pub returns-clause-stop_times : goal.returns-clause-stop_times
returns-clause-stop_times c = follows_rows _ _ _ keeps_visits
