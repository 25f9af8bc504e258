-- What the rules find where there is no timetable.
use Rattle.std.specs.Prelude.{◌≡◌, [], None}
use Rattle.feed_values.specs.Schema.{Value}
use Rattle.feed_values.specs.Messages.{entity}
use Rattle.rule_table.specs.declared.key.EntityKey.{EntityKey}
use Rattle.rule_table.specs.Judged.{found_all}
use Rattle.rule_history.specs.Answered.{local_answer}
use Rattle.schedule_rules.specs.Schedule.{schedule_rules}

-- nothing, at every entity
abbrev pub NoTimetableNoFindings : Type 0
NoTimetableNoFindings = (k : EntityKey) (e : Value entity) → found_all schedule_rules (local_answer None k e) k e ≡ []
