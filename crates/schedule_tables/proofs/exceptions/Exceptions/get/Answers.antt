use Rattle.std.proofs.Common.{ap, ◌∙◌}
use Rattle.std.specs.FinMap as map
use Rattle.schedule_tables.proofs.DayLemmas.{get_day}
use Rattle.schedule_tables.proofs.exceptions.Exceptions.get.Goals as goal

pub returns : goal.returns
returns c = c.copied.ensures ∙ c.get.ensures.value ∙ get_day c.self.inside.days.entries c.args.day.number ∙ ap (λ m. map.get m c.args.day.number) c.self.view_is
