use Rattle.std.proofs.Common.{ap, ◌∙◌}
use Rattle.std.specs.FinMap as map
use Rattle.schedule_tables.proofs.DayLemmas.{update_day}
use Rattle.schedule_tables.proofs.exceptions.Exceptions.write.Goals as goal

pub returns : goal.returns
returns c =
    update_day c.self.inside.days.entries c.insert.new.self.entries c.args.day c.args.added c.in_ok-insert.ensures.updates.0
    ∙ ap (λ m. map.insert m c.args.day.number c.args.added) c.self.view_is
