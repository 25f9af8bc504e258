use Rattle.std.proofs.Common.{ap, ◌∙◌}
use Rattle.std.specs.FinMap as map
use Rattle.schedule_tables.proofs.MapLemmas.{get_text}
use Rattle.schedule_tables.proofs.grouped.Grouped.get.Goals as goal

pub returns : goal.returns
returns g c = c.get.ensures.value ∙ get_text c.self.inside.groups.entries c.args.id.now ∙ ap (λ m. map.get m c.args.id.now) c.self.view_is
