use Rattle.std.proofs.Common.{◌∙◌}
use Rattle.schedule_tables.proofs.MapLemmas.{entries_there}
use Rattle.schedule_tables.proofs.grouped.Grouped.is_empty.Goals as goal

pub returns-clause-some : goal.returns-clause-some
returns-clause-some g c answer nothing = entries_there c.self.inside.groups.entries (λ few. let held = c.is_empty.ensures.1 few in cc) (c.self.view_is ∙ nothing)
