use Rattle.std.proofs.Common.{ap, sym, ◌∙◌}
use Rattle.std.specs.FinMap as map
use Rattle.schedule_tables.specs.Numbers.{map_of}
use Rattle.schedule_tables.proofs.NumberLemmas.{row_at}
use Rattle.schedule_tables.proofs.numbered.Numbered.get.Goals as goal

pub returns-clause-value : goal.returns-clause-value
returns-clause-value g c = λ id number.
    let entry = rw c.unwrap.ensures at c.get_index.ensures.entry in
    let value = rw c.unwrap.ensures at c.get_index.ensures.value in
    ap (λ es. map.get (map_of es) id) (sym c.self.view_is) ∙ row_at c.self.inside.groups _ _ _ id (sym entry) value (rw (← c.self.view_is) at number)
