use Rattle.std.proofs.Common.{ap, is_some, sym, ◌∙◌, true, false}
use Rattle.std.specs.FinMap as map
use Rattle.schedule_tables.specs.Numbers.{map_of}
use Rattle.schedule_tables.proofs.MapLemmas.{get_text, is_some-get, none_of}
use Rattle.schedule_tables.proofs.NumberLemmas.{number_has}
use Rattle.schedule_tables.proofs.numbered.Numbered.number.Goals as goal

pub returns-in-None-clause-none : goal.returns-in-None-clause-none
returns-in-None-clause-none g c =
    let none = none_of _ (sym c.get_index_of.ensures.found ∙ ap is_some c.in-None.is) in
    ap (λ es. map.get (map_of es) c.args.id.now) (sym c.self.view_is) ∙ sym (get_text c.self.inside.groups.entries c.args.id.now) ∙ none

pub returns-in-Some-clause-found : goal.returns-in-Some-clause-found
returns-in-Some-clause-found g c =
    let number = sym c.get_index_of.ensures.index ∙ c.in-Some.is in
    rw (← c.self.view_is) (number_has c.self.inside.groups.entries c.args.id.now _ number)

pub returns-in-Some-clause-known : goal.returns-in-Some-clause-known
returns-in-Some-clause-known g c =
    sym (is_some-get c.self.inside.groups.entries c.args.id.now (map_of c.args.self.now) true (ap map_of c.self.view_is) (sym (ap is_some c.in-Some.is) ∙ c.get_index_of.ensures.found))

pub returns-in-None-clause-known : goal.returns-in-None-clause-known
returns-in-None-clause-known g c =
    sym (is_some-get c.self.inside.groups.entries c.args.id.now (map_of c.args.self.now) false (ap map_of c.self.view_is) (sym (ap is_some c.in-None.is) ∙ c.get_index_of.ensures.found))
