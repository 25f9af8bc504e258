use Rattle.std.proofs.Common.{ap, option_map, ◌∙◌}
use Rattle.std.specs.FinMap as map
use Rattle.timetable.proofs.TimetableLemmas.{tables_of_held}
use Rattle.timetable.proofs.timetable.Timetable.calendar.Goals as goal

pub returns-in-Some : goal.returns-in-Some
returns-in-Some c = λ id service. ap (option_map (λ only. only.item))
    (c.in-Some.ensures ∙ ap (map.get c.held.result.now.services) (c.service_id.ensures id service)
    ∙ ap (λ tables. map.get tables.services id) (tables_of_held c.args.self.now c.held.result.now c.held.ensures))

pub returns-in-None : goal.returns-in-None
returns-in-None c = λ id service. ap (option_map (λ only. only.item))
    (c.in-None.ensures ∙ ap (map.get c.held.result.now.services) (c.service_id.ensures id service)
    ∙ ap (λ tables. map.get tables.services id) (tables_of_held c.args.self.now c.held.result.now c.held.ensures))
