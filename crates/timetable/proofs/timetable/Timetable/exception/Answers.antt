use Rattle.std.proofs.Common.{ap, ◌∙◌}
use Rattle.std.specs.FinMap as map
use Rattle.std.specs.Option.{option_and_then}
use Rattle.timetable.proofs.TimetableLemmas.{tables_of_held}
use Rattle.timetable.proofs.timetable.Timetable.exception.Goals as goal

pub returns-in-Some : goal.returns-in-Some
returns-in-Some c = λ id service. c.get-in-Some.ensures
    ∙ ap (option_and_then (λ days. map.get days c.args.day.number))
    (c.in-Some.ensures ∙ ap (map.get c.held.result.now.exceptions) (c.service_id.ensures id service)
    ∙ ap (λ tables. map.get tables.exceptions id) (tables_of_held c.args.self.now c.held.result.now c.held.ensures))

pub returns-in-None : goal.returns-in-None
returns-in-None c = λ id service. ap (option_and_then (λ days. map.get days c.args.day.number))
    (c.in-None.ensures ∙ ap (map.get c.held.result.now.exceptions) (c.service_id.ensures id service)
    ∙ ap (λ tables. map.get tables.exceptions id) (tables_of_held c.args.self.now c.held.result.now c.held.ensures))
