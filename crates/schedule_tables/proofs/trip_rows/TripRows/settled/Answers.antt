use Rattle.std.proofs.Common.{ap, sym, ◌∙◌, ◌++◌}
use Rattle.schedule_tables.specs.Times.{by_sequence, entries_in, keyed}
use Rattle.schedule_tables.proofs.RowLemmas.{one_map, only_rising}
use Rattle.schedule_tables.proofs.trip_rows.TripRows.settled.Goals as goal

pub returns-in-None : goal.returns-in-None
returns-in-None c =
    let trip = c.self.inside in
    let none = ap entries_in (sym c.in-None.is) ∙ c.into_map.ensures in
    c.new-in-None.ensures ∙ only_rising trip.rising.items trip.late c.self.invariant.0 none ∙ c.self.view_is

pub returns-in_ok-in_order-in-Some : goal.returns-in_ok-in_order-in-Some
returns-in_ok-in_order-in-Some c =
    let rising = c.self.inside.rising.items in
    let entries = ap entries_in (sym c.in-Some.is) ∙ c.into_map.ensures in
    c.new.ensures ∙ one_map _ c.in_ok-in_order-in-Some.ensures.rising ∙ ap by_sequence c.in_ok-in_order-in-Some.ensures.entries
    ∙ c.in_ok-all-in-Some.ensures.entries ∙ ap (λ late. by_sequence (keyed rising ++ late)) entries ∙ c.self.view_is
