use Rattle.sorted_rows.proofs.More.{none_held}
use Rattle.sorted_rows.proofs.sorted_rows.SortedRows.new.Goals as goal

pub returns : goal.returns
returns c = none_held _ c.new.ensures.any c.new-2.ensures.any (record { vehicles = c.new.ensures.vehicles; lone_trips = c.new.ensures.lone_trips; pairs = c.new.ensures.pairs; keys = c.new.ensures.keys })
    (record { vehicles = c.new-2.ensures.vehicles; lone_trips = c.new-2.ensures.lone_trips; pairs = c.new-2.ensures.pairs; keys = c.new-2.ensures.keys })
