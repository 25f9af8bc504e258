use Rattle.sorted_rows.proofs.More.{both_sorted}
use Rattle.sorted_rows.proofs.sorted_rows.SortedRows.sort.Goals as goal

pub returns : goal.returns
returns c rows h =
    let u = c.in_ok-sort.ensures in
    let v = c.in_ok-sort-2.ensures in
    both_sorted c.args.self.now _ rows (record { any = u.any; vehicles = u.vehicles; lone_trips = u.lone_trips; pairs = u.pairs; keys = u.keys })
    (record { any = v.any; vehicles = v.vehicles; lone_trips = v.lone_trips; pairs = v.pairs; keys = v.keys }) h
