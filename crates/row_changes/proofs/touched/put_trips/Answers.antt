use Rattle.std.proofs.Common.{◌&&◌, ℕ, List}
use Rattle.std.specs.List.{list_any}
use Rattle.std.specs.Map.Iter.{deref}
use Rattle.std.proofs.lemmas.Map.Iter.{rest_more}
use Rattle.rule_table.specs.Order.{same_key}
use Rattle.rule_table.specs.Pairs.{is_id}
use Rattle.row_changes.proofs.Lists.{one-less}
use Rattle.row_changes.proofs.touched.put_trips.Goals as goal

pub loop-trip-preserved : goal.loop-trip-preserved
loop-trip-preserved c = λ key.
    one-less (λ (q : List ℕ). list_any (λ r. is_id q r.trip && same_key key r.key) c.args.pairs.now) _ _ _ c.in-Some.trip.now _ c.next.new.self (c.in_ok-put_trip.ensures key)
    (rest_more deref _ c.next.new.self c.next.result c.in-Some.trip c.in-Some.is c.next.ensures.steps) (c.loop-trip.invariant key)
