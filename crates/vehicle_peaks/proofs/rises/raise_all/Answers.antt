use Rattle.std.proofs.Common.{◌∙◌, ap, sym, subst, rules}
use Rattle.std.specs.Map.Iter.{deref_pair}
use Rattle.std.proofs.lemmas.Map.Iter.{rest_more}
use Rattle.history_rules.specs.HeldPeaks.{peak_of}
use Rattle.vehicle_peaks.specs.Rises.{with_rises}
use Rattle.vehicle_peaks.proofs.Raising.{AreInOrder, Entries, by_id, order_rest, raised_more}
use Rattle.vehicle_peaks.proofs.rises.raise_all.Goals as goal

pub loop-vehicle-preserved : goal.loop-vehicle-preserved
loop-vehicle-preserved c =
    let at = c.loop-vehicle in
    let left = c.next.new.self in
    let rest = rest_more deref_pair _ left c.next.result _ c.in-Some.is c.next.ensures.steps in
    let ordered = subst (λ (es : Entries). AreInOrder es) rest at.invariant.ordered in
    record {
      ordered = order_rest c.in-Some.vehicle.now c.in-Some.stamp.now left ordered;
      raised = λ f v.
          raised_more c.args.feed c.in-Some.stamp.now c.in-Some.vehicle.now c.as_str.result.now left (peak_of at.raised) (peak_of c.raise_in.new.self) ordered (search rules) c.in_ok-raise_in.ensures.raised f v
          ∙ ap (λ (es : Entries). with_rises (by_id es) c.args.feed (peak_of at.raised) f v) (sym rest) ∙ at.invariant.raised f v;
    }
