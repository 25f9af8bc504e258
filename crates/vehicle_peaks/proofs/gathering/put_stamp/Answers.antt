use Rattle.std.proofs.Common.{◌≡◌, Some, cond, bytes_eq, string_bytes, ◌∙◌, ap, sym, rules}
use Rattle.std.specs.BTreeMap.{get_by_text}
use Rattle.rule_table.specs.Peaks.{greater}
use Rattle.history_rules.proofs.HeldPeaks.{vehicle_raised, greater_stamp, greater_peak}
use Rattle.vehicle_peaks.proofs.gathering.put_stamp.Goals as goal

pub returns-then-held-stamp : goal.returns-then-held-stamp
returns-then-held-stamp c =
    vehicle_raised c.args.vehicle.now c.args.stamps.now (c.get_mut.follows.lender c.args.stamp) c.args.stamp c.args.stamp ((c.get_mut.follows.holds c.args.stamp).3 (search rules))
    (greater_stamp c.args.stamp c.in-Some.held.now c.if-held-stamp.true ∙ ap (greater (Some c.args.stamp)) c.in-Some.ensures.value)

pub returns-else-held-stamp : goal.returns-else-held-stamp
returns-else-held-stamp c =
    vehicle_raised c.args.vehicle.now c.args.stamps.now (c.get_mut.follows.lender c.in-Some.held.now) c.args.stamp c.in-Some.held.now ((c.get_mut.follows.holds c.in-Some.held.now).3 (search rules))
    (greater_peak c.args.stamp c.in-Some.held.now c.if-held-stamp.false ∙ ap (greater (Some c.args.stamp)) c.in-Some.ensures.value)

pub returns-in_ok-insert-in-None : goal.returns-in_ok-insert-in-None
returns-in_ok-insert-in-None c v =
    let name : string_bytes c.in_ok-id-in-None.id ≡ c.args.vehicle.now = c.in_ok-id-in-None.ensures.ok in
    let same = c.get_mut.follows.holds-at-none in
    vehicle_raised (string_bytes c.in_ok-id-in-None.id) c.get_mut.follows.lender-at-none c.insert.new.self c.args.stamp c.args.stamp c.in_ok-insert-in-None.ensures.updates
    (ap (greater (Some c.args.stamp)) (c.in-None.ensures.value ∙ ap (get_by_text c.args.stamps.now) (sym name) ∙ ap (λ m. get_by_text m (string_bytes c.in_ok-id-in-None.id)) (sym same))) v
    ∙ ap (λ bs. cond (bytes_eq bs v) (greater (Some c.args.stamp) (get_by_text c.get_mut.follows.lender-at-none v)) (get_by_text c.get_mut.follows.lender-at-none v)) name
    ∙ ap (λ m. cond (bytes_eq c.args.vehicle.now v) (greater (Some c.args.stamp) (get_by_text m v)) (get_by_text m v)) same
