use Rattle.std.proofs.Common.{◌∙◌, ap, sym, is_some, option_copied, ℕ, Option}
use Rattle.std.specs.BTreeMap.{get_by_text}
use Rattle.history_rules.specs.HeldPeaks.{ids_seen}
use Rattle.vehicle_peaks.specs.Rises.{has_rise}
use Rattle.vehicle_peaks.proofs.Raising.{rise-at}
use Rattle.vehicle_peaks.proofs.keys.has_rise.Goals as goal

pub returns-in-Some : goal.returns-in-Some
returns-in-Some c =
    let stamps = c.args.stamps.now in
    c.contains_key.ensures ∙ ap (λ id. is_some (get_by_text stamps id)) c.as_str.ensures ∙ ap (λ (o : Option ℕ). is_some o) (sym (rise-at stamps c.in-Some.vehicle.now))
    ∙ ap (λ o. has_rise (ids_seen stamps) (option_copied o)) (sym c.in-Some.is) ∙ ap (has_rise (ids_seen stamps)) c.vehicle_id.ensures
