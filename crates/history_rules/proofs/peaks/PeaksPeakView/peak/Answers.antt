use Rattle.std.proofs.Common.{◌<◌, length, ◌∙◌, ap, sym, subst, get_or, ◌≡◌}
use Rattle.history_rules.specs.HeldPeaks.{peak_of}
use Rattle.history_rules.proofs.HeldPeaks.{peak_at}
use Rattle.history_rules.proofs.peaks.PeaksPeakView.peak.Goals as goal

pub returns-in-Some : goal.returns-in-Some
returns-in-Some c =
    let found = c.in-Some.ensures.lookup in
    let place = subst (λ maps. c.args.feed < length maps) c.deref.ensures.value found.3.0 in
    let there = subst (λ maps. c.in-Some.peaks.now ≡ get_or maps c.args.feed c.in-Some.peaks.now) c.deref.ensures.value found.1 in
    c.copied.ensures ∙ c.get-in-Some.ensures.value ∙ sym (peak_at c.self.inside.feeds.items c.args.feed c.in-Some.peaks.now place there c.args.vehicle.now) ∙ ap (λ h. peak_of h c.args.feed c.args.vehicle.now) c.self.view_is
