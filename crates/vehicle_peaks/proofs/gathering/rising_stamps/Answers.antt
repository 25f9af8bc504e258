use Rattle.std.proofs.Common.{◌∙◌, ap, sym}
use Rattle.std.specs.BTreeMap.{get_by_text}
use Rattle.rule_table.specs.Peaks.{greater}
use Rattle.history_rules.specs.HeldPeaks.{peak_of}
use Rattle.entity_index.specs.Held.{entities_before, held_at}
use Rattle.vehicle_peaks.proofs.Entities.{along_all, along_more, rises_along}
use Rattle.vehicle_peaks.proofs.Raising.{rise-at}
use Rattle.vehicle_peaks.proofs.gathering.rising_stamps.Goals as goal

pub loop-entity-preserved : goal.loop-entity-preserved
loop-entity-preserved c = λ v.
    along_more (peak_of c.args.peaks.now c.args.feed) v _ c.next.new.self _ _ _ _ (c.in_ok-put_entity.ensures v) c.in-Some.ensures.steps (c.loop-entity.invariant v)

pub returns : goal.returns
returns c = λ v.
    let peaks = peak_of c.args.peaks.now c.args.feed in
    let held = get_by_text c.loop-entity.stamps v in
    rise-at c.loop-entity.stamps v ∙ ap (λ es. greater (rises_along peaks v es) held) (sym c.in-None.ensures.steps.0) ∙ c.loop-entity.invariant v
    ∙ along_all peaks v (entities_before c.args.feed (held_at c.args.index.now c.args.feed).bytes)
