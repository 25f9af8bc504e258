use Rattle.std.proofs.Common.{◌∙◌, ap, sym}
use Rattle.std.proofs.lemmas.Result.{IfOk-weaker, on_ok_weaker, on_err_weaker}
use Rattle.history_rules.specs.HeldPeaks.{peak_of, is_below, seen}
use Rattle.history_rules.proofs.HeldPeaks.{peak_at, feed_raised, feed_kept}
use Rattle.history_rules.proofs.peaks.raise_feed.Goals as goal

pub returns-clause-raised : goal.returns-clause-raised
returns-clause-raised c =
    on_ok_weaker c.raise_vehicle.result
    (feed_raised (peak_of (seen c.args.feeds.now.items)) c.make_place.new.feeds.items c.make_place.ensures.same c.args.feed c.index_mut.result.now c.raise_vehicle.new.peaks c.in_ok-make_place.ensures.within c.index_mut.ensures.value c.args.vehicle.now c.args.stamp)
    c.raise_vehicle.ensures.raised

pub returns-clause-changed : goal.returns-clause-changed
returns-clause-changed c =
    IfOk-weaker c.raise_vehicle.result _ _
    (λ b e. e ∙ ap (λ o. is_below o c.args.stamp) (sym (peak_at c.make_place.new.feeds.items c.args.feed c.index_mut.result.now c.in_ok-make_place.ensures.within c.index_mut.ensures.value c.args.vehicle.now) ∙ c.make_place.ensures.same c.args.feed c.args.vehicle.now))
    c.raise_vehicle.ensures.changed

pub returns-clause-err : goal.returns-clause-err
returns-clause-err c =
    on_err_weaker c.raise_vehicle.result
    (feed_kept (peak_of (seen c.args.feeds.now.items)) c.make_place.new.feeds.items c.make_place.ensures.same c.args.feed c.index_mut.result.now c.raise_vehicle.new.peaks c.in_ok-make_place.ensures.within c.index_mut.ensures.value)
    c.raise_vehicle.ensures.err
