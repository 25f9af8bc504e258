use Rattle.std.proofs.Common.{◌∙◌, ◌&&◌, not, ap, sym}
use Rattle.std.specs.List.{list_any}
use Rattle.rule_table.specs.Order.{same_key}
use Rattle.vehicle_peaks.specs.Held.{payload_in}
use Rattle.vehicle_peaks.specs.Rises.{gives_rise}
use Rattle.vehicle_peaks.proofs.KeySets.{in-set}
use Rattle.vehicle_peaks.proofs.rises.Rises.keys.Goals as goal

pub returns-clause-among : goal.returns-clause-among
returns-clause-among c = λ key.
    let stays = not (list_any (same_key key) c.args.gone.now) in
    ap (list_any (same_key key)) c.in_ok-found.ensures.all ∙ sym (in-set key c.take_out.new.keys) ∙ c.take_out.ensures key ∙ ap (λ b. stays && b) (c.in_ok-keys.ensures key)
    ∙ ap (λ r. stays && (not (list_any (same_key key) c.args.fresh.now) && gives_rise r (payload_in c.args.index.now c.args.feed key))) c.self.view_is
