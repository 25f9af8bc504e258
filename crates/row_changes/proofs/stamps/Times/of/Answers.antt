use Rattle.std.proofs.Common.{◌||◌, ap, ◌∙◌, sym, option_map, option_copied}
use Rattle.feed_values.specs.Views.{entity_value}
use Rattle.row_changes.specs.Given.{gives_time, is_time, update_time}
use Rattle.row_changes.specs.Times.{is_at}
use Rattle.row_changes.proofs.Stamped.{at-time}
use Rattle.row_changes.proofs.stamps.Times.of.Goals as goal

pub returns-in-None : goal.returns-in-None
returns-in-None c = λ n. ap (λ o. gives_time (option_map entity_value (option_copied o)) n) (sym c.in-None.is)

pub returns-in-Some : goal.returns-in-Some
returns-in-Some c = λ n.
    ap (λ b. b || is_at n c.vehicle_time.result) (at-time n c.update_time.result ∙ ap (is_time n) c.update_time.ensures)
    ∙ ap (λ b. is_time n (update_time (entity_value c.in-Some.entity.now)) || b) (at-time n c.vehicle_time.result ∙ ap (is_time n) c.vehicle_time.ensures)
    ∙ ap (λ o. gives_time (option_map entity_value (option_copied o)) n) (sym c.in-Some.is)
