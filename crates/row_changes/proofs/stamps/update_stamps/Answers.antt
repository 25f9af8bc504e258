use Rattle.std.proofs.Common.{option_map, option_copied}
use Rattle.feed_values.specs.Views.{entity_value}
use Rattle.history_rules.specs.Stamps.{holds}
use Rattle.row_changes.proofs.Stamped.{stamps-moved}
use Rattle.row_changes.proofs.stamps.update_stamps.Goals as goal

pub returns : goal.returns
returns c = λ s.
    stamps-moved c.args.key.now s c.of-was.result c.of-is.result (option_map entity_value (option_copied c.args.old)) (option_map entity_value (option_copied c.args.new))
    (holds c.args.stamps s) (holds c.take_time.new.stamps s) (holds c.take_time-2.new.stamps s) (holds c.in_ok-some.some s) (holds c.in_ok-next.next s)
    c.of-was.ensures c.of-is.ensures (c.take_time.ensures s) (c.take_time-2.ensures s) (c.in_ok-some.ensures s) (c.in_ok-next.ensures s)
