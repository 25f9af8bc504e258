use Rattle.std.proofs.Common.{option_map, option_copied}
use Rattle.feed_values.specs.Views.{entity_value}
use Rattle.row_changes.proofs.Noted.{noted}
use Rattle.row_changes.proofs.ids.ChangedIds.note.Goals as goal

pub returns : goal.returns
returns c = λ key.
    noted key (option_map entity_value (option_copied c.args.old)) (option_map entity_value (option_copied c.args.new)) c.args.self.now c.put_new.new.self c.put_new-2.new.self
    c.in_ok-put_new.ensures.trips c.in_ok-put_new.ensures.vehicles c.in_ok-put_new-2.ensures.trips c.in_ok-put_new-2.ensures.vehicles
