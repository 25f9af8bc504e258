use Rattle.std.proofs.Common.{◌∙◌}
use Rattle.trial_feed.proofs.Rows.{row_is}
use Rattle.trial_feed.proofs.files.trip_row.Goals as goal

pub returns : goal.returns
returns c = c.in_ok-row.ensures.ok ∙ row_is c.args.before.now c.args.after.now c.args.k
