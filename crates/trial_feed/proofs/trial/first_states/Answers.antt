use Rattle.std.proofs.Common.{sym, ◌∙◌}
use Rattle.trial_feed.proofs.Starts.{no_state}
use Rattle.trial_feed.proofs.trial.first_states.Goals as goal

pub loop-k-init : goal.loop-k-init
loop-k-init c = c.in_ok-states.ensures.items ∙ sym (no_state c.args.feed)
