use Rattle.trial_feed.proofs.Formed.{snapshot_formed}
use Rattle.trial_feed.proofs.trial.Trial.bytes.Goals as goal

pub encode-requires : goal.encode-requires
encode-requires c = rw c.in_ok-message.ensures (snapshot_formed c.args.number _ c.requires.limit c.requires.within)
