use Rattle.feed_merge.proofs.Formed.{merged_formed}
use Rattle.feed_merge.proofs.merging.merge.Goals as goal

pub returns-clause-well_formed : goal.returns-clause-well_formed
returns-clause-well_formed c = c.snapshot_of.ensures.well_formed (merged_formed c.args.feeds.now _ c.requires.few c.requires.formed c.in_ok-entities.ensures)
