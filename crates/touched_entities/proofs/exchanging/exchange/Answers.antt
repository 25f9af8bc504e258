use Rattle.std.proofs.Common.{◌≡◌, sym, subst}
use Rattle.entity_index.specs.Held.{held_at}
use Rattle.touched_entities.specs.Exchanged.{AreDistinct}
use Rattle.touched_entities.proofs.IntoPlace.{exchanged, still_incoming}
use Rattle.touched_entities.proofs.Fresh.{fresh_distinct}
use Rattle.touched_entities.proofs.exchanging.exchange.Goals as goal

pub move_lists-requires : goal.move_lists-requires
move_lists-requires c = subst AreDistinct (sym c.requires.coming.keys_are) (fresh_distinct c.args.feed (held_at c.args.index c.args.feed).bytes c.args.kept)

pub replace_feed-requires : goal.replace_feed-requires
replace_feed-requires c = still_incoming c.args.index c.move_lists.new.index c.args.coming c.in_ok-came.came c.in_ok-came.ensures c.args.feed c.args.kept c.requires.coming

pub returns : goal.returns
returns c =
    exchanged c.args.index c.move_lists.new.index c.args.coming c.in_ok-came.came c.in_ok-came.ensures c.args.feed c.args.kept c.requires.coming c.in_ok-next.next c.in_ok-next.ensures.here c.in_ok-next.ensures.others
