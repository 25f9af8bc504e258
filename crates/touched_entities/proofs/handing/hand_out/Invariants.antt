use Rattle.std.proofs.Common.{◌≡◌, ◌++◌, map}
use Rattle.std.specs.List.{flat_map}
use Rattle.rule_table.specs.Groups.{Each}
use Rattle.rule_table.specs.Order.{key_cmp}
use Rattle.rule_table.specs.Rises.{Rises}
use Rattle.entity_parts.specs.standing_walks.Changes.{all_opened, all_closed}
use Rattle.touched_entities.specs.Told.{feed_closed, feed_opened}
use Rattle.touched_entities.proofs.handing.hand_out.Given as goal

abbrev pub invariant-loop-feed : goal.invariant-loop-feed
invariant-loop-feed l =
    record {
      opens_are : all_opened l.opens ++ flat_map feed_opened l.feed-iterator.rest.items ≡ all_opened l.fn.opens ++ flat_map feed_opened l.fn.tolds;
      closes_are : all_closed l.closes ++ flat_map feed_closed l.feed-iterator.rest.items ≡ all_closed l.fn.closes ++ flat_map feed_closed l.fn.tolds;
      ordered : Each (λ t. Rises key_cmp (map (λ e. e.0) t.entities)) l.feed-iterator.rest.items → Each (λ t. Rises key_cmp (map (λ e. e.0) t.entities)) l.fn.tolds;
    }
