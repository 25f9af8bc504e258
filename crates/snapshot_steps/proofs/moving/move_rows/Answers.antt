use Rattle.std.proofs.Common.{◌∙◌, ◌++◌, List, subst, map}
use Rattle.rule_table.specs.declared.kind.Kind.TheVariants.{TripUpdate, Vehicle}
use Rattle.rule_table.specs.declared.key.EntityKey.{EntityKey}
use Rattle.rule_table.specs.Pairs.{is_of}
use Rattle.engine_laws.specs.HeldFeeds.{rows_held}
use Rattle.held_feeds.specs.entity_index.Incoming.{Incoming}
use Rattle.held_feeds.specs.row_changes.Held.{AreReplaced, entity_at}
use Rattle.held_feeds.specs.row_changes.AlikeProofs.{those}
use Rattle.held_feeds.specs.row_changes.MembersProofs.{any-members}
use Rattle.held_feeds.specs.cached_laws.State.{feed_of}
use Rattle.held_feeds.specs.cached_laws.Keys.{lasts_then}
use Rattle.held_feeds.specs.States.{state_of}
use Rattle.snapshot_steps.specs.Taken.{snapshot_of}
use Rattle.snapshot_steps.proofs.Replaced.{all_moved}
use Rattle.snapshot_steps.proofs.moving.move_rows.Goals as goal

pub returns : goal.returns
returns c =
    let state = state_of c.args.held.now in
    let s = snapshot_of c.args.taken.now in
    let rows = c.args.rows in
    let held = those (feed_of state) (λ f. (c.requires.state.own f).last_of) rows c.requires.rows in
    record {
      replaced = all_moved state s c.requires.state c.requires.taken c.requires.feed (map (λ (x : Incoming). x.key) c.args.coming.now.entities) c.requires.coming.entities_are.keys_are c.in_ok-rows.rows c.take_gone.new.ids
          (subst (λ (ks : List EntityKey). AreReplaced (entity_at (feed_of state)) (entity_at (lasts_then s (feed_of state))) (map (λ (x : Incoming). x.key) c.args.coming.now.entities ++ ks) c.in_ok-rows.rows c.take_gone.new.ids) c.requires.coming.changes_are.gone_is c.in_ok-rows.ensures);
      kinds_are = record {
        updates_are = c.of-before.ensures.updates ∙ any-members (is_of TripUpdate) rows.pairs (rows_held (feed_of state)) held;
        vehicles_are = c.of-before.ensures.vehicles ∙ any-members (is_of Vehicle) rows.pairs (rows_held (feed_of state)) held;
      };
    }
