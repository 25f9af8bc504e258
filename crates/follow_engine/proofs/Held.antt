-- Rows and timestamps of entities are those of all feeds that have the same last snapshots.
use Rattle.std.specs.Prelude.{◌≡◌, ℕ, nat_lt, Option, None, option_map, if◌then◌else◌}
use Rattle.std.proofs.Common.{sym, ap, ◌∙◌}
use Rattle.feed_values.specs.Snapshot.{entity_of}
use Rattle.rule_table.specs.declared.key.EntityKey.{EntityKey}
use Rattle.rule_table.specs.Pairs.{has_row}
use Rattle.rule_history.specs.Answered.{payload_under}
use Rattle.rule_history.specs.History.{Snapshot, entities_of_snapshot, feed_limit}
use Rattle.engine_laws.specs.HeldFeeds.{HeldFeed}
use Rattle.exchanged_timetables.specs.row_changes.Given.{is_given, rows_under}
use Rattle.exchanged_timetables.specs.row_changes.Held.{AreOfEntities, entity_at}
use Rattle.exchanged_timetables.specs.row_changes.HeldRows.{HeldRows}

pub same_entities : (one two : ℕ → HeldFeed) → ((f : ℕ) → (two f).last ≡ (one f).last) → (rows : HeldRows) → AreOfEntities (entity_at one) rows → AreOfEntities (entity_at two) rows
same_entities one two last rows are = record {
  rows_are = λ r. are.rows_are r ∙ ap (λ o. has_row (rows_under r.key o) r) (sym (same r.key));
  stamps_are = λ s. are.stamps_are s ∙ ap (λ o. is_given o s) (sym (same s.key));
}
  where
    same : (key : EntityKey) → entity_at two key ≡ entity_at one key
    same key = ap (λ (o : Option Snapshot). if nat_lt key.feed feed_limit then option_map entity_of (payload_under key (entities_of_snapshot o)) else None) (last key.feed)
