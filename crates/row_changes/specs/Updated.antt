-- Rows and timestamps of one key exchanged.
use Rattle.std.specs.Prelude.{◌≡◌, ℕ, Bool, not, ◌&&◌, ◌||◌, List, Option}
use Rattle.std.specs.List.{list_any}
use Rattle.feed_values.specs.Schema.{Value}
use Rattle.feed_values.specs.Messages.{entity}
use Rattle.rule_table.specs.declared.key.EntityKey.{EntityKey}
use Rattle.rule_table.specs.Pairs.{PairRow, is_id, has_row}
use Rattle.rule_history.specs.Changed.{changed_rows}
use Rattle.history_rules.specs.Stamps.{Stamp, holds}
use Rattle.row_changes.specs.declared.held.HeldRows.{HeldRows}
use Rattle.row_changes.specs.declared.ids.ChangedIds.{ChangedIds}
use Rattle.row_changes.specs.Given.{rows_under, is_given_under}
use Rattle.row_changes.specs.Ids.{has_text}

-- whether something is there, where it was or is given, and was there before: what came is there, what went isn't, and all else stays
abbrev pub exchanged : Bool → Bool → Bool → Bool
exchanged was now held = now && not was || held && not (was && not now)

-- The rows and timestamps that the new entity under a key gives and the old one doesn't came, and those went that the old one gives and the new one
-- doesn't.
pub record IsUpdated (key : EntityKey) (old new : Option (Value entity)) (before after : HeldRows) : Type 0 where
  pub rows_are : (r : PairRow) → has_row after.pairs r ≡ exchanged (has_row (rows_under key old) r) (has_row (rows_under key new) r) (has_row before.pairs r)
  pub stamps_are : (s : Stamp) → holds after.stamps s ≡ exchanged (is_given_under key old s) (is_given_under key new s) (holds before.stamps s)

-- The ids of the rows that the old entity gave and the new one doesn't, or the other way round, are among the changed ones.
pub record AreNoted (key : EntityKey) (old new : Option (Value entity)) (before after : ChangedIds) : Type 0 where
  pub trips_are : (q : List ℕ) → has_text after.trips q ≡ (has_text before.trips q || list_any (λ r. is_id q r.trip) (changed_rows (rows_under key old) (rows_under key new)))
  pub vehicles_are : (q : List ℕ) → has_text after.vehicles q ≡ (has_text before.vehicles q || list_any (λ r. is_id q r.vehicle) (changed_rows (rows_under key old) (rows_under key new)))
