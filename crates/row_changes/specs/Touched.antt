-- The keys at which what is found with pairing rows, or by bounds, may be other than before.
use Rattle.std.specs.Prelude.{ℕ, ℤ, pos, negsuc, nat_lt, Bool, false, ◌&&◌, ◌||◌, List, Option, Some, None}
use Rattle.std.specs.List.{list_any}
use Rattle.feed_values.specs.Schema.{Value}
use Rattle.feed_values.specs.Messages.{entity}
use Rattle.rule_table.specs.declared.kind.Kind.{Kind}
use Rattle.rule_table.specs.declared.kind.Kind.TheVariants as kind
use Rattle.rule_table.specs.declared.key.EntityKey.{EntityKey}
use Rattle.rule_table.specs.Order.{same_key}
use Rattle.rule_table.specs.Pairs.{PairRow, any_row}
use Rattle.rule_history.specs.Changed.{other, differ}
use Rattle.history_rules.specs.Stamps.{Stamp, is_above}
use Rattle.row_changes.specs.declared.ids.ChangedIds.{ChangedIds}
use Rattle.row_changes.specs.declared.kinds.Kinds.{Kinds}
use Rattle.row_changes.specs.Given.{update_time, vehicle_time}
use Rattle.row_changes.specs.Ids.{is_named}

-- ---- with pairing rows
-- whether there were rows of a kind
abbrev pub had_kind : Kinds → Kind → Bool
had_kind before kind.TripUpdate = before.updates
had_kind before kind.Vehicle = before.vehicles

-- whether a kind got its first row or lost its last one
abbrev pub has_turned : Kinds → List PairRow → Kind → Bool
has_turned before rows k = differ (had_kind before k) (any_row rows k)

-- whether a row gives an id that changed, or the other kind turned
abbrev pub is_concerned : ChangedIds → Kinds → List PairRow → PairRow → Bool
is_concerned ids before rows r = is_named ids r || has_turned before rows (other r.kind)

-- whether a row of a key is concerned
abbrev pub is_paired_key : ChangedIds → Kinds → List PairRow → EntityKey → Bool
is_paired_key ids before rows key = list_any (λ r. is_concerned ids before rows r && same_key key r.key) rows

-- ---- by bounds
-- whether a timestamp of a key, in a feed, is above a bound
abbrev pub is_over : ℕ → ℕ → List Stamp → EntityKey → Bool
is_over feed bound stamps key = list_any (λ s. is_above feed bound s && same_key key s.key) stamps

-- the same where there may be no bound
abbrev pub is_over_given : ℕ → Option ℕ → List Stamp → EntityKey → Bool
is_over_given feed None stamps key = false
is_over_given feed (Some bound) stamps key = is_over feed bound stamps key

abbrev pub is_later : ℕ → Option ℤ → Bool
is_later bound None = false
is_later bound (Some (pos n)) = nat_lt bound n
is_later bound (Some (negsuc n)) = false

-- whether a timestamp of an entity that may be there is above a bound
abbrev pub gives_later : ℕ → Option (Value entity) → Bool
gives_later bound None = false
gives_later bound (Some e) = is_later bound (update_time e) || is_later bound (vehicle_time e)
