-- The keys at which a row is concerned.
use Rattle.std.specs.Prelude.{◌≡◌, ℕ, Bool, true, false, ◌&&◌, ◌||◌, List, Option, Some, None, filter, refl}
use Rattle.std.specs.List.{list_any}
use Rattle.std.proofs.Common.{sym, ap, ◌∙◌}
use Rattle.std.proofs.Math.Bool.{and-false, and-true}
use Rattle.rule_table.specs.declared.kind.Kind.{Kind}
use Rattle.rule_table.specs.declared.kind.Kind.TheVariants.{TripUpdate, Vehicle}
use Rattle.rule_table.specs.Order.{same_key}
use Rattle.rule_table.specs.Pairs.{PairRow, any_row, has_row, is_of, shares, shares_id}
use Rattle.rule_table.proofs.SameKeys.{key_is}
use Rattle.rule_table.proofs.SameTests.{any-same}
use Rattle.rule_history.specs.Changed.{changed_rows, differ, other, turns}
use Rattle.engine_laws.specs.HeldFeeds.{rows_held}
use Rattle.pairing_rules.proofs.Lists.{any-or}
use Rattle.pairing_rules.proofs.Members.{has-filter}
use Rattle.row_changes.specs.declared.ids.ChangedIds.{ChangedIds}
use Rattle.row_changes.specs.declared.kinds.Kinds.{Kinds}
use Rattle.row_changes.specs.Given.{rows_under}
use Rattle.row_changes.specs.Ids.{has_given, is_named, GiveIds}
use Rattle.row_changes.specs.Touched.{had_kind, has_turned, is_concerned}
use Rattle.row_changes.specs.Held.{entity_at, AreKindsOf, PairedKeysAre}
use Rattle.row_changes.proofs.Alike.{those}
use Rattle.row_changes.proofs.EntityRows.{not-here}
use Rattle.row_changes.proofs.Lists.{any-filtered, any_false}
use Rattle.row_changes.proofs.Members.{any-members}

-- a row shares an id with one of some rows where it gives one of their ids
module _ (ids : ChangedIds) (rows : List PairRow) (are : GiveIds ids rows) where
  trip-shared : (o : Option (List ℕ)) → list_any (λ c. shares_id o c.trip) rows ≡ has_given ids.trips o
  trip-shared None = any_false rows
  trip-shared (Some q) = sym (are.trips_are q)

  vehicle-shared : (o : Option (List ℕ)) → list_any (λ c. shares_id o c.vehicle) rows ≡ has_given ids.vehicles o
  vehicle-shared None = any_false rows
  vehicle-shared (Some q) = sym (are.vehicles_are q)

  row-shared : (r : PairRow) → list_any (shares r) rows ≡ is_named ids r
  row-shared r =
      sym (any-or (λ c. shares_id r.trip c.trip) (λ c. shares_id r.vehicle c.vehicle) rows) ∙ ap (λ b. b || list_any (λ c. shares_id r.vehicle c.vehicle) rows) (trip-shared r.trip)
      ∙ ap (λ b. has_given ids.trips r.trip || b) (vehicle-shared r.vehicle)

had-is : (kinds : Kinds) (rows : List PairRow) → AreKindsOf kinds rows → (k : Kind) → had_kind kinds k ≡ any_row rows k
had-is kinds rows h TripUpdate = h.updates_are
had-is kinds rows h Vehicle = h.vehicles_are

pub paired : PairedKeysAre
paired before after last_before last_after held ids kinds h are key =
    any-filtered (is_concerned ids kinds held.pairs) (λ r. same_key key r.key) held.pairs
    ∙ any-members (is_concerned ids kinds held.pairs) (filter (λ r. same_key key r.key) held.pairs) (rows_under key (entity_at after key)) mine
    ∙ any-same (is_concerned ids kinds held.pairs) (λ r. list_any (shares r) (changed_rows (rows_held before) (rows_held after)) || turns (rows_held before) (rows_held after) (other r.kind)) concerns (rows_under key (entity_at after key))
  where
    mine : (r : PairRow) → has_row (filter (λ x. same_key key x.key) held.pairs) r ≡ has_row (rows_under key (entity_at after key)) r
    mine r = has-filter (λ x. same_key key x.key) held.pairs r ∙ ap (λ b. b && same_key key r.key) (h.held_are.rows_are r) ∙ each (same_key key r.key) refl
      where
        each : (b : Bool) → same_key key r.key ≡ b → (has_row (rows_under r.key (entity_at after r.key)) r && b) ≡ has_row (rows_under key (entity_at after key)) r
        each true e = and-true (has_row (rows_under r.key (entity_at after r.key)) r) ∙ ap (λ k. has_row (rows_under k (entity_at after k)) r) (sym (key_is key r.key e))
        each false e = and-false (has_row (rows_under r.key (entity_at after r.key)) r) ∙ sym (not-here key (entity_at after key) r e)

    turned : (k : Kind) → has_turned kinds held.pairs k ≡ turns (rows_held before) (rows_held after) k
    turned k =
        ap (λ b. differ b (any_row held.pairs k)) (had-is kinds (rows_held before) are k) ∙ ap (differ (any_row (rows_held before) k)) (any-members (is_of k) held.pairs (rows_held after) (those after last_after held h.held_are))

    concerns : (r : PairRow) → is_concerned ids kinds held.pairs r ≡ (list_any (shares r) (changed_rows (rows_held before) (rows_held after)) || turns (rows_held before) (rows_held after) (other r.kind))
    concerns r =
        ap (λ b. b || has_turned kinds held.pairs (other r.kind)) (sym (row-shared ids (changed_rows (rows_held before) (rows_held after)) h.ids_are r))
        ∙ ap (λ b. list_any (shares r) (changed_rows (rows_held before) (rows_held after)) || b) (turned (other r.kind))
