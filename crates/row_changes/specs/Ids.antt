-- The ids that rows which came or went give.
use Rattle.std.specs.Prelude.{◌≡◌, ℕ, Bool, true, false, not, ◌&&◌, ◌||◌, List, Option, Some, None, option_and_then}
use Rattle.std.specs.List.{list_any}
use Rattle.std.specs.Ordering.{nat_cmp}
use Rattle.std.specs.Cmp.Lexicographic.{slice_cmp}
use Rattle.std.specs.BTreeSet.{BTreeSet, contains}
use Rattle.feed_values.specs.Schema.{Value}
use Rattle.feed_values.specs.Messages.{entity}
use Rattle.rule_table.specs.Pairs.{PairRow, GivenIds, is_id}
use Rattle.rule_table.specs.Ids.{same_ids, update_ids, vehicle_ids}
use Rattle.row_changes.specs.declared.ids.ChangedIds.{ChangedIds}

abbrev pub has_text : BTreeSet (List ℕ) → List ℕ → Bool
has_text ids q = contains (slice_cmp nat_cmp) ids q

abbrev pub has_given : BTreeSet (List ℕ) → Option (List ℕ) → Bool
has_given ids None = false
has_given ids (Some q) = has_text ids q

-- whether a row gives one of the ids
abbrev pub is_named : ChangedIds → PairRow → Bool
is_named ids r = has_given ids.trips r.trip || has_given ids.vehicles r.vehicle

-- the ids are those that some rows give
pub record GiveIds (ids : ChangedIds) (rows : List PairRow) : Type 0 where
  pub trips_are : (q : List ℕ) → has_text ids.trips q ≡ list_any (λ r. is_id q r.trip) rows
  pub vehicles_are : (q : List ℕ) → has_text ids.vehicles q ≡ list_any (λ r. is_id q r.vehicle) rows

-- ---- messages of one kind
-- whether neither of two messages is there, or both give the same ids
abbrev pub are_same : Option GivenIds → Option GivenIds → Bool
are_same None None = true
are_same None (Some other) = false
are_same (Some ids) other = same_ids ids other

-- whether a message that is there gives a trip id, where another doesn't give the same ids
abbrev pub new_trip : List ℕ → Option GivenIds → Option GivenIds → Bool
new_trip q None other = false
new_trip q (Some ids) other = not (same_ids ids other) && is_id q ids.trip

abbrev pub new_vehicle : List ℕ → Option GivenIds → Option GivenIds → Bool
new_vehicle q None other = false
new_vehicle q (Some ids) other = not (same_ids ids other) && is_id q ids.vehicle

-- whether an entity that may be there does
abbrev pub given_trip : List ℕ → Option (Value entity) → Option (Value entity) → Bool
given_trip q e other = new_trip q (option_and_then update_ids e) (option_and_then update_ids other) || new_trip q (option_and_then vehicle_ids e) (option_and_then vehicle_ids other)

abbrev pub given_vehicle : List ℕ → Option (Value entity) → Option (Value entity) → Bool
given_vehicle q e other = new_vehicle q (option_and_then update_ids e) (option_and_then update_ids other) || new_vehicle q (option_and_then vehicle_ids e) (option_and_then vehicle_ids other)
