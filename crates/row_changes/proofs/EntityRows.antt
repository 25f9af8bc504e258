-- The rows of an entity, by kind and key.
use Rattle.std.specs.Prelude.{◌≡◌, Bool, true, false, ◌&&◌, ◌||◌, ◌++◌, Option, Some, None, option_map, option_and_then, refl}
use Rattle.std.proofs.Common.{ap, ◌∙◌}
use Rattle.std.proofs.lemmas.List.Folds.{list_any-append}
use Rattle.std.proofs.Math.Bool.{or-false}
use Rattle.feed_values.specs.Schema.{Value}
use Rattle.feed_values.specs.Messages.{entity, trip_update, vehicle_position}
use Rattle.rule_table.specs.declared.key.EntityKey.{EntityKey}
use Rattle.rule_table.specs.declared.kind.Kind.{Kind}
use Rattle.rule_table.specs.declared.kind.Kind.TheVariants.{TripUpdate, Vehicle}
use Rattle.rule_table.specs.Kinds.{same_kind}
use Rattle.rule_table.specs.Order.{same_key}
use Rattle.rule_table.specs.Judged.{update_of}
use Rattle.rule_table.specs.Ids.{update_ids, vehicle_ids, same_ids}
use Rattle.rule_table.specs.Pairs.{PairRow, GivenIds, of_update, of_vehicle, update_rows, vehicle_rows, vehicle_of, row_with, same_id, same_row, has_row}
use Rattle.rule_table.proofs.SameKeys.{key_self}
use Rattle.rule_table.specs.CitedLaws.{both_same}
use Rattle.rule_table.proofs.SameTests.{key-symm}
use Rattle.rule_table.proofs.SameAsks.{kind_same}
use Rattle.row_changes.specs.Given.{rows_under, id_rows}

-- those of its trip update and then those of its vehicle position
updates-are : (key : EntityKey) (o : Option (Value trip_update)) → update_rows key o ≡ id_rows TripUpdate key (option_map of_update o)
updates-are key None = refl
updates-are key (Some u) = refl

vehicles-are : (key : EntityKey) (o : Option (Value vehicle_position)) → vehicle_rows key o ≡ id_rows Vehicle key (option_map of_vehicle o)
vehicles-are key None = refl
vehicles-are key (Some v) = refl

pub rows-split : (key : EntityKey) (o : Option (Value entity)) → rows_under key o ≡ id_rows TripUpdate key (option_and_then update_ids o) ++ id_rows Vehicle key (option_and_then vehicle_ids o)
rows-split key None = refl
rows-split key (Some e) = both_same (updates-are key (update_of e)) (vehicles-are key (vehicle_of e))

pub has-split : (key : EntityKey) (o : Option (Value entity)) (r : PairRow) →
    has_row (rows_under key o) r ≡ (has_row (id_rows TripUpdate key (option_and_then update_ids o)) r || has_row (id_rows Vehicle key (option_and_then vehicle_ids o)) r)
has-split key o r = ap (λ xs. has_row xs r) (rows-split key o) ∙ list_any-append (same_row r) (id_rows TripUpdate key (option_and_then update_ids o)) (id_rows Vehicle key (option_and_then vehicle_ids o))

-- ---- none has another kind or key
abbrev pub is_mine : Kind → EntityKey → PairRow → Bool
is_mine kind key r = same_key key r.key && same_kind r.kind kind

pub not-mine : (kind : Kind) (key : EntityKey) (ids : Option GivenIds) (r : PairRow) → is_mine kind key r ≡ false → has_row (id_rows kind key ids) r ≡ false
not-mine kind key None r h = refl
not-mine kind key (Some ids) r h =
    ap (λ b. (same_kind r.kind kind && b && same_id r.trip ids.trip && same_id r.vehicle ids.vehicle) || false) (key-symm r.key key)
    ∙ none (same_kind r.kind kind) (same_key key r.key) (same_id r.trip ids.trip) (same_id r.vehicle ids.vehicle) h
  where
    none : (a b c d : Bool) → (b && a) ≡ false → ((a && b && c && d) || false) ≡ false
    none true true c d h = cc
    none true false c d h = refl
    none false b c d h = refl

pub not-here : (key : EntityKey) (o : Option (Value entity)) (r : PairRow) → same_key key r.key ≡ false → has_row (rows_under key o) r ≡ false
not-here key o r h =
    has-split key o r ∙ ap (λ b. b || has_row (id_rows Vehicle key (option_and_then vehicle_ids o)) r) (not-mine TripUpdate key (option_and_then update_ids o) r (ap (λ b. b && same_kind r.kind TripUpdate) h))
    ∙ not-mine Vehicle key (option_and_then vehicle_ids o) r (ap (λ b. b && same_kind r.kind Vehicle) h)

-- a row with ids of its own kind is there where the ids are the same
pub ids-there : (kind : Kind) (key : EntityKey) (ids : GivenIds) (other : Option GivenIds) → has_row (id_rows kind key other) (row_with kind key ids) ≡ same_ids ids other
ids-there kind key ids None = refl
ids-there kind key ids (Some other) =
    or-false _ ∙ alike (same_kind kind kind) (same_key key key) (same_id ids.trip other.trip) (same_id ids.vehicle other.vehicle) (kind_same kind) (key_self key)
  where
    alike : (a b c d : Bool) → a ≡ true → b ≡ true → (a && b && c && d) ≡ (c && d)
    alike true true c d h k = refl
    alike true false c d h k = cc
    alike false b c d h k = cc
