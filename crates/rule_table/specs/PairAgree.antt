-- When two lists of pairing rows answer alike for an entity.
use Rattle.std.specs.Prelude.{◌≡◌, ℕ, List, Some}
use Rattle.feed_values.specs.Schema.{Value}
use Rattle.feed_values.specs.Messages.{entity}
use Rattle.rule_table.specs.declared.key.EntityKey.{EntityKey}
use Rattle.rule_table.specs.declared.kind.Kind.{Kind}
use Rattle.rule_table.specs.Groups.{Each}
use Rattle.rule_table.specs.Pairs.{PairRow, rows_of, any_row, has_trip, has_vehicle, has_pair, first_vehicle, first_key}

-- on what is asked of a trip
pub record AgreeOnTrip (u v : List PairRow) (trip : List ℕ) : Type 0 where
  pub has : (k : Kind) → has_trip u k trip ≡ has_trip v k trip
  pub first : (k : Kind) → first_vehicle u k trip ≡ first_vehicle v k trip

-- on what is asked of a vehicle
pub record AgreeOnVehicle (u v : List PairRow) (feed : ℕ) (vehicle : List ℕ) : Type 0 where
  pub has : (k : Kind) → has_vehicle u k vehicle ≡ has_vehicle v k vehicle
  pub first : first_key u feed vehicle ≡ first_key v feed vehicle

-- on what is asked of the ids that a row gives
pub record AgreeOnRow (u v : List PairRow) (feed : ℕ) (r : PairRow) : Type 0 where
  pub trip : (trip : List ℕ) → r.trip ≡ Some trip → AgreeOnTrip u v trip
  pub vehicle : (vehicle : List ℕ) → r.vehicle ≡ Some vehicle → AgreeOnVehicle u v feed vehicle
  pub pair : (trip vehicle : List ℕ) → r.trip ≡ Some trip → r.vehicle ≡ Some vehicle → (k : Kind) → has_pair u k trip vehicle ≡ has_pair v k trip vehicle

-- on what is asked of the rows of an entity, and on which kinds have rows
pub record Agree (u v : List PairRow) (key : EntityKey) (e : Value entity) : Type 0 where
  pub any : (k : Kind) → any_row u k ≡ any_row v k
  pub rows : Each (AgreeOnRow u v key.feed) (rows_of key e)
