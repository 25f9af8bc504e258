-- Timestamps of entities, as a set.
-- (GTFS Realtime Reference 2.0, "TripUpdate" and "VehiclePosition": timestamp.)
use Rattle.std.specs.Prelude.{ℕ, Bool, ◌==◌, ◌&&◌, List, [], ◌∷◌, ◌++◌, map, nat_lt}
use Rattle.std.specs.List.{list_any}
use Rattle.std.specs.BTreeSet.{BTreeSet}
use Rattle.rule_table.specs.Order.{same_key}
use Rattle.rule_table.specs.declared.key.EntityKey.{EntityKey}
use Rattle.history_rules.specs.declared.moment.Moment.{Moment}

-- a timestamp that an entity of a feed gives
pub record Stamp : Type 0 where
  pub at : Moment
  pub key : EntityKey

abbrev pub stamp_of : ℕ → ℕ → EntityKey → Stamp
stamp_of feed stamp key = record { at = record { feed = feed; stamp = stamp }; key = key }

abbrev pub same_stamp : Stamp → Stamp → Bool
same_stamp a b = a.at.feed == b.at.feed && a.at.stamp == b.at.stamp && same_key a.key b.key

-- whether a stamp is held
abbrev pub holds : List Stamp → Stamp → Bool
holds stamps s = list_any (same_stamp s) stamps

-- whether a stamp is of a feed and above a bound
abbrev pub is_above : ℕ → ℕ → Stamp → Bool
is_above feed bound s = s.at.feed == feed && nat_lt bound s.at.stamp

-- ---- stamps in groups
abbrev pub stamps_at : Moment → List EntityKey → List Stamp
stamps_at at keys = map (λ k. record { at = at; key = k }) keys

-- the stamps of all groups, one group after the other
abbrev pub stamps_of : List (Moment × BTreeSet EntityKey) → List Stamp
stamps_of [] = []
stamps_of (e ∷ es) = stamps_at e.0 e.1.keys ++ stamps_of es
