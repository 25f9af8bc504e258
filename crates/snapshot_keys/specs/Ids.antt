-- The ids by which trip updates and vehicle positions are paired.
-- (GTFS Realtime Reference 2.0, "TripDescriptor" and "VehicleDescriptor".)
use Rattle.std.specs.Prelude.{◌≡◌, ℕ, List, [], ◌∷◌, Option, option_copied, option_map}
use Rattle.rt_wire.specs.Fields.{WireField}
use Rattle.rule_table.specs.Pairs.{GivenIds}
use Rattle.snapshot_keys.specs.declared.ids.ReadIds.{ReadIds}
use Rattle.snapshot_keys.specs.declared.slot_ids.SlotIds.{SlotIds}
use Rattle.feed_codec.specs.LastPayloads.{last_at}

abbrev pub given_ids : ReadIds → GivenIds
given_ids ids = record { trip = option_copied ids.trip; vehicle = option_copied ids.vehicle }

-- ---- by fields
-- those of what a slot of an entity holds, whose trip is slot 1 there and whose vehicle has a number: each id is slot 1
abbrev pub ids_at : ℕ → ℕ → List WireField → Option GivenIds
ids_at slot vehicle l = option_map (λ p. record { trip = last_at (slot ∷ 1 ∷ []) 1 l; vehicle = last_at (slot ∷ vehicle ∷ []) 1 l }) (last_at [] slot l)

-- what was found of a slot of an entity is what the slot holds
pub record AreLast (found : SlotIds) (slot inside : ℕ) (l : List WireField) : Type 0 where
  pub payload : option_copied found.payload ≡ last_at [] slot l
  pub trip : option_copied found.trip ≡ last_at (slot ∷ 1 ∷ []) 1 l
  pub vehicle : option_copied found.vehicle ≡ last_at (slot ∷ inside ∷ []) 1 l
