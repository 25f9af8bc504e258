-- How far the fields of a snapshot were gone through.
-- (Protocol Buffers, Encoding, "Message Structure".)
use Rattle.std.specs.Prelude.{◌≡◌, ℕ, ◌≤◌, List, [], length, take, drop, Option, Some, None}
use Rattle.std.specs.List.{AllByRecursion}
use Rattle.rt_wire.specs.declared.fault.WireFault.{WireFault}
use Rattle.rt_wire.specs.Fields.{WireField, Joins, Spells}
use Rattle.rt_wire.specs.Faults.{OwnFault}
use Rattle.rt_wire.specs.Placed.{fault_moved}
use Rattle.field_pieces.specs.Stays.{Stays}
use Rattle.feed_codec.specs.FirstFault.{PartWhole}

-- up to a place stand whole fields, with nothing wrong inside
pub record WalkedTo (bytes : List ℕ) (next : ℕ) : Type 0 where
  pub within : next ≤ length bytes
  pub fields : List WireField
  pub joins : Joins (Spells 100) fields (take next bytes)
  pub whole : AllByRecursion PartWhole fields

-- behind a place stands nothing; or what is no field, and only for want of bytes
abbrev pub EndsEarly : List ℕ → ℕ → Option WireFault → Type 0
EndsEarly bytes next None = drop next bytes ≡ []
EndsEarly bytes next (Some f) = (own : WireFault) × OwnFault (drop next bytes) own × (f ≡ fault_moved next own) × (Stays f.reason → ⊥)
