-- Faults that stay, whatever bytes follow.
-- (Protocol Buffers, Encoding, "Message Structure"; this profile.)
use Rattle.std.specs.Prelude.{ℕ, List, ◌++◌}
use Rattle.rt_wire.specs.declared.fault.WireReason.{WireReason}
use Rattle.rt_wire.specs.declared.fault.WireReason.TheVariants as wire
use Rattle.rt_wire.specs.declared.fault.WireFault.{WireFault}
use Rattle.rt_wire.specs.Faults.{OwnFault}

-- More bytes may mend what ends too early. All else that is wrong stays wrong.
abbrev pub Stays : WireReason → Type 0
Stays wire.Truncated = ⊥
Stays wire.Overrun = ⊥
Stays _ = Unit {0}

-- A fault that stays is the fault of all longer bytes.
abbrev pub FaultStays : Type 0
FaultStays = (b c : List ℕ) (f : WireFault) → Stays f.reason → OwnFault b f → OwnFault (b ++ c) f
