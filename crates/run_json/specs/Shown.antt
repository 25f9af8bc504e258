-- The fields that `show` finds in the bytes of a snapshot.
use Rattle.std.specs.Prelude.{List, Result, not}
use Rattle.std.specs.List.{filter}
use Rattle.rt_wire.specs.declared.fault.WireFault.{WireFault}
use Rattle.rt_wire.specs.Fields.{WireField}
use Rattle.rt_wire.specs.Placed.{PlacedField}
use Rattle.feed_values.specs.Meaning.{is_of_slot, whole_fields}
use Rattle.feed_values.specs.Messages.{feed_message}

-- those of a snapshot that are of no slot, before a fault
abbrev pub unknown_among : List (Result PlacedField WireFault) → List WireField
unknown_among handed = filter (λ f. not (is_of_slot feed_message f)) (whole_fields handed)
