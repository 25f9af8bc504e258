-- What decoding answers. (Protocol Buffers, Encoding; that a refusal goes before want of memory is this profile's.)
use Rattle.std.specs.Prelude.{◌≡◌, Option, Some, None, Result, Ok, Err}
use Rattle.feed_codec.specs.declared.refusal.Refusal.{Refusal}
use Rattle.feed_codec.specs.declared.codec_fault.CodecFault.{CodecFault}
use Rattle.feed_codec.specs.declared.codec_fault.CodecFault.TheVariants.{Refused, Memory}

abbrev pub Faults : CodecFault → Option Refusal → Type 0
Faults (Refused r) fault = fault ≡ Some r
Faults Memory fault = Unit {0}

-- A message comes where nothing is wrong, and is what the bytes mean. A refusal is the first fault.
abbrev pub Decodes : {M V : Type 0} → (M → V) → Result M CodecFault → Option Refusal → V → Type 0
Decodes value (Ok message) fault meant = (fault ≡ None) × (value message ≡ meant)
Decodes value (Err e) fault meant = Faults e fault
