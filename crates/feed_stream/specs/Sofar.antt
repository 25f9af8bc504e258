-- What a splitter holds.
use Rattle.std.specs.Prelude.{ℕ, List, Option}
use Rattle.rt_wire.specs.declared.fault.WireFault.{WireFault}
use Rattle.feed_codec.specs.declared.refusal.Refusal.{Refusal}
use Rattle.feed_stream.specs.declared.part.Part.{Part}

-- Bytes of which no refusal is settled: the place behind their last whole field; the ranges of the entities' payloads and the payloads
-- of the header, joined, where one came; and what is wrong behind that place, if anything is there.
pub record Walked : Type 0 where
  pub bytes : List ℕ
  pub next : ℕ
  pub entities : List Part
  pub header : Option (List ℕ)
  pub unfinished : Option WireFault

-- a refusal that is settled, or bytes that were gone through
pub data Held : Type 0 where
  refused : Refusal → Held
  walked : Walked → Held

-- how many bytes came, and what is held of them
pub record Sofar : Type 0 where
  pub count : ℕ
  pub held : Held
