-- What a kept snapshot holds.
use Rattle.std.specs.Prelude.{◌≡◌, None}
use Rattle.rt_wire.specs.Fields.{IsBytes}
use Rattle.feed_codec.specs.Refusal.{refusal}
use Rattle.feed_stream.specs.declared.kept.Kept.TheInside.{Inside}
use Rattle.feed_stream.specs.Layouts.{IsLayout}

-- accepted bytes and their layout
pub record IsKept (k : Inside) : Type 0 where
  pub bytes_are : IsBytes k.bytes.items
  pub accepted : refusal k.bytes.items ≡ None
  pub layout : IsLayout k.bytes.items k.layout
