use Rattle.feed_values.specs.Views.{unknown_field}
use Rattle.feed_values.specs.WellFormed.{IsUnknown}
use Rattle.feed_codec.proofs.Mapped.{mapped_at}
use Rattle.feed_codec.proofs.encoding.put_unknown.Goals as goal

pub put_field-requires : goal.put_field-requires
put_field-requires g c =
    rw (c.wire_value.ensures, c.unknown-item.is) (mapped_at (IsUnknown g.M.Message.schema) unknown_field c.as_slice-unknown-items.result.now c.loop-unknown.unknown-index _ (rw c.as_slice-unknown-items.ensures c.requires) c.loop-unknown-test.true).writable
