use Rattle.feed_values.specs.WellFormed.{IsWellFormed}
use Rattle.feed_codec.proofs.Mapped.{mapped_at}
use Rattle.feed_codec.proofs.encoding.payload.ItemsHeld.put_in.Goals as goal

pub put_in-requires-clause-fits : goal.put_in-requires-clause-fits
put_in-requires-clause-fits g c =
    rw c.message-item.is (mapped_at (IsWellFormed g.P.Payload.schema) g.P.Payload.value c.as_slice-message-items.result.now c.loop-message.message-index _ (rw c.as_slice-message-items.ensures c.requires.fits) c.loop-message-test.true)
