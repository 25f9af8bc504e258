use Rattle.std.proofs.Common.{arith}
use Rattle.feed_codec.proofs.Roundtrips.{decoded_fits}
use Rattle.feed_codec.proofs.snapshot.decode.Goals as goal

pub returns-in-Ok-clause-well_formed : goal.returns-in-Ok-clause-well_formed
returns-in-Ok-clause-well_formed c = decoded_fits c.args.bytes.now c.in-Ok.message (λ i. let h = c.type_inv.bytes i in omega (arith, h)) c.in-Ok.ensures.accepted c.in-Ok.ensures.value
