use Rattle.std.proofs.Common.{Ok, arith}
use Rattle.feed_codec.proofs.Roundtrips.{entity_fits}
use Rattle.feed_codec.proofs.entity.decode_entity.Goals as goal

pub returns-in-Ok-clause-well_formed : goal.returns-in-Ok-clause-well_formed
returns-in-Ok-clause-well_formed g c = entity_fits c.args.bytes.now (Ok c.in-Ok.entity) (λ i. let h = c.type_inv.bytes i in omega (arith, h)) c.requires c.in-Ok.ensures.value
