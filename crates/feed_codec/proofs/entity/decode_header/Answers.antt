use Rattle.std.proofs.Common.{Ok, arith}
use Rattle.feed_codec.proofs.Joining.{header_fits}
use Rattle.feed_codec.proofs.entity.decode_header.Goals as goal

pub returns-in-Ok-clause-well_formed : goal.returns-in-Ok-clause-well_formed
returns-in-Ok-clause-well_formed c = header_fits c.args.parts.now (Ok c.in-Ok.header) (λ i. omega (arith, c.type_inv.parts i)) c.requires c.in-Ok.ensures.value
