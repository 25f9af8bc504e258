use Rattle.feed_codec.specs.Refusal.{entity_fault}
use Rattle.feed_codec.proofs.ValidTexts.{unmapped}
use Rattle.feed_cases.proofs.parts.entity_in.Goals as goal

pub decode_entity-requires : goal.decode_entity-requires
decode_entity-requires g c = unmapped 0 (entity_fault c.args.payload.now) c.in-Ok.ensures
