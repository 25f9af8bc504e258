use Rattle.std.proofs.Common.{[], ◌∷◌, sym}
use Rattle.std.proofs.lemmas.List.{append-nil}
use Rattle.feed_values.specs.Messages.{feed_header}
use Rattle.feed_codec.specs.Refusal.{first_fault}
use Rattle.feed_codec.proofs.ValidTexts.{unmapped}
use Rattle.feed_cases.proofs.parts.header_of.Goals as goal

pub decode_header-requires : goal.decode_header-requires
decode_header-requires c = (c.args.payload.now ∷ [], (unmapped 0 (first_fault feed_header c.args.payload.now) c.in-Ok.ensures, tt), sym (append-nil c.args.payload.now))
