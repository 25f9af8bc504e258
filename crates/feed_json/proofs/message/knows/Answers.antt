use Rattle.std.proofs.Common.{◌∙◌}
use Rattle.feed_json.proofs.Named.{key_among}
use Rattle.feed_json.proofs.message.knows.Goals as goal

pub returns : goal.returns
returns g c = c.is_among.ensures ∙ key_among g.M.Slots.schema (λ name. name.now) c.names.result.now c.args.key.now c.names.ensures
