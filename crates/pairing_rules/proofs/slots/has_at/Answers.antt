use Rattle.std.proofs.Common.{true, is_some, sym, ◌∙◌, ap}
use Rattle.std.specs.Prelude.{option_copied}
use Rattle.pairing_rules.specs.Slots.{seen, seen_at}
use Rattle.pairing_rules.proofs.Lists.{any-find, some-mapped}
use Rattle.pairing_rules.proofs.Places.{some-copied}
use Rattle.pairing_rules.proofs.slots.has_at.Goals as goal

pub returns : goal.returns
returns c = c.is_some.ensures ∙ some-copied c.first_at.result ∙ some-mapped seen (option_copied c.first_at.result) ∙ ap is_some c.first_at.ensures ∙ sym (any-find (λ _. true) (seen_at c.args.entries.now c.args.number c.args.kind))
