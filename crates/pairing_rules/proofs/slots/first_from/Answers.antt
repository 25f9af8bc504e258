use Rattle.std.specs.Ordering.{is_le}
use Rattle.pairing_rules.specs.Slots.{entry_cmp}
use Rattle.pairing_rules.proofs.Places.{next-find}
use Rattle.pairing_rules.proofs.slots.first_from.Goals as goal

pub returns-clause-first : goal.returns-clause-first
returns-clause-first c = next-find (λ e. is_le (entry_cmp c.args.low.now e)) c.args.entries.now.keys c.range.result c.next.new.self c.next.result (c.range.ensures.between tt) c.next.ensures.steps
