use Rattle.std.proofs.Common.{◌≡◌, ◌∙◌, sym, true, rules}
use denote.Enum.Bare.{sameb, same_true, true_same}
use Rattle.feed_values.specs.contracts.slot.Slot.{the_type}
use Rattle.feed_values.proofs.slot.Slot.is_slot.Goals as goal

pub returns : goal.returns
returns c = (
  (λ h. let e : c.eq.result ≡ true = search rules in same_true the_type tt c.args.self c.args.other (sym c.eq.ensures ∙ e)),
  (λ h. let e : sameb the_type c.args.self c.args.other ≡ true = true_same the_type c.args.self c.args.other h in let f : c.eq.result ≡ true = c.eq.ensures ∙ e in search rules),
)
