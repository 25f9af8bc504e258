use Rattle.std.proofs.Common.{◌∙◌, ap, rules}
use mathlib.Core.Bool.{beq}
use Rattle.std.proofs.lemmas.Map.Made.{filter_same_pairs}
use Rattle.engine_laws.proofs.Sorted.{apart_rising}
use Rattle.rule_table.specs.declared.key.EntityKey.{EntityKey}
use Rattle.entity_index.specs.Held.{at_key}
use Rattle.entity_index.specs.Seats.{HeldSeat}
use Rattle.entity_index.proofs.Leaving.{those_left}
use Rattle.entity_index.proofs.Taken.{rising_sorted}
use Rattle.entity_index.proofs.renewing.let_go.Goals as goal

pub returns : goal.returns
returns c = λ k.
    let old = c.args.entries.now.entries in
    ap (at_key k) (filter_same_pairs _ (λ (e : EntityKey × HeldSeat). beq e.1.phase c.args.phase) _ (λ q v b w f t. search rules) old c.retain.new.self.entries c.retain.ensures.filtered)
    ∙ those_left c.args.phase old (apart_rising old (rising_sorted old c.retain.ensures.was_ordered)) k
