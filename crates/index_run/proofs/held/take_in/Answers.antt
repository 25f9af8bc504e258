use Rattle.std.proofs.Common.{◌≡◌, ◌∙◌, ℕ, sym, subst}
use Rattle.entity_index.specs.Changes.{fresh_places}
use Rattle.entity_index.specs.Held.{held_at}
use Rattle.entity_index.specs.Laws.{AreThere}
use Rattle.index_run.proofs.held.take_in.Goals as goal

pub decode_fresh-requires : goal.decode_fresh-requires
decode_fresh-requires g c =
    let old = (held_at c.args.index 0).bytes in
    let is = c.in_ok-changes.ensures in
    subst (λ places. AreThere 0 c.args.kept places c.in_ok-changes.changes.keys) (sym is.fresh_is)
    (subst (λ keys. AreThere 0 c.args.kept (fresh_places 0 old c.args.kept) keys) (sym is.keys_are) (c.fresh_are_there.ensures 0 old c.args.kept))

pub exchange-requires : goal.exchange-requires
exchange-requires g c = record { coming = record { keys_are = c.in_ok-coming.ensures.keys ∙ c.in_ok-changes.ensures.keys_are; values_are = c.in_ok-coming.ensures.values } }
