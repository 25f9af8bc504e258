use Rattle.std.proofs.Common.{◌≡◌, ◌∙◌, sym, subst}
use Rattle.entity_index.specs.Changes.{AreIncoming, fresh_places}
use Rattle.entity_index.specs.Held.{held_at}
use Rattle.entity_index.specs.Laws.{AreThere}
use Rattle.row_cases.proofs.indexes.taken.Goals as goal

pub coming-requires : goal.coming-requires
coming-requires g c =
    let f = c.args.feed in
    let old = (held_at c.deref.result.now f).bytes in
    let is = c.in_ok-changes.ensures in
    subst (λ places. AreThere f c.args.kept places c.in_ok-changes.changes.keys) (sym is.fresh_is)
    (subst (λ keys. AreThere f c.args.kept (fresh_places f old c.args.kept) keys) (sym is.keys_are) (c.fresh_are_there.ensures f old c.args.kept))

pub replace_feed-requires : goal.replace_feed-requires
replace_feed-requires g c =
    let same : c.deref.result.now ≡ c.into_inner.result = cc in
    subst (λ index. AreIncoming c.args.feed (held_at index c.args.feed).bytes c.args.kept c.in_ok-came.came) same
    record { keys_are = c.in_ok-came.ensures.keys ∙ c.in_ok-changes.ensures.keys_are; values_are = c.in_ok-came.ensures.values }
