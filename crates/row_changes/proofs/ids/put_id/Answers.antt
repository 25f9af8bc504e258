use Rattle.std.proofs.Common.{◌||◌, ap, ◌∙◌, sym, bytes_eq, option_copied}
use Rattle.rule_table.specs.Pairs.{is_id}
use Rattle.row_changes.specs.Ids.{has_text}
use Rattle.row_changes.proofs.TextSets.{text-put}
use Rattle.row_changes.proofs.ids.put_id.Goals as goal

pub returns-in_ok-insert-in-Some : goal.returns-in_ok-insert-in-Some
returns-in_ok-insert-in-Some c = λ q.
    c.in_ok-insert-in-Some.ensures.updates.0 q
    ∙ text-put c.in_ok-clone-in-Some.field-0 q (has_text c.args.ids.now q)
    ∙ ap (λ k. has_text c.args.ids.now q || bytes_eq k q) c.in_ok-clone-in-Some.ensures
    ∙ ap (λ o. has_text c.args.ids.now q || is_id q (option_copied o)) (sym c.in-Some.is)
