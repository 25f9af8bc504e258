use Rattle.std.proofs.Common.{◌≡◌, ◌==◌, ◌&&◌, cond, ◌∙◌, ap, rules}
use Rattle.std.specs.BTreeSet.{insert_key}
use Rattle.std.specs.Prelude.{map}
use Rattle.std.specs.List.{filter}
use Rattle.rule_table.specs.Kinds.{same_kind}
use Rattle.pairing_rules.specs.Rows.{held_row}
use Rattle.pairing_rules.specs.Slots.{seen_at, seen, seen_cmp, shown, at_place}
use Rattle.pairing_rules.proofs.Places.{place-put}
use Rattle.pairing_rules.proofs.slots.put_row.Goals as goal

pub returns : goal.returns
returns c = λ n k.
    let old = seen_at c.args.entries.now n k in
    let copy : c.in_ok-clone.field-0.value ≡ c.args.row.now.value = search rules in
    ap (λ xs. map seen (filter (at_place n k) xs)) c.in_ok-insert.ensures.keys ∙ place-put n k c.new-entry.result c.args.entries.now.keys c.len-count.ensures.ordered
    ∙ ap (λ b. cond b (insert_key seen_cmp old (seen c.new-entry.result)) old) (c.new-entry.ensures.placed n k)
    ∙ ap (λ s. cond (c.args.number == n && same_kind c.args.kind k) (insert_key seen_cmp old s) old) c.new-entry.ensures.seen
    ∙ ap (λ h. cond (c.args.number == n && same_kind c.args.kind k) (insert_key seen_cmp old (shown (held_row c.args.kind h))) old) copy
