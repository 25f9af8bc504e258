use Rattle.std.proofs.Common.{◌==◌, ◌&&◌, cond, ◌∙◌, ap}
use Rattle.std.specs.BTreeMap.{is_at}
use Rattle.std.specs.Set.{remove_key}
use Rattle.std.specs.Prelude.{map}
use Rattle.std.specs.List.{filter}
use Rattle.rule_table.specs.Kinds.{same_kind}
use Rattle.pairing_rules.specs.Slots.{seen_at, seen, seen_cmp, at_place}
use Rattle.pairing_rules.proofs.Places.{place-taken}
use Rattle.pairing_rules.proofs.slots.take_row.Goals as goal

pub returns-clause-taken : goal.returns-clause-taken
returns-clause-taken c = λ n k.
    let old = seen_at c.args.entries.now n k in
    ap (λ xs. map seen (filter (at_place n k) xs)) c.remove.ensures.keys ∙ place-taken n k c.new-entry.result c.args.entries.now.keys
    ∙ ap (λ b. cond b (remove_key (is_at (seen_cmp (seen c.new-entry.result))) old) old) (c.new-entry.ensures.placed n k)
    ∙ ap (λ s. cond (c.args.number == n && same_kind c.args.kind k) (remove_key (is_at (seen_cmp s)) old) old) c.new-entry.ensures.seen
