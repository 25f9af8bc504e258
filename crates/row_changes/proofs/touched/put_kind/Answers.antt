use Rattle.std.proofs.Common.{◌&&◌, ◌||◌, ap, ◌∙◌, sym}
use Rattle.std.proofs.Math.Bool.{or-false}
use Rattle.std.specs.BTreeSet.{contains}
use Rattle.std.specs.List.{list_any}
use Rattle.rule_table.specs.Order.{key_cmp, same_key}
use Rattle.rule_table.specs.Pairs.{is_of}
use Rattle.row_changes.proofs.touched.put_kind.Goals as goal

pub returns-then-not-turned : goal.returns-then-not-turned
returns-then-not-turned c = λ key.
    let any = list_any (λ r. is_of c.args.kind r && same_key key r.key) c.args.pairs.now in
    sym (ap (λ b. contains key_cmp c.args.keys.now key || (b && any)) c.if-not-turned.true ∙ or-false (contains key_cmp c.args.keys.now key))

pub returns : goal.returns
returns c = λ key.
    let any = list_any (λ r. is_of c.args.kind r && same_key key r.key) c.args.pairs.now in
    c.in_ok-put_keys.ensures key ∙ ap (λ b. contains key_cmp c.args.keys.now key || b) (c.in_ok-found.ensures.keys key) ∙ ap (λ b. contains key_cmp c.args.keys.now key || (b && any)) (sym c.if-not-turned.false)
