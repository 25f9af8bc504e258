use Rattle.std.proofs.Common.{◌&&◌, ◌||◌, ap, ◌∙◌}
use Rattle.std.specs.BTreeSet.{contains}
use Rattle.rule_table.specs.Order.{key_cmp, same_key}
use Rattle.rule_table.specs.Pairs.{is_id}
use Rattle.rule_table.proofs.SameTests.{any-same}
use Rattle.row_changes.proofs.touched.put_trip.Goals as goal

pub returns : goal.returns
returns c = λ key.
    c.in_ok-put_keys.ensures key
    ∙ ap (λ b. contains key_cmp c.args.keys.now key || b)
    (c.in_ok-found.ensures.named key ∙ any-same _ (λ r. is_id c.args.trip.now r.trip && same_key key r.key) (λ r. ap (λ b. b && same_key key r.key) (c.in_ok-row.ensures r)) c.args.pairs.now)
