use Rattle.std.proofs.Common.{rules, ap, sym, ◌∙◌}
use Rattle.std.specs.Prelude.{option_copied}
use Rattle.std.specs.Ordering.{is_eq, is_lt}
use Rattle.std.proofs.lemmas.List.Sorted.{IsPartitionPoint-from_clause}
use Rattle.sorted_rows.proofs.Search.{any_under, is_equal, partitioned, rising_answers}
use Rattle.sorted_rows.proofs.by_key.has.Goals as goal

pub returns-in-Some : goal.returns-in-Some
returns-in-Some g c put s =
    let cmp = g.K.Ord.cmp in
    let key = c.args.key in
    let at = c.partition_point-at in
    let sorted = c.args.entries.now in
    let total = g.met.K.Ord.total in
    let point = IsPartitionPoint-from_clause (λ e. is_lt (cmp e.0 key)) sorted at.result at.ensures.partitioned (partitioned (λ e. cmp e.0 key) sorted (rising_answers cmp total put sorted s key)) (λ a r f called. search rules) in
    c.is_eq.ensures ∙ ap is_eq c.cmp.ensures ∙ ap (λ r. is_equal (λ e. cmp e.0 key) (option_copied r)) (sym c.in-Some.is)
    ∙ sym (any_under cmp total put sorted s key at.result at.ensures.bound point c.get.result c.get.ensures.lookup)

pub returns-in-None : goal.returns-in-None
returns-in-None g c put s =
    let cmp = g.K.Ord.cmp in
    let key = c.args.key in
    let at = c.partition_point-at in
    let sorted = c.args.entries.now in
    let total = g.met.K.Ord.total in
    let point = IsPartitionPoint-from_clause (λ e. is_lt (cmp e.0 key)) sorted at.result at.ensures.partitioned (partitioned (λ e. cmp e.0 key) sorted (rising_answers cmp total put sorted s key)) (λ a r f called. search rules) in
    ap (λ r. is_equal (λ e. cmp e.0 key) (option_copied r)) (sym c.in-None.is)
    ∙ sym (any_under cmp total put sorted s key at.result at.ensures.bound point c.get.result c.get.ensures.lookup)
