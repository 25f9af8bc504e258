use Rattle.std.proofs.Common.{rules, ap, sym, ◌∙◌}
use Rattle.std.specs.Prelude.{option_copied}
use Rattle.std.specs.Ordering.{is_eq, is_lt}
use Rattle.std.proofs.lemmas.List.Sorted.{IsPartitionPoint-from_clause}
use Rattle.sorted_rows.proofs.Search.{any_start, is_equal, partitioned, rising_starts}
use Rattle.sorted_rows.proofs.by_key.has_start.Goals as goal

pub returns-in-Some : goal.returns-in-Some
returns-in-Some g c put s =
    let cmp = g.A.Ord.cmp in
    let start = c.args.start in
    let at = c.partition_point-at in
    let sorted = c.args.entries.now in
    let total = g.met.A.Ord.total in
    let point = IsPartitionPoint-from_clause (λ e. is_lt (cmp e.0.0 start)) sorted at.result at.ensures.partitioned (partitioned (λ e. cmp e.0.0 start) sorted (rising_starts cmp g.B.Ord.cmp total put sorted s start)) (λ a r f called. search rules) in
    c.is_eq.ensures ∙ ap is_eq c.cmp.ensures ∙ ap (λ r. is_equal (λ e. cmp e.0.0 start) (option_copied r)) (sym c.in-Some.is)
    ∙ sym (any_start cmp g.B.Ord.cmp total put sorted s start at.result at.ensures.bound point c.get.result c.get.ensures.lookup)

pub returns-in-None : goal.returns-in-None
returns-in-None g c put s =
    let cmp = g.A.Ord.cmp in
    let start = c.args.start in
    let at = c.partition_point-at in
    let sorted = c.args.entries.now in
    let total = g.met.A.Ord.total in
    let point = IsPartitionPoint-from_clause (λ e. is_lt (cmp e.0.0 start)) sorted at.result at.ensures.partitioned (partitioned (λ e. cmp e.0.0 start) sorted (rising_starts cmp g.B.Ord.cmp total put sorted s start)) (λ a r f called. search rules) in
    ap (λ r. is_equal (λ e. cmp e.0.0 start) (option_copied r)) (sym c.in-None.is)
    ∙ sym (any_start cmp g.B.Ord.cmp total put sorted s start at.result at.ensures.bound point c.get.result c.get.ensures.lookup)
