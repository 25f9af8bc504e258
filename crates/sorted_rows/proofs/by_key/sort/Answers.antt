use Rattle.std.proofs.Common.{rules}
use Rattle.std.proofs.lemmas.List.Sorted.{answers_always}
use Rattle.sorted_rows.proofs.by_key.sort.Goals as goal

pub returns : goal.returns
returns g c = record {
  in_order = c.in_ok-sort_by_key.ensures.sorted (λ e. e.0) (answers_always _ _ _ (λ f a r h k. search rules));
  stable = c.in_ok-sort_by_key.ensures.stable (λ e. e.0) (answers_always _ _ _ (λ f a r h k. search rules));
  moved = c.in_ok-sort_by_key.ensures.permutation;
}
