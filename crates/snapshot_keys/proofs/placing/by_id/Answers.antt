use Rattle.std.proofs.Common.{rules}
use Rattle.std.specs.Prelude.{List, ℕ}
use Rattle.std.proofs.lemmas.List.Sorted.{answers_always}
use denote.Ref.{Bor}
use Rattle.snapshot_keys.specs.declared.placing.NamedEntity.{NamedEntity}
use Rattle.snapshot_keys.proofs.Sorting.{sorted_by_id}
use Rattle.snapshot_keys.proofs.placing.by_id.Goals as goal

pub returns : goal.returns
returns c =
    let id : NamedEntity → Bor (List ℕ) = λ n. n.id in
    sorted_by_id c.args.kept.now c.in_ok-list.list.items c.sort_by_key.new.self.items c.in_ok-list.ensures c.sort_by_key.ensures.permutation
    (c.in_ok-sort_by_key.ensures.sorted id (answers_always _ _ _ (λ f a r g h. search rules)))
    (c.sort_by_key.ensures.stable id (answers_always _ _ _ (λ f a r g h. search rules)))
