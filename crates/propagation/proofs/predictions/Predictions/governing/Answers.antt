use Rattle.std.proofs.Common.{rules, pos, int_le, ap, sym, subst, ◌∙◌}
use Rattle.std.proofs.lemmas.List.Sorted.{IsPartitionPoint-from_clause}
use Rattle.propagation.specs.Setters.{AreInOrder, governing, last_setter}
use Rattle.propagation.proofs.ListLemmas.{filter-point}
use Rattle.propagation.proofs.SetterLemmas.{partitioned}
use Rattle.propagation.proofs.predictions.Predictions.governing.Goals as goal

pub returns : goal.returns
returns c =
    let setters = c.as_slice-setters.result.now in
    let p = pos c.args.position in
    let facts = c.partition_point-count.ensures in
    let order = subst AreInOrder (sym c.as_slice-setters.ensures.value) c.args.self.now.in_order in
    let point = IsPartitionPoint-from_clause (λ s. int_le s.position p) setters c.partition_point-count.result facts.partitioned (partitioned setters p order) (λ a r f called. search rules) in
    c.last_setter.ensures.value ∙ ap last_setter (sym (filter-point (λ s. int_le s.position p) setters c.partition_point-count.result facts.bound point))
    ∙ ap (λ l. governing l p) c.as_slice-setters.ensures.value
