use Rattle.std.proofs.Common.{rules, tests, ap, ◌∙◌}
use Rattle.std.specs.BTreeMap.{values}
use Rattle.std.specs.List.{count_by}
use Rattle.std.proofs.lemmas.Iterator.Consumers.{YieldsList-from_filter, YieldsList-from_rest, YieldsList-at, count_from_yields_List}
use Rattle.rule_tally.specs.Names.{is_marked}
use Rattle.rule_tally.proofs.NameLemmas.{marks-length}
use Rattle.rule_tally.proofs.names.Names.marked.Goals as goal

pub returns : goal.returns
returns c =
    count_from_yields_List c.filter.result c.count.result c.count.ensures.ran
    (YieldsList-from_filter _ (λ mark. mark) (YieldsList-at c.filter.ensures.source (YieldsList-from_rest (values c.self.inside.marks) c.values.ensures.rest)) c.filter.ensures.closure
    (λ x r q k. search (rules, tests)))
    ∙ marks-length c.self.inside.marks.entries ∙ ap (count_by is_marked) c.self.view_is
