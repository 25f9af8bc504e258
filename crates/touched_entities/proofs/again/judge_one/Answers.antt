use Rattle.std.proofs.Common.{◌∙◌, sym}
use Rattle.feed_values.specs.Views.{entity_value}
use Rattle.touched_entities.proofs.OneMore.{list_is, lists_stay, none_in, renewed_set, set_same, told_one}
use Rattle.touched_entities.proofs.again.judge_one.Goals as goal

pub returns-clause-lists : goal.returns-clause-lists
returns-clause-lists g c =
    let part = c.args.renewal.now.part in
    let n = c.args.renewal.now.applied in
    let find = g.J.EntityPart.found c.args.renewal.now.judge.now in
    let index = c.args.index.now in
    let key = c.args.key.now in
    renewed_set part n find key c.in_ok-list.list index c.set_part.new.self c.set_part.ensures.here c.set_part.ensures.others
    (list_is part n find index key (entity_value c.in-Some.entity.now) c.in_ok-list.list c.list_under-old.result.now c.in-Some.ensures c.list_under-old.ensures c.in_ok-list.ensures.list)

pub returns-clause-feeds : goal.returns-clause-feeds
returns-clause-feeds g c = set_same c.args.renewal.now.part c.args.key.now c.in_ok-list.list c.args.index.now c.set_part.new.self c.set_part.ensures.here c.set_part.ensures.others

pub returns-clause-told : goal.returns-clause-told
returns-clause-told g c =
    told_one c.args.renewal.now.part c.args.renewal.now.applied (g.J.EntityPart.found c.args.renewal.now.judge.now) c.args.index.now c.args.key.now (entity_value c.in-Some.entity.now) c.list_under-old.result.now
    c.in-Some.ensures c.list_under-old.ensures c.args.tolds.now c.renew_one.new.tolds c.in_ok-list.ensures.told

pub returns-then-is_empty-clause-lists : goal.returns-then-is_empty-clause-lists
returns-then-is_empty-clause-lists g c =
    let part = c.args.renewal.now.part in
    let n = c.args.renewal.now.applied in
    let find = g.J.EntityPart.found c.args.renewal.now.judge.now in
    let index = c.args.index.now in
    let key = c.args.key.now in
    let was = sym c.list_under-old.ensures ∙ none_in c.list_under-old.result.now (sym c.is_empty-was_empty.ensures ∙ c.if-was_empty.true) in
    let none = sym c.as_slice.ensures ∙ none_in c.as_slice.result.now (sym c.is_empty.ensures ∙ c.if-is_empty.true) in
    lists_stay part n find key index was
    (sym (list_is part n find index key (entity_value c.in-Some.entity.now) c.in_ok-list.list c.list_under-old.result.now c.in-Some.ensures c.list_under-old.ensures c.in_ok-list.ensures.list) ∙ none)

pub returns-then-is_empty-clause-told : goal.returns-then-is_empty-clause-told
returns-then-is_empty-clause-told g c =
    told_one c.args.renewal.now.part c.args.renewal.now.applied (g.J.EntityPart.found c.args.renewal.now.judge.now) c.args.index.now c.args.key.now (entity_value c.in-Some.entity.now) c.list_under-old.result.now
    c.in-Some.ensures c.list_under-old.ensures c.args.tolds.now c.renew_one.new.tolds c.in_ok-list.ensures.told
