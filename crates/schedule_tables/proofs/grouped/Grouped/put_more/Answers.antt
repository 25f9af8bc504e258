use Rattle.std.proofs.Common.{ap, is_some, option_map, rules, sym, true≢false, ◌∙◌}
use Rattle.std.proofs.lemmas.Result.{IfOk-weaker}
use Rattle.std.specs.FinMap as map
use Rattle.schedule_tables.specs.Maps.{grown}
use Rattle.schedule_tables.proofs.MapLemmas.{get_text, put_back, update_text}
use Rattle.schedule_tables.proofs.grouped.Grouped.put_more.Goals as goal

pub unreachable-requires : goal.unreachable-requires
unreachable-requires g c =
    let gone = c.in-None.ensures.value ∙ get_text c.self.inside.groups.entries c.args.id.now ∙ ap (λ m. map.get m c.args.id.now) c.self.view_is in
    true≢false (sym c.requires ∙ ap is_some (sym gone))

pub returns : goal.returns
returns g c =
    let old = c.args.self.now in
    let id = c.args.id.now in
    let found = c.in-Some.ensures.value ∙ get_text c.self.inside.groups.entries id ∙ ap (λ m. map.get m id) c.self.view_is in
    let updates = (c.get_mut.follows.holds c.put.new.self).3 (search rules) in
    let written = update_text c.self.inside.groups (c.get_mut.follows.lender c.put.new.self) id c.put.new.self updates ∙ ap (λ m. map.insert m id c.put.new.self) c.self.view_is in
    IfOk-weaker c.put.result _ _ (λ new e. ap (λ o. option_map (map.insert old id) (grown g.G.Group.grouping o c.args.item)) (sym found)
    ∙ put_back old id c.put.new.self _ _ new e (sym written)) c.put.ensures
