use Rattle.std.proofs.Common.{Some, ap, option_map, string_bytes, sym, ◌∙◌}
use Rattle.std.specs.FinMap as map
use Rattle.schedule_tables.specs.Maps.{grown}
use Rattle.schedule_tables.proofs.MapLemmas.{none_of, update_text}
use Rattle.schedule_tables.proofs.grouped.Grouped.put_first.Goals as goal

pub returns : goal.returns
returns g c =
    let old = c.args.self.now in
    let id = c.args.id in
    let key = c.into_string.result in
    let group = c.in_ok-group.group in
    ap (λ o. option_map (map.insert old id) (grown g.G.Group.grouping o c.args.item)) (none_of _ c.requires)
    ∙ ap Some (sym (update_text c.self.inside.groups c.insert.new.self (string_bytes key) group c.in_ok-insert.ensures.updates
    ∙ ap (λ m. map.insert m (string_bytes key) group) c.self.view_is
    ∙ ap (λ q. map.insert old q group) c.into_string.ensures
    ∙ ap (map.insert old id) c.in_ok-group.ensures))
