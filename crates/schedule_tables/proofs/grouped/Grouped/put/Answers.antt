use Rattle.std.proofs.Common.{ap, is_some, sym, ◌∙◌}
use Rattle.std.specs.FinMap as map
use Rattle.schedule_tables.proofs.MapLemmas.{is_some-get}
use Rattle.schedule_tables.proofs.grouped.Grouped.put.Goals as goal

pub put_more-requires : goal.put_more-requires
put_more-requires g c =
    let same = c.as_str-then-contains_key.ensures ∙ sym c.as_str.ensures in
    ap (λ id. is_some (map.get c.args.self.now id)) same ∙ is_some-get c.self.inside.groups.entries c.as_str.result.now _ _ c.self.view_is c.contains_key.ensures ∙ c.if-contains_key.true

pub put_first-requires : goal.put_first-requires
put_first-requires g c =
    ap (λ id. is_some (map.get c.args.self.now id)) (sym c.as_str.ensures) ∙ is_some-get c.self.inside.groups.entries c.as_str.result.now _ _ c.self.view_is c.contains_key.ensures ∙ c.if-contains_key.false
