use Rattle.std.proofs.Common.{ap, string_bytes, ◌∙◌}
use Rattle.schedule_tables.specs.Stops.{ids_with, number_in}
use Rattle.schedule_tables.proofs.StopLemmas.{ids_with-insert_key, number_in-position, texts_of}
use Rattle.schedule_tables.proofs.stop_ids.StopIds.number.Goals as goal

pub returns-clause-ids : goal.returns-clause-ids
returns-clause-ids c =
    let key = c.into_string.result in
    ap texts_of c.in_ok-number.ensures.keys ∙ ids_with-insert_key c.self.inside.ids.keys key
    ∙ ap (λ ids. ids_with ids (string_bytes key)) c.self.view_is ∙ ap (ids_with c.args.self.now) c.into_string.ensures

pub returns-clause-number : goal.returns-clause-number
returns-clause-number c =
    let key = c.into_string.result in
    c.in_ok-number.ensures.index ∙ number_in-position c.self.inside.ids.keys key
    ∙ ap (λ ids. number_in ids (string_bytes key)) c.self.view_is ∙ ap (number_in c.args.self.now) c.into_string.ensures
