use Rattle.std.proofs.Common.{◌∙◌, [], ap, sym, get_or, bytes_eq}
use Rattle.feed_values.specs.Snapshot.{entity_payloads}
use Rattle.rule_history.specs.History.{id_of}
use Rattle.entity_index.proofs.Finding.{id_there, read_payload, same_id}
use Rattle.entity_index.proofs.keys.have_same_id.Goals as goal

pub returns-then-eq : goal.returns-then-eq
returns-then-eq c =
    let qs = entity_payloads c.args.old.now in
    let ps = entity_payloads c.args.new.now in
    let place = c.args.place in
    let a = read_payload qs place c.entity.result.now c.entity.ensures.payload in
    let b = read_payload ps place c.entity-2.result.now c.entity-2.ensures.payload in
    sym (same_id (get_or qs place []) (get_or ps place []) (ap (λ x. bytes_eq x (get_or ps place [])) a ∙ ap (bytes_eq c.entity.result.now) b ∙ sym c.eq.ensures ∙ c.if-eq.true))

pub returns : goal.returns
returns c =
    let qs = entity_payloads c.args.old.now in
    let ps = entity_payloads c.args.new.now in
    let place = c.args.place in
    let a = id_there qs place c.requires.old c.entity_id.result.now c.entity_id.ensures.id in
    let b = id_there ps place c.requires.new c.entity_id-2.result.now c.entity_id-2.ensures.id in
    c.eq-2.ensures ∙ ap (λ x. bytes_eq x c.entity_id-2.result.now) a ∙ ap (bytes_eq (id_of (get_or qs place []))) b
