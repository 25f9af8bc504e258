use Rattle.std.proofs.Common.{◌≡◌, Some, option_map, false, ◌<◌, ◌∙◌, [], ap, sym, subst, option_copied, not, true, length, get_or, set, bytes_eq, arith}
use Rattle.feed_values.specs.Snapshot.{entity_payloads}
use Rattle.rule_history.specs.History.{entities_in}
use Rattle.engine_laws.specs.Delta.{is_other}
use Rattle.entity_index.specs.Held.{at_key}
use Rattle.entity_index.specs.Met.{met_with}
use Rattle.entity_index.specs.Rooms.{HeldRoom}
use Rattle.entity_index.proofs.Finding.{read_payload, seat_within, other_none, other_some}
use Rattle.entity_index.specs.Seats.{HeldSeat}
use Rattle.entity_index.proofs.Setting.{found-at}
use Rattle.std.proofs.lemmas.List.{get_or_default}
use Rattle.entity_index.proofs.comparing.meet.Goals as goal

pub entity-requires-in-Some : goal.entity-requires-in-Some
entity-requires-in-Some c =
    let r = c.room.inside in
    let found = sym (found-at r.entries.entries c.args.key.now) ∙ sym c.get.ensures.value ∙ ap option_copied c.in-Some.is in
    subst (λ n. n < length (entity_payloads r.kept)) (sym c.place-before.ensures) (seat_within r.feed (entity_payloads r.kept) r.phase r.entries.entries c.room.invariant.seated c.args.key.now c.in-Some.seat.now found)

pub index-came-requires : goal.index-came-requires
index-came-requires c =
    let r = c.room.inside in
    let found = sym (found-at r.entries.entries c.args.key.now) ∙ sym c.get.ensures.value ∙ ap option_copied c.in-Some.is in
    let within = seat_within r.feed (entity_payloads r.kept) r.phase r.entries.entries c.room.invariant.seated c.args.key.now c.in-Some.seat.now found in
    let same : length (entity_payloads r.kept) ≡ length (entity_payloads c.args.room.now.bytes) = ap (λ (x : HeldRoom). length (entity_payloads x.bytes)) c.room.view_is in
    omega (arith, within, same, c.requires.met, c.place-before.ensures)

pub index_mut-requires : goal.index_mut-requires
index_mut-requires c =
    let r = c.room.inside in
    let found = sym (found-at r.entries.entries c.args.key.now) ∙ sym c.get.ensures.value ∙ ap option_copied c.in-Some.is in
    let within = seat_within r.feed (entity_payloads r.kept) r.phase r.entries.entries c.room.invariant.seated c.args.key.now c.in-Some.seat.now found in
    let same : length (entity_payloads r.kept) ≡ length (entity_payloads c.args.room.now.bytes) = ap (λ (x : HeldRoom). length (entity_payloads x.bytes)) c.room.view_is in
    omega (arith, within, same, c.requires.met, c.place-before.ensures)

pub returns-in-None-clause-other : goal.returns-in-None-clause-other
returns-in-None-clause-other c =
    let r = c.room.inside in
    let p = get_or (entity_payloads c.args.kept.now) c.args.place [] in
    let none = sym (found-at r.entries.entries c.args.key.now) ∙ sym c.get.ensures.value ∙ ap option_copied c.in-None.is in
    other_none r.feed (entity_payloads r.kept) r.phase r.entries.entries c.room.invariant.seated c.args.key.now p none
    ∙ ap (λ (x : HeldRoom). is_other (entities_in x.feed x.bytes) (c.args.key.now, p)) c.room.view_is

pub returns-in-None-clause-met : goal.returns-in-None-clause-met
returns-in-None-clause-met c =
    let r = c.room.inside in
    let none = sym (found-at r.entries.entries c.args.key.now) ∙ sym c.get.ensures.value ∙ ap option_copied c.in-None.is in
    sym (ap (λ o. met_with o c.args.met.now.items) (ap (λ (x : HeldRoom). at_key c.args.key.now x.seats) (sym c.room.view_is) ∙ none))

pub returns-in-Some-clause-other : goal.returns-in-Some-clause-other
returns-in-Some-clause-other c =
    let r = c.room.inside in
    let qs = entity_payloads r.kept in
    let p = get_or (entity_payloads c.args.kept.now) c.args.place [] in
    let found = sym (found-at r.entries.entries c.args.key.now) ∙ sym c.get.ensures.value ∙ ap option_copied c.in-Some.is in
    other_some r.feed qs r.phase r.entries.entries c.room.invariant.seated c.args.key.now p c.in-Some.seat.now c.ne.result found
    (c.ne.ensures ∙ ap (λ x. not (bytes_eq x c.entity-in-Some.result.now)) (sym (read_payload (entity_payloads c.args.kept.now) c.args.place c.entity.result.now c.entity.ensures.payload))
    ∙ ap (λ x. not (bytes_eq p x)) (sym (read_payload qs c.place-before.result c.entity-in-Some.result.now c.entity-in-Some.ensures.payload) ∙ ap (λ n. get_or qs n []) c.place-before.ensures))
    ∙ ap (λ (x : HeldRoom). is_other (entities_in x.feed x.bytes) (c.args.key.now, p)) c.room.view_is

pub returns-in-Some-clause-met : goal.returns-in-Some-clause-met
returns-in-Some-clause-met c =
    let r = c.room.inside in
    let found = sym (found-at r.entries.entries c.args.key.now) ∙ sym c.get.ensures.value ∙ ap option_copied c.in-Some.is in
    ap (λ n. set c.args.met.now.items n true) c.place-before.ensures
    ∙ sym (ap (λ o. met_with o c.args.met.now.items) (ap (λ (x : HeldRoom). at_key c.args.key.now x.seats) (sym c.room.view_is) ∙ found))

pub returns-in-None-clause-came : goal.returns-in-None-clause-came
returns-in-None-clause-came c =
    let r = c.room.inside in
    let none = sym (found-at r.entries.entries c.args.key.now) ∙ sym c.get.ensures.value ∙ ap option_copied c.in-None.is in
    sym (ap (option_map (λ (s : HeldSeat). get_or c.args.met.now.items s.place false)) (ap (λ (x : HeldRoom). at_key c.args.key.now x.seats) (sym c.room.view_is) ∙ none))

pub returns-in-Some-clause-came : goal.returns-in-Some-clause-came
returns-in-Some-clause-came c =
    let r = c.room.inside in
    let found = sym (found-at r.entries.entries c.args.key.now) ∙ sym c.get.ensures.value ∙ ap option_copied c.in-Some.is in
    let within = seat_within r.feed (entity_payloads r.kept) r.phase r.entries.entries c.room.invariant.seated c.args.key.now c.in-Some.seat.now found in
    let same : length (entity_payloads r.kept) ≡ length (entity_payloads c.args.room.now.bytes) = ap (λ (x : HeldRoom). length (entity_payloads x.bytes)) c.room.view_is in
    let l : c.place-before.result < length c.args.met.now.items = omega (arith, within, same, c.requires.met, c.place-before.ensures) in
    ap (λ b. Some b) (c.index-came.ensures ∙ get_or_default c.args.met.now.items c.place-before.result c.index-came.result.now false l ∙ ap (λ n. get_or c.args.met.now.items n false) c.place-before.ensures)
    ∙ sym (ap (option_map (λ (s : HeldSeat). get_or c.args.met.now.items s.place false)) (ap (λ (x : HeldRoom). at_key c.args.key.now x.seats) (sym c.room.view_is) ∙ found))
