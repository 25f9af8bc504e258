use Rattle.std.proofs.Common.{◌<◌, ◌∙◌, ◌++◌, ◌∷◌, ℕ, List, [], ap, sym, subst, cond, not, true, map, length, get_or, bytes_eq, arith}
use Rattle.feed_values.specs.Snapshot.{entity_payloads}
use Rattle.rule_table.specs.declared.key.EntityKey.{EntityKey}
use Rattle.rule_history.specs.History.{id_of}
use Rattle.entity_index.specs.Rooms.{HeldRoom}
use Rattle.entity_index.specs.Seats.{key_at}
use Rattle.entity_index.proofs.Finding.{id_there, key_made, length-occurrences, occurrence_at, read_payload, same_length}
use Rattle.entity_index.proofs.Placed.{same_occurrences}
use Rattle.entity_index.proofs.comparing.put_changed.Goals as goal

pub entity-requires-2 : goal.entity-requires-2
entity-requires-2 c =
    let ids = ap (λ (r : HeldRoom). map id_of (entity_payloads r.bytes)) c.room.view_is ∙ c.requires.ids in
    subst (λ n. c.args.place < n) (sym (same_length (entity_payloads c.room.inside.kept) (entity_payloads c.args.kept.now) ids)) c.requires.place

pub index-occurrence-requires : goal.index-occurrence-requires
index-occurrence-requires c =
    let ps = entity_payloads c.args.kept.now in
    let ids = ap (λ (r : HeldRoom). map id_of (entity_payloads r.bytes)) c.room.view_is ∙ c.requires.ids in
    let long = ap (λ (xs : List ℕ). length xs) (c.room.invariant.occurrences_are ∙ same_occurrences (entity_payloads c.room.inside.kept) ps ids) ∙ length-occurrences [] ps in
    omega (arith, long, c.requires.place)

pub returns-then-eq : goal.returns-then-eq
returns-then-eq c =
    let place = c.args.place in
    let old = c.args.fresh.now in
    let a = read_payload (entity_payloads c.args.kept.now) place c.entity.result.now c.entity.ensures.payload in
    let b = ap (λ (r : HeldRoom). get_or (entity_payloads r.bytes) place []) (sym c.room.view_is) ∙ read_payload (entity_payloads c.room.inside.kept) place c.entity-2.result.now c.entity-2.ensures.payload in
    let same = ap (λ x. not (bytes_eq x (get_or (entity_payloads c.args.room.now.bytes) place []))) a ∙ ap (λ x. not (bytes_eq c.entity.result.now x)) b ∙ ap not (sym c.eq.ensures ∙ c.if-eq.true) in
    record {
      places = sym (ap (λ d. cond d (old.places ++ place ∷ []) old.places) same);
      keys = sym (ap (λ d. cond d (old.keys ++ key_at c.args.room.now.feed c.args.kept.now place ∷ []) old.keys) same);
      any = sym (ap (λ d. cond d true old.any) same);
    }

pub returns : goal.returns
returns c =
    let place = c.args.place in
    let old = c.args.fresh.now in
    let ps = entity_payloads c.args.kept.now in
    let f = c.args.room.now.feed in
    let l = c.requires.place in
    let a = read_payload ps place c.entity.result.now c.entity.ensures.payload in
    let b = ap (λ (r : HeldRoom). get_or (entity_payloads r.bytes) place []) (sym c.room.view_is) ∙ read_payload (entity_payloads c.room.inside.kept) place c.entity-2.result.now c.entity-2.ensures.payload in
    let other = ap (λ x. not (bytes_eq x (get_or (entity_payloads c.args.room.now.bytes) place []))) a ∙ ap (λ x. not (bytes_eq c.entity.result.now x)) b ∙ ap not (sym c.eq.ensures ∙ c.if-eq.false) in
    let ids = ap (λ (r : HeldRoom). map id_of (entity_payloads r.bytes)) c.room.view_is ∙ c.requires.ids in
    let n = c.index-occurrence.result.now in
    let count = c.index-occurrence.ensures ∙ ap (λ xs. get_or xs place n) (c.room.invariant.occurrences_are ∙ same_occurrences (entity_payloads c.room.inside.kept) ps ids) ∙ occurrence_at [] ps place n l in
    let key = ap (λ (r : HeldRoom). let k : EntityKey = record { feed = r.feed; id = c.in_ok-id.id; occurrence = n } in k) c.room.view_is
    ∙ key_made f ps place l c.in_ok-id.id n (c.in_ok-id.ensures ∙ id_there ps place l c.entity_id.result.now c.entity_id.ensures.id) count in
    record {
      places = c.in_ok-put_fresh.ensures.places ∙ sym (ap (λ d. cond d (old.places ++ place ∷ []) old.places) other);
      keys = c.in_ok-put_fresh.ensures.keys ∙ ap (λ k. old.keys ++ k ∷ []) key ∙ sym (ap (λ d. cond d (old.keys ++ key_at c.args.room.now.feed c.args.kept.now place ∷ []) old.keys) other);
      any = c.in_ok-put_fresh.ensures.any ∙ sym (ap (λ d. cond d true old.any) other);
    }
