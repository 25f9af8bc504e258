use Rattle.std.proofs.Common.{◌<◌, ◌≤◌, cond, ◌+◌, ◌∙◌, ◌++◌, ◌∷◌, List, [], ap, sym, subst, not, false, map, filter, take, length, get_or, arith, rules, bytes_eq}
use Rattle.std.proofs.lemmas.List.{take_more, take_all, length-replicate}
use Rattle.feed_values.specs.Snapshot.{entity_payloads}
use Rattle.rule_table.specs.declared.key.EntityKey.{EntityKey}
use Rattle.rule_table.specs.Counts.{count_in}
use Rattle.rule_history.specs.History.{count_id, entities_in, id_of}
use Rattle.engine_laws.specs.Delta.{is_other}
use Rattle.entity_index.specs.Held.{at_key}
use Rattle.entity_index.specs.Changes.{fresh_from, keyed_in}
use Rattle.entity_index.specs.Rooms.{HeldRoom}
use Rattle.entity_index.specs.Seats.{AreSeats}
use Rattle.entity_index.specs.Tally.{IsTally, came_then, first_key, met_at}
use Rattle.entity_index.proofs.Finding.{AreMet, gone_is, key_at_place, key_here, keys_end, keys_more, length-keys, length-met, met_more, none_were, places_end, places_more}
use Rattle.entity_index.proofs.Tallied.{met_here, met_same, tally_more, tally_unmet}
use Rattle.entity_index.proofs.comparing.find_all.Goals as goal

pub loop-place-init : goal.loop-place-init
loop-place-init c =
    let f = c.args.room.now.feed in
    let before = entities_in f c.args.room.now.bytes in
    let none = subst (AreMet c.args.room.now.seats []) (sym c.in_ok-seen.ensures.met) (none_were c.args.room.now.seats c.len.result) in
    record {
      places = ap (λ xs. xs ++ fresh_from before 0 (keyed_in f c.args.kept.now)) c.requires.places;
      keys = ap (λ (xs : List EntityKey). xs ++ map (λ e. e.0) (filter (is_other before) (keyed_in f c.args.kept.now))) c.requires.keys;
      met = none;
      long = ap (λ m. length m) c.in_ok-seen.ensures.met ∙ length-replicate c.len.result false ∙ c.len.ensures ∙ ap (λ (r : HeldRoom). length (entity_payloads r.bytes)) c.room.view_is;
      tallied = λ id. tally_unmet c.args.room.now.seats c.in_ok-seen.seen.met.items none (first_key f id) _ (c.in_ok-seen.ensures.counts id);
      small = search rules;
    }

pub meet_next-requires-clause-met : goal.meet_next-requires-clause-met
meet_next-requires-clause-met c = c.loop-place.invariant.long

pub meet_next-requires-clause-tally : goal.meet_next-requires-clause-tally
meet_next-requires-clause-tally c =
    let room = c.args.room.now in
    let ps = entity_payloads c.args.kept.now in
    let place = c.loop-place.place in
    let id = id_of (get_or ps place []) in
    let is = c.in_ok-key.ensures ∙ ap (λ (r : HeldRoom). first_key r.feed id) c.room.view_is in
    subst (λ (k : EntityKey). IsTally (met_at c.loop-place.seen.met.items room.seats k) (count_id (take place ps) id) (count_in c.loop-place.seen.counts k.id)) (sym is) (c.loop-place.invariant.tallied id)

pub loop-place-preserved : goal.loop-place-preserved
loop-place-preserved c =
    let i = c.loop-place.invariant in
    let room = c.args.room.now in
    let f = room.feed in
    let ps = entity_payloads c.args.kept.now in
    let all = map (λ e. e.0) (keyed_in f c.args.kept.now) in
    let before = entities_in f room.bytes in
    let place = c.loop-place.place in
    let l : place < length ps = omega (arith, i.small, c.loop-place-test.true) in
    let id = id_of (get_or ps place []) in
    let own = key_here f ps place l in
    let first = c.in_ok-key.ensures ∙ ap (λ (r : HeldRoom). first_key r.feed id) c.room.view_is in
    let b = c.in_ok-other.other in
    let key = c.in_ok-other.ensures.key in
    let met = c.loop-place.seen.met.items in
    let next = c.meet_next.new.seen.met.items in
    let counts = c.loop-place.seen.counts in
    let counted = c.meet_next.new.seen.counts in
    let are = subst (λ (r : HeldRoom). AreSeats r.feed (entity_payloads r.bytes) r.phase r.seats) c.room.view_is c.room.invariant.seated in
    let more = take_more all place own (subst (λ n. place < n) (sym (length-keys f [] ps)) l) ∙ ap (λ k. take place all ++ k ∷ []) (key_at_place f [] ps place own l) in
    let now = subst (AreMet room.seats (take place all ++ own ∷ [])) (sym c.in_ok-other.ensures.met) (met_more f (entity_payloads room.bytes) room.phase room.seats are own (take place all) met i.long i.met) in
    record {
      places = places_more f ps place l before b c.loop-place.fresh.places c.put_if.new.fresh.places c.in_ok-other.ensures.other c.in_ok-spare.ensures.places ∙ i.places;
      keys = keys_more f ps place l before b c.loop-place.fresh.keys c.put_if.new.fresh.keys c.in_ok-other.ensures.other (c.in_ok-spare.ensures.keys ∙ ap (λ k. cond b (c.loop-place.fresh.keys ++ k ∷ []) c.loop-place.fresh.keys) key) ∙ i.keys;
      met = subst (λ ks. AreMet room.seats ks next) (sym more) now;
      long = ap (λ m. length m) c.in_ok-other.ensures.met ∙ length-met (at_key own room.seats) met ∙ i.long;
      tallied = tally_more f ps place l (λ x. met_at met room.seats (first_key f x)) (λ x. met_at next room.seats (first_key f x)) (count_in counts) (count_in counted) i.tallied
          (subst (λ (k : EntityKey). IsTally (came_then (met_at met room.seats k)) (count_id (take place ps) id + 1) (count_in counted k.id)) first c.in_ok-other.ensures.tally)
          (λ other h. c.in_ok-other.ensures.others other (ap (λ (k : EntityKey). bytes_eq k.id other) first ∙ h))
          (met_here f ps place l room.seats (take place all) met next i.met now (count_in counts id) (i.tallied id)) (met_same f ps place l room.seats (take place all) met next i.met now);
      small = i.small;
    }

pub returns-clause-places : goal.returns-clause-places
returns-clause-places c =
    let i = c.loop-place.invariant in
    let room = c.args.room.now in
    places_end room.feed (entity_payloads c.args.kept.now) c.loop-place.place (entities_in room.feed room.bytes) c.loop-place.fresh.places (omega (arith, i.small, c.loop-place-test.false)) i.places

pub returns-clause-keys : goal.returns-clause-keys
returns-clause-keys c =
    let i = c.loop-place.invariant in
    let room = c.args.room.now in
    keys_end room.feed (entity_payloads c.args.kept.now) c.loop-place.place (entities_in room.feed room.bytes) c.loop-place.fresh.keys _ (omega (arith, i.small, c.loop-place-test.false)) i.keys

pub returns-clause-gone : goal.returns-clause-gone
returns-clause-gone c =
    let i = c.loop-place.invariant in
    let room = c.args.room.now in
    let f = room.feed in
    let ps = entity_payloads c.args.kept.now in
    let all = map (λ e. e.0) (keyed_in f c.args.kept.now) in
    let are = subst (λ (r : HeldRoom). AreSeats r.feed (entity_payloads r.bytes) r.phase r.seats) c.room.view_is c.room.invariant.seated in
    let end : length ps ≤ c.loop-place.place = omega (arith, i.small, c.loop-place-test.false) in
    c.in_ok-gone.ensures ∙ ap (λ m. map (λ e. e.0) (filter (λ e. not (get_or m e.1.place false)) room.seats)) c.as_slice.ensures.value
    ∙ gone_is f (entity_payloads room.bytes) room.phase room.seats are ps c.loop-place.seen.met.items
    (subst (λ ks. AreMet room.seats ks c.loop-place.seen.met.items) (take_all c.loop-place.place all (subst (λ n. n ≤ c.loop-place.place) (sym (length-keys f [] ps)) end)) i.met)
