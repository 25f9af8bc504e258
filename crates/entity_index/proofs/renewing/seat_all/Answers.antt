use Rattle.std.proofs.Common.{◌<◌, ◌+◌, ◌∙◌, ◌++◌, [], ℕ, ap, sym, subst, refl, length, take, drop, get_or, arith, rules, bytes_eq}
use Rattle.feed_values.specs.Snapshot.{entity_payloads}
use Rattle.rule_table.specs.declared.key.EntityKey.{EntityKey}
use Rattle.rule_table.specs.Counts.{count_in}
use Rattle.rule_history.specs.History.{count_id, id_of}
use Rattle.entity_index.specs.Held.{at_key}
use Rattle.entity_index.specs.Seats.{occurrences_after, placed_after}
use Rattle.entity_index.specs.Put.{seat_all, seat_one}
use Rattle.entity_index.specs.Tally.{IsTally, came_then, first_key, phase_at}
use Rattle.entity_index.proofs.Coming.{seat-same}
use Rattle.entity_index.proofs.Finding.{key_here, occurrences_more, occurrences_end, placed_left, placed_end}
use Rattle.entity_index.proofs.Tallied.{phase_here, phase_same, tally_more, tally_unseated}
use Rattle.entity_index.proofs.renewing.seat_all.Goals as goal

pub loop-place-init : goal.loop-place-init
loop-place-init c =
    record {
      seated = λ k. refl;
      occurrences = ap (λ xs. xs ++ occurrences_after [] (entity_payloads c.args.kept.now)) c.new-occurrences.ensures.items;
      tallied = λ id. tally_unseated c.args.phase (at_key (first_key c.args.feed id) c.args.entries.now.entries) (c.requires (first_key c.args.feed id)) _ (c.none_counted-counts.ensures id);
      small = search rules;
    }

pub loop-place-preserved : goal.loop-place-preserved
loop-place-preserved c =
    let i = c.loop-place.invariant in
    let f = c.args.feed in
    let ps = entity_payloads c.args.kept.now in
    let place = c.loop-place.place in
    let phase = c.args.phase in
    let l : place < length ps = omega (arith, c.loop-place-test.true, i.small) in
    let id = id_of (get_or ps place []) in
    let before = count_id (take place ps) id in
    let own = key_here f ps place l in
    let first = c.in_ok-first.ensures in
    let old = c.loop-place.entries.entries in
    let new = c.seat_next.new.entries.entries in
    let counts = c.loop-place.counts in
    let counted = c.seat_next.new.counts in
    let tally = subst (λ (k : EntityKey). IsTally (phase_at phase (at_key k old)) before (count_in counts k.id)) (sym first) (i.tallied id) in
    let left = placed_after f (take (place + 1) ps) (place + 1) (drop (place + 1) ps) in
    let put = λ (q : EntityKey). c.in_ok-occurrence.ensures.seats before tally q ∙ ap (λ (x : EntityKey). seat_one phase (let e : EntityKey × ℕ = (record x { occurrence = before }, place) in e) (λ r. at_key r old) q) first in
    record {
      seated = λ k.
          seat-same phase left (λ q. at_key q new) (seat_one phase (own, place) (λ q. at_key q old)) put k
          ∙ ap (λ es. seat_all phase es (λ q. at_key q old) k) (sym (placed_left f ps place l)) ∙ i.seated k;
      occurrences = occurrences_more f ps place l c.loop-place.occurrences.items c.push.new.self.items c.in_ok-occurrence.occurrence (c.in_ok-occurrence.ensures.occurrence before tally) c.in_ok-push.ensures.items ∙ i.occurrences;
      tallied = tally_more f ps place l (λ x. phase_at phase (at_key (first_key f x) old)) (λ x. phase_at phase (at_key (first_key f x) new)) (count_in counts) (count_in counted) i.tallied
          (subst (λ (k : EntityKey). IsTally (came_then (phase_at phase (at_key k old))) (before + 1) (count_in counted k.id)) first (c.in_ok-occurrence.ensures.here before tally))
          (λ other h. c.in_ok-occurrence.ensures.others other (ap (λ (k : EntityKey). bytes_eq k.id other) first ∙ h))
          (phase_here f ps place l phase (λ q. at_key q old) (λ q. at_key q new) put (count_in counts id) (i.tallied id)) (phase_same f ps place l phase (λ q. at_key q old) (λ q. at_key q new) put);
      small = i.small;
    }

pub returns : goal.returns
returns c =
    let i = c.loop-place.invariant in
    let ps = entity_payloads c.args.kept.now in
    record {
      seated = λ k. ap (λ es. seat_all c.args.phase es (λ q. at_key q c.loop-place.entries.entries) k) (sym (placed_end c.args.feed ps c.loop-place.place (omega (arith, i.small, c.loop-place-test.false)))) ∙ i.seated k;
      occurrences = occurrences_end ps c.loop-place.place c.loop-place.occurrences.items _ (omega (arith, i.small, c.loop-place-test.false)) i.occurrences;
    }
