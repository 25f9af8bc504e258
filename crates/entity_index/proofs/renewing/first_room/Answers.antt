use Rattle.std.proofs.Common.{◌≡◌, ◌∙◌, [], ap, sym, subst, refl, true, false, Some}
use Rattle.feed_values.specs.Snapshot.{entity_payloads}
use Rattle.entity_index.specs.Held.{HeldEntities, KeyedParts, at_key}
use mathlib.Core.Bool.{beq}
use Rattle.std.specs.Prelude.{IfSome}
use Rattle.entity_index.specs.Seats.{HeldSeat, placed_after}
use Rattle.entity_index.specs.Put.{put_all}
use Rattle.entity_index.proofs.Coming.{seat-same}
use Rattle.entity_index.proofs.Taken.{first_in}
use Rattle.entity_index.proofs.Tallied.{put_unseated}
use Rattle.entity_index.proofs.renewing.first_room.Goals as goal

pub invariant_of-result : goal.invariant_of-result
invariant_of-result c =
    let taken = first_in c.args.feed c.args.kept c.args.incoming true false c.seat_all.new.entries.entries c.requires c.len-count.ensures.ordered
    (λ k. c.in_ok-occurrences.ensures.seated k
    ∙ seat-same true (placed_after c.args.feed [] 0 (entity_payloads c.args.kept)) (λ q. at_key q c.put_all.new.entries.entries) (put_all false c.args.incoming (λ q. at_key q []))
    (λ q. c.in_ok-put_all.ensures q ∙ ap (λ es. put_all false c.args.incoming (λ r. at_key r es) q) c.new-entries.ensures.empty) k) in
    record { seated = taken.seated; occurrences_are = c.in_ok-occurrences.ensures.occurrences }

pub returns : goal.returns
returns c =
    let taken = first_in c.args.feed c.args.kept c.args.incoming true false c.seat_all.new.entries.entries c.requires c.len-count.ensures.ordered
    (λ k. c.in_ok-occurrences.ensures.seated k
    ∙ seat-same true (placed_after c.args.feed [] 0 (entity_payloads c.args.kept)) (λ q. at_key q c.put_all.new.entries.entries) (put_all false c.args.incoming (λ q. at_key q []))
    (λ q. c.in_ok-put_all.ensures q ∙ ap (λ es. put_all false c.args.incoming (λ r. at_key r es) q) c.new-entries.ensures.empty) k) in
    record { feed = refl; held = ap (λ (p : KeyedParts). let h : HeldEntities = record { bytes = Some c.args.kept; parts = p } in h) taken.parts_are }

pub seat_all-requires : goal.seat_all-requires
seat_all-requires c = λ k.
    subst (λ o. IfSome o (λ (s : HeldSeat). beq s.phase true ≡ false)) (sym (c.in_ok-put_all.ensures k))
    (put_unseated true false refl c.args.incoming (λ q. at_key q c.new-entries.result.entries)
    (λ q. subst (λ es. IfSome (at_key q es) (λ (s : HeldSeat). beq s.phase true ≡ false)) (sym c.new-entries.ensures.empty) tt) k)
