use Rattle.std.proofs.Common.{◌≡◌, ◌∙◌, [], ap, sym, subst, false, not}
use mathlib.Core.Bool.{beq}
use Rattle.std.specs.Prelude.{IfSome}
use Rattle.feed_values.specs.Snapshot.{entity_payloads}
use Rattle.entity_index.specs.Held.{at_key}
use Rattle.entity_index.specs.Seats.{HeldSeat, placed_after}
use Rattle.entity_index.specs.Put.{put_all, staying}
use Rattle.entity_index.proofs.Coming.{seat-same}
use Rattle.entity_index.proofs.Tallied.{put_unseated, turns}
use Rattle.entity_index.proofs.renewing.seat_anew.Goals as goal

pub returns : goal.returns
returns c =
    let phase = not c.args.phase in
    let old = c.args.entries.now.entries in
    record {
      seated = λ k. c.let_go.ensures k
          ∙ ap (staying phase) (c.in_ok-occurrences.ensures.seated k
          ∙ seat-same phase (placed_after c.args.feed [] 0 (entity_payloads c.args.kept.now)) (λ q. at_key q c.put_all.new.entries.entries) (put_all c.args.phase c.args.incoming (λ q. at_key q old)) c.in_ok-put_all.ensures k);
      occurrences = c.in_ok-occurrences.ensures.occurrences;
    }

pub seat_all-requires : goal.seat_all-requires
seat_all-requires c = λ k.
    let phase = c.args.phase in
    subst (λ o. IfSome o (λ (s : HeldSeat). beq s.phase (not phase) ≡ false)) (sym (c.in_ok-put_all.ensures k))
    (put_unseated (not phase) phase (turns phase) c.args.incoming (λ q. at_key q c.args.entries.now.entries) c.requires k)
