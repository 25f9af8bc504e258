use Rattle.std.proofs.Common.{◌≡◌, ◌++◌, ◌<◌, ◌≤◌, ℕ, List, length, take, arith, sym, subst, ◌∙◌}
use Rattle.std.proofs.lemmas.List.{length-append, take-append-le}
use Rattle.rt_wire.specs.Fields.{IsBytes}
use Rattle.rt_wire.specs.Placed.{placed_fields}
use Rattle.feed_values.specs.Accepted.{snapshot_limit}
use Rattle.feed_codec.proofs.Bytes.{bytes_append}
use Rattle.feed_stream.specs.Layouts.{IsLayoutOf}
use Rattle.feed_stream.specs.declared.splitter.Walk.{Walk}
use Rattle.feed_stream.specs.declared.splitter.Found.TheVariants as found
use Rattle.feed_stream.specs.Came.{Came}
use Rattle.feed_stream.specs.Inside.{GoesWrong, IsReached, IsWalk, sofar}
use Rattle.feed_stream.proofs.Layouts.{layout_grows}
use Rattle.feed_stream.proofs.Walked.{walked_grows}
use Rattle.feed_stream.proofs.Feeding.{came_walked, came_refused, came_over, fronts_grow}
use Rattle.feed_stream.proofs.splitter.walk_on.Goals as goal

pub returns-then-count-gt-SNAPSHOT_LIMIT-clause-came : goal.returns-then-count-gt-SNAPSHOT_LIMIT-clause-came
returns-then-count-gt-SNAPSHOT_LIMIT-clause-came c =
    let w = c.args.walk in
    let piece = c.args.piece.now in
    let ok = bytes_append w.bytes.items piece c.requires.bytes_are (λ i. omega (arith, c.type_inv.piece i)) in
    let large : snapshot_limit < length (w.bytes.items ++ piece) = omega (arith, c.if-count-gt-SNAPSHOT_LIMIT.true, c.saturating_add-count.ensures, c.len.ensures, w.bytes.ok.0, length-append w.bytes.items piece) in
    came_over (w.bytes.items ++ piece) c.saturating_add-count.result c.too_large.result ok (omega (arith, c.if-count-gt-SNAPSHOT_LIMIT.true)) large

pub go_through-requires : goal.go_through-requires
go_through-requires c =
    let w = c.args.walk in
    let bytes = w.bytes.items in
    let piece = c.args.piece.now in
    let r = c.requires.reached in
    let same = c.deref.ensures.value ∙ c.in_ok-append.ensures in
    let laid : IsLayoutOf (bytes ++ piece) (placed_fields (take w.reached.next (bytes ++ piece))) w.reached.layout =
    subst (λ (b : List ℕ). IsLayoutOf (bytes ++ piece) (placed_fields b) w.reached.layout) (sym (take-append-le w.reached.next bytes piece r.walked_to.within)) (layout_grows bytes piece (placed_fields (take w.reached.next bytes)) w.reached.layout r.layout) in
    record {
      walked = rw same (walked_grows bytes piece w.reached.next r.walked_to);
      layout = rw same laid;
      front = rw same (fronts_grow bytes piece w.reached.next w.reached.front r.walked_to.within r.front);
    }

pub returns-in-Stopped-clause-came : goal.returns-in-Stopped-clause-came
returns-in-Stopped-clause-came c =
    let w = c.args.walk in
    let piece = c.args.piece.now in
    let same = c.in_ok-append.ensures in
    let walk : Walk = record { bytes = c.append.new.bytes; reached = c.in-Stopped.reached } in
    let through : IsReached walk.bytes.items walk.reached = subst (λ (b : List ℕ). IsReached b walk.reached) c.deref.ensures.value (rw c.in-Stopped.is at c.in_ok-reached.ensures) in
    let small : length (w.bytes.items ++ piece) ≤ snapshot_limit = omega (arith, c.if-count-gt-SNAPSHOT_LIMIT.false, c.saturating_add-count.ensures, c.len.ensures, w.bytes.ok.0, length-append w.bytes.items piece) in
    let ok = bytes_append w.bytes.items piece c.requires.bytes_are (λ i. omega (arith, c.type_inv.piece i)) in
    let is : IsWalk walk = record {
      bytes_are = subst (λ (b : List ℕ). IsBytes b) (sym same) ok;
      small = subst (λ (b : List ℕ). length b ≤ snapshot_limit) (sym same) small;
      reached = through;
    } in
    subst (λ (b : List ℕ). Came b (sofar (found.Walked walk))) same (came_walked walk is)

pub returns-in-Refused-clause-came : goal.returns-in-Refused-clause-came
returns-in-Refused-clause-came c =
    let w = c.args.walk in
    let r = c.in-Refused.refusal in
    let piece = c.args.piece.now in
    let through : GoesWrong (w.bytes.items ++ piece) r = subst (λ (b : List ℕ). GoesWrong b r) (c.deref.ensures.value ∙ c.in_ok-append.ensures) (rw c.in-Refused.is at c.in_ok-reached.ensures) in
    let len = length-append w.bytes.items piece in
    let small : length (w.bytes.items ++ piece) ≤ snapshot_limit = omega (arith, c.if-count-gt-SNAPSHOT_LIMIT.false, c.saturating_add-count.ensures, c.len.ensures, w.bytes.ok.0, len) in
    let count : c.saturating_add-count.result ≡ length (w.bytes.items ++ piece) = omega (arith, c.if-count-gt-SNAPSHOT_LIMIT.false, c.saturating_add-count.ensures, c.len.ensures, w.bytes.ok.0, len) in
    came_refused (w.bytes.items ++ piece) c.saturating_add-count.result r (bytes_append w.bytes.items piece c.requires.bytes_are (λ i. omega (arith, c.type_inv.piece i))) small count through
