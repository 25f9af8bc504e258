use Rattle.std.proofs.Common.{◌≡◌, ◌≤◌, ◌++◌, drop, false, length, map}
use Rattle.feed_values.specs.Snapshot.{entity_of, entity_payloads, header_of}
use Rattle.feed_json.specs.Pieces.{array_from, entity_piece, header_piece}
use Rattle.run_base.specs.Sending.{SendsText}
use Rattle.run_json.proofs.sending.send_counted.Given as goal

-- what was sent, what is held back and the text of what is left are all
abbrev pub invariant-loop-place : goal.invariant-loop-place
invariant-loop-place g l =
    let end = header_piece (header_of l.kept) in
    let ps = entity_payloads l.kept in
    record {
      sent : SendsText (g.S.Sink.state l.fn.out).written (g.S.Sink.state l.out).written (l.fn.held.items ++ array_from entity_piece end false (map entity_of ps))
          (l.held.items ++ array_from entity_piece end l.later (map entity_of (drop l.place ps)));
      later : (g.S.Sink.state l.fn.out).faults ≤ (g.S.Sink.state l.out).faults;
      many : l.place-end ≡ length ps;
      within : l.place ≤ length ps;
    }
