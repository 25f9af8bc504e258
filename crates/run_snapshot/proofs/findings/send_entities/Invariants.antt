use Rattle.std.proofs.Common.{◌≡◌, ◌+◌, ◌*◌, ◌≤◌, drop, length}
use Rattle.feed_values.specs.Views.{feed_header_value}
use Rattle.rule_history.specs.Answered.{tables_of}
use Rattle.snapshot_keys.specs.judging.Judged.{first_heads, found_at_seats}
use Rattle.snapshot_keys.specs.Places.{AreWithin, placed}
use Rattle.run_snapshot.proofs.Sent.{Left}
use Rattle.run_snapshot.proofs.findings.send_entities.Given as goal

-- what was sent, the lines that are held back and those of the entities that are left are all; so is what was decoded and tested with
-- what the entities that are left ask for
abbrev pub invariant-loop-place : goal.invariant-loop-place
invariant-loop-place g l =
    let t = tables_of l.setting.table.now in
    let rows = g.P.PairView.rows l.setting.view.now in
    let heads = first_heads (feed_header_value l.setting.header.now) l.setting.moment in
    record {
      left : Left (g.S.Sink.state l.fn.out).written l.fn.lines (found_at_seats t rows heads (placed l.kept l.places))
          (g.S.Sink.state l.out).written l.lines (found_at_seats t rows heads (placed l.kept (drop l.place-index l.places)));
      within : AreWithin l.kept (drop l.place-index l.places);
      decoded : l.decodes + length (drop l.place-index l.places) ≡ l.fn.decodes + length l.places;
      tested : l.tests + 46 * length (drop l.place-index l.places) ≡ l.fn.tests + 46 * length l.places;
      later : (g.S.Sink.state l.fn.out).faults ≤ (g.S.Sink.state l.out).faults;
    }
