use Rattle.std.proofs.Common.{◌≡◌, ◌≤◌, ℕ, List, length, take}
use Rattle.feed_values.specs.Snapshot.{entities_of, entity_payloads}
use Rattle.judging.specs.Seats.{count_id}
use Rattle.rule_table.specs.Counts.{count_in}
use Rattle.timetable.specs.Lookups.{tables_in}
use Rattle.trip_calendar.specs.Zones.{zone_of}
use Rattle.run_predict.proofs.Texts.{SoFar}
use Rattle.run_predict.proofs.prediction.put_entities.Given as goal

-- the rows of the entities so far are written, and each id so far is counted
abbrev pub invariant-loop-place : goal.invariant-loop-place
invariant-loop-place g l = record {
  so_far : SoFar (tables_in l.table) (zone_of l.zone) l.moment (entities_of l.kept) (g.S.Sink.state l.fn.out).written (g.S.Sink.state l.out).written l.place;
  counted : (id : List ℕ) → count_in l.counts id ≡ count_id (take l.place (entities_of l.kept)) id;
  later : (g.S.Sink.state l.fn.out).faults ≤ (g.S.Sink.state l.out).faults;
  small : l.place-end ≡ length (entity_payloads l.kept);
  within : l.place ≤ length (entity_payloads l.kept);
}

-- what decoding counts is counted by a ledger of the call's own
abbrev pub ghosts-entity_at : goal.ghosts-entity_at
ghosts-entity_at g a = record { name = a.blank.name; parts = a.blank.parts }
