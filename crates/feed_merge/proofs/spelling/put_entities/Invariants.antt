use Rattle.std.proofs.Common.{◌≡◌, ◌++◌, ◌≤◌, length}
use Rattle.feed_values.specs.Snapshot.{entity_payloads}
use Rattle.feed_merge.specs.Spelled.{entities_spelled}
use Rattle.feed_merge.proofs.Parts.{kept_front}
use Rattle.feed_merge.proofs.spelling.put_entities.Given as goal

-- the entities so far are written
abbrev pub invariant-loop-place : goal.invariant-loop-place
invariant-loop-place l = record {
  written : l.bytes.items ≡ l.fn.bytes.items ++ entities_spelled (kept_front l.number l.feed l.place);
  many : l.place-end ≡ length (entity_payloads l.feed);
  within : l.place ≤ length (entity_payloads l.feed);
}

-- what decoding counts is counted by a ledger of the call's own
abbrev pub ghosts-decoded : goal.ghosts-decoded
ghosts-decoded a = record { name = a.blank.name; parts = a.blank.parts }
