-- No entity of a snapshot is lost.
use Rattle.std.specs.Prelude.{◌≡◌, ℕ, List, ◌∷◌, ◌++◌, length, Some}
use Rattle.feed_values.specs.Snapshot.{entity_payloads}
use Rattle.rule_history.specs.History.{Snapshot, id_of, count_id, entities}
use Rattle.rule_history.specs.Answered.{payload_under}

-- A feed has as many entities as its last snapshot has byte strings of entities, and each byte string stands under the
-- feed, its id, and how many byte strings before it have that id.
pub record LosesNone (h : List Snapshot) (s : Snapshot) : Type 0 where
  pub as_many : length (entities h s.feed) ≡ length (entity_payloads s.bytes)
  pub each : (before after : List (List ℕ)) (p : List ℕ) → entity_payloads s.bytes ≡ before ++ p ∷ after →
      payload_under (record { feed = s.feed; id = id_of p; occurrence = count_id before (id_of p) }) (entities h s.feed) ≡ Some p
