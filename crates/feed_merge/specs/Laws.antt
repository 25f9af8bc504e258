-- What the union of feeds is, in the words of who reads it. Each law is the contract of a public function with an empty body.
use Rattle.std.specs.Prelude.{◌≡◌, ℕ, ◌≤◌, ◌<◌, ℤ, ◌≤ℤ◌, List, [], ◌∷◌, ◌++◌, length, filter, sum_by, Option, Some, None, Result, MatchResult, slice_get, bytes_eq, Contains}
use Rattle.std.specs.Option.{option_map}
use Rattle.std.specs.List.{All, AllByRecursion}
use Rattle.feed_values.specs.declared.feed_message.FeedMessage.{FeedMessage}
use Rattle.feed_values.specs.Schema.{Value}
use Rattle.feed_values.specs.Messages.{feed_message, entity}
use Rattle.feed_values.specs.Accepted.{snapshot_limit}
use Rattle.feed_values.specs.Canonical.{canonical}
use Rattle.feed_values.specs.Snapshot.{snapshot_value}
use Rattle.feed_values.specs.Views.{feed_message_value}
use Rattle.feed_values.specs.WellFormed.{IsWellFormedFeed}
use Rattle.feed_codec.specs.declared.codec_fault.CodecFault.{CodecFault}
use Rattle.feed_codec.specs.declared.codec_fault.CodecFault.TheVariants.{Memory}
use Rattle.feed_codec.specs.Decoded.{Decodes}
use Rattle.feed_codec.specs.Refusal.{refusal}
use Rattle.feed_merge.specs.Union.{feed_limit, prefixed_id, prefixed, entities_in, united_from, stamps_in, greatest_stamp, united}

-- ---- ids
-- Two ids of the union are the same only where they come from the same feed and the same id.
pub record IdsStayApart : Type 0 where
  pub feeds : (f g : ℕ) (i j : List ℕ) → f < feed_limit → g < feed_limit → prefixed_id f i ≡ prefixed_id g j → f ≡ g
  pub ids : (f g : ℕ) (i j : List ℕ) → f < feed_limit → g < feed_limit → prefixed_id f i ≡ prefixed_id g j → i ≡ j

-- ---- entities
-- the entities that have an id, in order
abbrev pub with_id : List ℕ → List (Value entity) → List (Value entity)
with_id id es = filter (λ e. bytes_eq e.0 id) es

-- the entity of an id before which so many of that id stand
abbrev pub entity_under : List ℕ → ℕ → List (Value entity) → Option (Value entity)
entity_under id occurrence es = slice_get (with_id id es) occurrence

-- an entity of the union is that of an id and an occurrence of a feed
pub record ComesFrom (vs : List (Value feed_message)) (id : List ℕ) (occurrence : ℕ) (x : Value entity) : Type 0 where
  pub feed : ℕ
  pub snapshot : Value feed_message
  pub old_id : List ℕ
  pub e : Value entity
  pub feed_is : slice_get vs feed ≡ Some snapshot
  pub id_is : id ≡ prefixed_id feed old_id
  pub entity_is : entity_under old_id occurrence (entities_in snapshot) ≡ Some e
  pub same : x ≡ prefixed feed e

pub record UnionKeepsEntities : Type 0 where
  -- an entity is found by its id and by how many before it have that id
  pub found : (before after : List (Value entity)) (e : Value entity) → entity_under e.0 (length (with_id e.0 before)) (before ++ e ∷ after) ≡ Some e
  -- what a feed has under an id and an occurrence, the union has under the prefixed id and that occurrence
  pub kept : (vs : List (Value feed_message)) (f : ℕ) (v : Value feed_message) → length vs ≤ feed_limit → slice_get vs f ≡ Some v →
      (id : List ℕ) (occurrence : ℕ) → entity_under (prefixed_id f id) occurrence (united_from 0 vs) ≡ option_map (prefixed f) (entity_under id occurrence (entities_in v))
  -- it has nothing else
  pub only : (vs : List (Value feed_message)) → length vs ≤ feed_limit → (id : List ℕ) (occurrence : ℕ) (x : Value entity) →
      entity_under id occurrence (united_from 0 vs) ≡ Some x → ComesFrom vs id occurrence x
  pub as_many : (vs : List (Value feed_message)) → length (united_from 0 vs) ≡ sum_by (λ v. length (entities_in v)) vs

-- ---- the timestamp
-- It isn't given only where no header gives one. Else it is one of those that are given, and none of them is above it.
pub record StampIsGreatest : Type 0 where
  pub none : (vs : List (Value feed_message)) → greatest_stamp vs ≡ None → stamps_in vs ≡ []
  pub given : (vs : List (Value feed_message)) (z : ℤ) → greatest_stamp vs ≡ Some z → Contains (stamps_in vs) z
  pub greatest : (vs : List (Value feed_message)) (z : ℤ) → greatest_stamp vs ≡ Some z → All (λ y. y ≤ℤ z) (stamps_in vs)

-- ---- bytes
-- The union of well-formed snapshots is well formed. Its canonical bytes, where they fit the limit of a snapshot, are accepted and
-- say it; what is decoded of them is the very message that `merge` gives, or memory is wanting.
pub record UnionDecodes : Type 0 where
  pub well_formed : (vs : List (Value feed_message)) → length vs ≤ feed_limit → AllByRecursion IsWellFormedFeed vs → IsWellFormedFeed (united vs)
  pub accepted : (vs : List (Value feed_message)) → length vs ≤ feed_limit → AllByRecursion IsWellFormedFeed vs →
      length (canonical feed_message (united vs)) ≤ snapshot_limit → refusal (canonical feed_message (united vs)) ≡ None
  pub value : (vs : List (Value feed_message)) → length vs ≤ feed_limit → AllByRecursion IsWellFormedFeed vs →
      length (canonical feed_message (united vs)) ≤ snapshot_limit → snapshot_value (canonical feed_message (united vs)) ≡ united vs
  pub decoded : (vs : List (Value feed_message)) (message : FeedMessage) (bytes : List ℕ) (answer : Result FeedMessage CodecFault) →
      length vs ≤ feed_limit → AllByRecursion IsWellFormedFeed vs → feed_message_value message ≡ united vs → bytes ≡ canonical feed_message (united vs) →
      length bytes ≤ snapshot_limit → Decodes feed_message_value answer (refusal bytes) (snapshot_value bytes) →
      MatchResult answer (λ again. again ≡ message) (λ fault. fault ≡ Memory)
