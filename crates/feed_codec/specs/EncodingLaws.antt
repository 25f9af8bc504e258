-- The laws that join encoding and decoding. Each is the contract of a public function with an empty body.
use Rattle.std.specs.Prelude.{◌≡◌, ◌↔◌, ℕ, ◌≤◌, ◌<◌, ◌^◌, List, length, None, Result, IfOk, MatchResult}
use Rattle.rt_wire.specs.Fields.{IsBytes}
use Rattle.feed_values.specs.declared.feed_message.FeedMessage.{FeedMessage}
use Rattle.feed_values.specs.Schema.{Schema, Value, Rises}
use Rattle.feed_values.specs.Messages.{feed_message}
use Rattle.feed_values.specs.Meaning.{fields, meaning}
use Rattle.feed_values.specs.Accepted.{IsMessage, missing, snapshot_limit}
use Rattle.feed_values.specs.Snapshot.{snapshot_value}
use Rattle.feed_values.specs.Views.{unknown_field, translation_value, translated_string_value, time_range_value, trip_descriptor_value}
use Rattle.feed_values.specs.Views.{vehicle_descriptor_value, entity_selector_value, alert_value, position_value, vehicle_position_value}
use Rattle.feed_values.specs.Views.{stop_time_event_value, stop_time_properties_value, stop_time_update_value, trip_properties_value, trip_update_value, entity_value, feed_header_value}
use Rattle.feed_values.specs.Views.{feed_message_value}
use Rattle.feed_values.specs.Canonical.{canonical}
use Rattle.feed_values.specs.WellFormed.{IsWellFormed, IsWellFormedFeed}
use Rattle.feed_codec.specs.declared.codec_fault.CodecFault.{CodecFault}
use Rattle.feed_codec.specs.declared.codec_fault.CodecFault.TheVariants.{Memory}
use Rattle.feed_codec.specs.Refusal.{refusal}
use Rattle.feed_codec.specs.Decoded.{Decodes}
use Rattle.feed_codec.specs.Encoding.{TagsFit}

-- Some bytes are bytes, and whole fields of a message with nothing required missing, and mean a value.
pub record Means (s : Schema) (bytes : List ℕ) (v : Value s) : Type 0 where
  pub bytes_are : IsBytes bytes
  pub message : IsMessage s bytes
  pub complete : missing s (fields bytes) ≡ None
  pub value : meaning s (fields bytes) ≡ v

-- The canonical bytes of a well-formed value mean the value, for every table of slots and for that of a snapshot.
pub record CanonicalMeansValue : Type 0 where
  pub every : (s : Schema) → Rises 0 s → TagsFit s → (v : Value s) → IsWellFormed s v → length (canonical s v) < 2 ^ 64
      → Means s (canonical s v) v
  pub snapshot : (v : Value feed_message) → IsWellFormed feed_message v → length (canonical feed_message v) < 2 ^ 64
      → Means feed_message (canonical feed_message v) v

-- What an accepted snapshot says is well formed, and short enough to be written.
pub record AcceptedIsWellFormed : Type 0 where
  pub value : (bytes : List ℕ) → IsBytes bytes → refusal bytes ≡ None → IsWellFormedFeed (snapshot_value bytes)
  pub short : (bytes : List ℕ) → IsBytes bytes → refusal bytes ≡ None → length (canonical feed_message (snapshot_value bytes)) < 2 ^ 64
  pub decoded : (bytes : List ℕ) (answer : Result FeedMessage CodecFault) → IsBytes bytes
      → Decodes feed_message_value answer (refusal bytes) (snapshot_value bytes)
      → IfOk answer (λ message. IsWellFormedFeed (feed_message_value message))

-- The canonical bytes of a well-formed snapshot, where they fit its limit, are accepted and say it; what is decoded of them
-- is the very message that they were written from, or memory is wanting.
pub record EncodedDecodes : Type 0 where
  pub accepted : (v : Value feed_message) → IsWellFormedFeed v → length (canonical feed_message v) ≤ snapshot_limit
      → refusal (canonical feed_message v) ≡ None
  pub value : (v : Value feed_message) → IsWellFormedFeed v → length (canonical feed_message v) ≤ snapshot_limit
      → snapshot_value (canonical feed_message v) ≡ v
  pub decoded : (message : FeedMessage) (bytes : List ℕ) (answer : Result FeedMessage CodecFault)
      → IsWellFormedFeed (feed_message_value message) → bytes ≡ canonical feed_message (feed_message_value message)
      → length bytes ≤ snapshot_limit
      → Decodes feed_message_value answer (refusal bytes) (snapshot_value bytes)
      → MatchResult answer (λ again. again ≡ message) (λ fault. fault ≡ Memory)

-- Accepted snapshots have the same canonical bytes exactly where they say the same, also as messages.
pub record CanonicalDecides : Type 0 where
  pub values : (a b : List ℕ) → IsBytes a → IsBytes b → refusal a ≡ None → refusal b ≡ None
      → (canonical feed_message (snapshot_value a) ≡ canonical feed_message (snapshot_value b)) ↔ (snapshot_value a ≡ snapshot_value b)
  pub messages : (a b : List ℕ) (m n : FeedMessage) → IsBytes a → IsBytes b → refusal a ≡ None → refusal b ≡ None
      → feed_message_value m ≡ snapshot_value a → feed_message_value n ≡ snapshot_value b
      → (canonical feed_message (feed_message_value m) ≡ canonical feed_message (feed_message_value n)) ↔ (m ≡ n)

-- things that look the same are the same
abbrev pub IsOneToOne : {A B : Type 0} → (A → B) → Type 0
IsOneToOne {A} f = (x y : A) → f x ≡ f y → x ≡ y

-- Messages that hold the same values are the same, kind by kind.
pub record ValuesAreFaithful : Type 0 where
  pub unknown : IsOneToOne unknown_field
  pub translation : IsOneToOne translation_value
  pub translated_string : IsOneToOne translated_string_value
  pub time_range : IsOneToOne time_range_value
  pub trip_descriptor : IsOneToOne trip_descriptor_value
  pub vehicle_descriptor : IsOneToOne vehicle_descriptor_value
  pub entity_selector : IsOneToOne entity_selector_value
  pub alert : IsOneToOne alert_value
  pub position : IsOneToOne position_value
  pub vehicle_position : IsOneToOne vehicle_position_value
  pub stop_time_event : IsOneToOne stop_time_event_value
  pub stop_time_properties : IsOneToOne stop_time_properties_value
  pub stop_time_update : IsOneToOne stop_time_update_value
  pub trip_properties : IsOneToOne trip_properties_value
  pub trip_update : IsOneToOne trip_update_value
  pub entity : IsOneToOne entity_value
  pub feed_header : IsOneToOne feed_header_value
  pub snapshot : IsOneToOne feed_message_value
