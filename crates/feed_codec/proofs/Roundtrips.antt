-- The laws that join encoding and decoding.
use Rattle.std.proofs.Common.{◌≡◌, ℕ, ◌^◌, ◌<◌, ◌≤◌, List, [], ◌∷◌, length, Some, Result, Ok, Err, refl, sym, ap, subst, ◌∙◌, arith, rules}
use Rattle.std.specs.Prelude.{IfOk, MatchResult}
use Rattle.std.specs.List.{flat_map}
use Rattle.std.specs.declared.alloc.AllocError.{AllocError}
use Rattle.rt_wire.specs.Fields.{WireField, IsBytes}
use Rattle.feed_values.specs.declared.required.Required.TheVariants as required
use Rattle.feed_values.specs.declared.feed_message.FeedMessage.{FeedMessage}
use Rattle.feed_values.specs.declared.entity.Entity.{Entity}
use Rattle.feed_values.specs.declared.stop_time_properties.StopTimeProperties.{StopTimeProperties}
use Rattle.feed_values.specs.declared.trip_properties.TripProperties.{TripProperties}
use Rattle.feed_values.specs.Schema.{Schema, Value, Needed, held, blank, Rises}
use Rattle.feed_values.specs.Messages.{feed_message, feed_header, entity, trip_properties, stop_time_properties}
use Rattle.feed_values.specs.Meaning.{fields, in_slot, payload_in, given, joined, slots_of, meaning}
use Rattle.feed_values.specs.Accepted.{header_fields, is_one, is_differential, snapshot_limit}
use Rattle.feed_values.specs.Snapshot.{snapshot_value, incrementality_of}
use Rattle.feed_values.specs.Views.{feed_message_value, entity_value, trip_properties_value, stop_time_properties_value}
use Rattle.feed_values.specs.Canonical.{canonical}
use Rattle.feed_values.specs.WellFormed.{IsWellFormed, IsWellFormedFeed}
use Rattle.feed_codec.specs.declared.codec_fault.CodecFault.{CodecFault}
use Rattle.feed_codec.specs.declared.codec_fault.CodecFault.TheVariants.{Memory, Refused}
use Rattle.feed_codec.specs.Refusal.{refusal, entity_fault, first_fault}
use Rattle.feed_codec.specs.Decoded.{Decodes}
use Rattle.feed_codec.specs.Encoding.{TagsFit}
use Rattle.feed_codec.specs.EncodingLaws.{Means, CanonicalMeansValue, AcceptedIsWellFormed, EncodedDecodes, CanonicalDecides, ValuesAreFaithful}
use Rattle.feed_codec.proofs.ValidTexts.{nothing}
use Rattle.feed_codec.proofs.SnapshotFaults.{accepted_found, accepted_is, bytes_agree}
use Rattle.feed_codec.proofs.Snapshots.{complete_entity}
use Rattle.feed_codec.proofs.CanonicalFields.{canonical_short}
use Rattle.feed_codec.proofs.Returns.{returns_of}
use Rattle.feed_codec.proofs.CanonicalBytes.{canonical_bytes, canonical_message}
use Rattle.feed_codec.proofs.WellFormedValues.{DefaultsFit, meaning_fits}
use Rattle.feed_codec.proofs.Sizes.{IsSmall, meaning_long}
use Rattle.feed_codec.proofs.OneToOne.{unknown_one, translation_one, translated_string_one, time_range_one, trip_descriptor_one, vehicle_descriptor_one, entity_selector_one, alert_one, position_one, vehicle_position_one, stop_time_event_one, stop_time_properties_one, stop_time_update_one, trip_properties_one, trip_update_one, entity_one, feed_header_one, feed_message_one}

-- ---- the table of a snapshot

feed_rises : Rises 0 feed_message
feed_rises = search rules

feed_tags : TagsFit feed_message
feed_tags = search rules

feed_defaults : DefaultsFit feed_message
feed_defaults = search rules

feed_small : IsSmall feed_message
feed_small = search rules

-- ---- canonical bytes mean their value

means : (s : Schema) → Rises 0 s → TagsFit s → (v : Value s) → IsWellFormed s v → length (canonical s v) < 2 ^ 64 → Means s (canonical s v) v
unfolding meaning
means s h g v fit lt =
    let short = canonical_short s v lt in
    let r = returns_of s v h g fit short in
    record { bytes_are = canonical_bytes s v h g fit short; message = canonical_message s v h g fit short; complete = r.complete; value = r.value }

pub canonical_means_value : CanonicalMeansValue
canonical_means_value = record { every = means; snapshot = means feed_message feed_rises feed_tags }

-- ---- the incrementality

header_one : (ps : List (List ℕ)) → is_one (incrementality_of (held (Needed required.Header) (blank feed_header) (joined (slots_of feed_header feed_header) ps))) ≡ is_differential (flat_map fields ps)
header_one [] = refl
header_one (p ∷ ps) = refl

pub full_as : (l : List WireField) → is_one (incrementality_of (meaning feed_message l).0) ≡ is_differential (header_fields l)
unfolding meaning
full_as l = header_one (given (in_slot payload_in 1) l)

-- ---- what is accepted

accepted_value : (bytes : List ℕ) → IsBytes bytes → refusal bytes ≡ nothing → IsWellFormedFeed (snapshot_value bytes)
accepted_value bytes ok e =
    let a = accepted_found bytes ok e in
    record { message = meaning_fits feed_message bytes feed_rises feed_defaults ok a.whole; full = full_as (fields bytes) ∙ a.full }

accepted_short : (bytes : List ℕ) → IsBytes bytes → refusal bytes ≡ nothing → length (canonical feed_message (snapshot_value bytes)) < 2 ^ 64
accepted_short bytes ok e =
    let a = accepted_found bytes ok e in
    omega (arith, a.small, meaning_long feed_message bytes feed_rises feed_small ok)

decoded_value : (bytes : List ℕ) (answer : Result FeedMessage CodecFault) → IsBytes bytes → Decodes feed_message_value answer (refusal bytes) (snapshot_value bytes) → IfOk answer (λ message. IsWellFormedFeed (feed_message_value message))
decoded_value bytes (Ok message) ok d = rw (d.1) (accepted_value bytes ok d.0)
decoded_value bytes (Err e) ok d = tt

pub decoded_fits : (bytes : List ℕ) (message : FeedMessage) → IsBytes bytes → refusal bytes ≡ nothing → feed_message_value message ≡ meaning feed_message (fields bytes) → IsWellFormedFeed (feed_message_value message)
decoded_fits bytes message ok e is = rw is (accepted_value bytes ok e)

-- ---- one entity

entity_rises : Rises 0 entity
entity_rises = search rules

entity_defaults : DefaultsFit entity
entity_defaults = search rules

pub entity_fits : (p : List ℕ) (answer : Result Entity AllocError) → IsBytes p → entity_fault p ≡ nothing → IfOk answer (λ found. entity_value found ≡ meaning entity (fields p)) → IfOk answer (λ found. IsWellFormed entity (entity_value found))
entity_fits p (Err a) ok e is = tt
entity_fits p (Ok found) ok e is = subst (λ (v : Value entity). IsWellFormed entity v) (sym is) (meaning_fits entity p entity_rises entity_defaults ok ((bytes_agree entity).none p ok (complete_entity p e).0))

-- ---- properties by themselves

properties_fit : {M : Type 0} (s : Schema) (value : M → Value s) (p : List ℕ) (answer : Result M CodecFault) → Rises 0 s → DefaultsFit s → IsBytes p → Decodes value answer (first_fault s p) (meaning s (fields p)) → IfOk answer (λ found. IsWellFormed s (value found))
properties_fit s value p (Err e) rises defaults ok d = tt
properties_fit s value p (Ok found) rises defaults ok d = subst (λ (v : Value s). IsWellFormed s v) (sym d.1) (meaning_fits s p rises defaults ok ((bytes_agree s).none p ok d.0))

pub trip_properties_fit : (p : List ℕ) (answer : Result TripProperties CodecFault) → IsBytes p → Decodes trip_properties_value answer (first_fault trip_properties p) (meaning trip_properties (fields p)) → IfOk answer (λ found. IsWellFormed trip_properties (trip_properties_value found))
trip_properties_fit p answer ok d = properties_fit trip_properties trip_properties_value p answer (search rules) (search rules) ok d

pub stop_time_properties_fit : (p : List ℕ) (answer : Result StopTimeProperties CodecFault) → IsBytes p → Decodes stop_time_properties_value answer (first_fault stop_time_properties p) (meaning stop_time_properties (fields p)) → IfOk answer (λ found. IsWellFormed stop_time_properties (stop_time_properties_value found))
stop_time_properties_fit p answer ok d = properties_fit stop_time_properties stop_time_properties_value p answer (search rules) (search rules) ok d

pub accepted_is_well_formed : AcceptedIsWellFormed
accepted_is_well_formed = record { value = accepted_value; short = accepted_short; decoded = decoded_value }

-- ---- encoding and decoding again

encoded_value : (v : Value feed_message) → IsWellFormedFeed v → length (canonical feed_message v) ≤ snapshot_limit → snapshot_value (canonical feed_message v) ≡ v
encoded_value v fit le = (means feed_message feed_rises feed_tags v fit.message (omega arith)).value

encoded_accepted : (v : Value feed_message) → IsWellFormedFeed v → length (canonical feed_message v) ≤ snapshot_limit → refusal (canonical feed_message v) ≡ nothing
encoded_accepted v fit le =
    let m = means feed_message feed_rises feed_tags v fit.message (omega arith) in
    accepted_is (canonical feed_message v) m.bytes_are (record {
      small = le;
      whole = m.message;
      complete = m.complete;
      full = sym (full_as (fields (canonical feed_message v))) ∙ ap (λ (w : Value feed_message). is_one (incrementality_of w.0)) m.value ∙ fit.full;
    })

decoded_again : (message : FeedMessage) (bytes : List ℕ) (answer : Result FeedMessage CodecFault) → IsWellFormedFeed (feed_message_value message) → bytes ≡ canonical feed_message (feed_message_value message) → length bytes ≤ snapshot_limit
    → Decodes feed_message_value answer (refusal bytes) (snapshot_value bytes) → MatchResult answer (λ again. again ≡ message) (λ fault. fault ≡ Memory)
decoded_again message bytes (Ok again) fit is le d =
    feed_message_one again message (d.1 ∙ ap snapshot_value is ∙ encoded_value (feed_message_value message) fit (omega (arith, ap (λ (l : List ℕ). length l) is)))
decoded_again message bytes (Err Memory) fit is le d = refl
decoded_again message bytes (Err (Refused r)) fit is le d =
    let e : refusal bytes ≡ nothing = ap refusal is ∙ encoded_accepted (feed_message_value message) fit (omega (arith, ap (λ (l : List ℕ). length l) is)) in
    let f : refusal bytes ≡ Some r = d in
    absurd cc

pub encoded_decodes : EncodedDecodes
encoded_decodes = record { accepted = encoded_accepted; value = encoded_value; decoded = decoded_again }

-- ---- equal bytes, equal values

same_value : (a b : List ℕ) → IsBytes a → IsBytes b → refusal a ≡ nothing → refusal b ≡ nothing → canonical feed_message (snapshot_value a) ≡ canonical feed_message (snapshot_value b) → snapshot_value a ≡ snapshot_value b
same_value a b p q e f same =
    sym (means feed_message feed_rises feed_tags (snapshot_value a) (accepted_value a p e).message (accepted_short a p e)).value
    ∙ ap (λ (bytes : List ℕ). meaning feed_message (fields bytes)) same
    ∙ (means feed_message feed_rises feed_tags (snapshot_value b) (accepted_value b q f).message (accepted_short b q f)).value

same_message : (a b : List ℕ) (m n : FeedMessage) → IsBytes a → IsBytes b → refusal a ≡ nothing → refusal b ≡ nothing → feed_message_value m ≡ snapshot_value a → feed_message_value n ≡ snapshot_value b
    → canonical feed_message (feed_message_value m) ≡ canonical feed_message (feed_message_value n) → m ≡ n
same_message a b m n p q e f is_a is_b same =
    feed_message_one m n (is_a ∙ same_value a b p q e f (sym (ap (canonical feed_message) is_a) ∙ same ∙ ap (canonical feed_message) is_b) ∙ sym is_b)

pub canonical_decides : CanonicalDecides
canonical_decides = record {
  values = λ a b p q e f. (same_value a b p q e f, ap (canonical feed_message));
  messages = λ a b m n p q e f is_a is_b. (same_message a b m n p q e f is_a is_b, ap (λ (x : FeedMessage). canonical feed_message (feed_message_value x)));
}

pub values_are_faithful : ValuesAreFaithful
values_are_faithful = record {
  unknown = unknown_one;
  translation = translation_one;
  translated_string = translated_string_one;
  time_range = time_range_one;
  trip_descriptor = trip_descriptor_one;
  vehicle_descriptor = vehicle_descriptor_one;
  entity_selector = entity_selector_one;
  alert = alert_one;
  position = position_one;
  vehicle_position = vehicle_position_one;
  stop_time_event = stop_time_event_one;
  stop_time_properties = stop_time_properties_one;
  stop_time_update = stop_time_update_one;
  trip_properties = trip_properties_one;
  trip_update = trip_update_one;
  entity = entity_one;
  feed_header = feed_header_one;
  snapshot = feed_message_one;
}
