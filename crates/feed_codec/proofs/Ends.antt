-- At the end of a snapshot nothing is wrong, by the message that it means.
use Rattle.std.proofs.Common.{◌≡◌, ℕ, List, [], ◌∷◌, length, refl, Bool, true, false, sym, ap, ◌∙◌}
use Rattle.rt_wire.specs.Placed.{placed_fields}
use Rattle.feed_values.specs.declared.feed_message.FeedMessage.{FeedMessage}
use Rattle.feed_values.specs.Schema.{Value}
use Rattle.feed_values.specs.Messages.{feed_message}
use Rattle.feed_values.specs.Meaning.{fields, meaning}
use Rattle.feed_values.specs.Accepted.{header_fields, is_one, is_differential}
use Rattle.feed_values.specs.Snapshot.{incrementality_of}
use Rattle.feed_values.specs.Views.{natural, feed_message_value}
use Rattle.feed_codec.specs.Paths.{has_payload, holds, is_payload}
use Rattle.feed_codec.specs.Refusal.{first_in, in_payload, part_fault, end_fault}
use Rattle.feed_codec.proofs.ValidTexts.{nothing}
use Rattle.feed_codec.proofs.Snapshots.{end_at}
use Rattle.feed_codec.proofs.Roundtrips.{full_as}

pub ends_well : (bytes : List ℕ) (at : ℕ) (message : FeedMessage) → first_in (in_payload part_fault) (placed_fields bytes) ≡ nothing
    → feed_message_value message ≡ meaning feed_message (fields bytes) → has_payload 1 (fields bytes) ≡ true → holds (1 ∷ []) (is_payload 1) (fields bytes) ≡ true
    → is_one (natural message.header.incrementality) ≡ false → end_fault at (fields bytes) ≡ nothing
ends_well bytes at message fine value header version full =
    let whole : is_differential (header_fields (fields bytes)) ≡ false = sym (full_as (fields bytes)) ∙ sym (ap (λ (w : Value feed_message). is_one (incrementality_of w.0)) value) ∙ full in
    end_at at bytes fine ∙ rw (header, version, whole) refl
