-- The header of a kept snapshot.
use Rattle.std.proofs.Common.{◌≡◌, ℕ, List, None, sym, ap, ◌∙◌}
use Rattle.std.specs.List.{AllByRecursion, concat}
use Rattle.rt_wire.specs.Fields.{IsBytes}
use Rattle.feed_values.specs.Messages.{feed_header}
use Rattle.feed_values.specs.Meaning.{fields, meaning}
use Rattle.feed_values.specs.Accepted.{header_fields}
use Rattle.feed_values.specs.Snapshot.{header_of}
use Rattle.feed_values.proofs.SnapshotFields.{snapshot_is_its_fields}
use Rattle.feed_codec.specs.Refusal.{refusal}
use Rattle.feed_codec.specs.Parts.{Passed, IsJoined}
use Rattle.feed_codec.proofs.Bytes.{bytes_concat, fields_bytes, given_bytes}
use Rattle.feed_codec.proofs.Joining.{parts_decide}
use Rattle.feed_codec.proofs.SnapshotFaults.{refusal_is_first}
use Rattle.feed_stream.specs.Payloads.{header_payloads}
use Rattle.feed_stream.proofs.Passing.{accepted_passes}

header_passes : (bytes : List ℕ) → refusal bytes ≡ None → Passed (header_payloads bytes)
header_passes bytes accepted = accepted_passes 1 bytes accepted

pub is_joined : (bytes parts : List ℕ) → refusal bytes ≡ None → parts ≡ concat (header_payloads bytes) → IsJoined parts
is_joined bytes parts accepted e = (header_payloads bytes, header_passes bytes accepted, e)

-- what the joined payloads mean is the header that the snapshot says
pub header_means : (bytes parts : List ℕ) → IsBytes bytes → refusal bytes ≡ None → parts ≡ concat (header_payloads bytes) → meaning feed_header (fields parts) ≡ header_of bytes
header_means bytes parts ok accepted e =
    let whole = ((refusal_is_first.accepted bytes ok).0 accepted).whole in
    let same : fields bytes ≡ whole.0 = snapshot_is_its_fields.fields whole.0 bytes whole.1 in
    let each : AllByRecursion IsBytes (header_payloads bytes) = rw same (given_bytes 1 whole.0 (fields_bytes whole.0 bytes whole.1 ok)) in
    let joined : fields parts ≡ header_fields (fields bytes) =
    ap fields e ∙ parts_decide.joined (header_payloads bytes) (bytes_concat (header_payloads bytes) each) (header_passes bytes accepted) in
    ap (meaning feed_header) joined ∙ ap (λ l. meaning feed_header (header_fields l)) same ∙ sym (snapshot_is_its_fields.header whole.0 bytes whole.1)
