-- What a snapshot is refused for at its end, where it was gone through.
use Rattle.std.proofs.Common.{◌≡◌, ℕ, ◌≤◌, List, [], ◌∷◌, ◌++◌, length, take, drop, append-nil, Option, Some, None, refl, sym, ap, subst, ◌∙◌}
use Rattle.std.specs.Option.{option_or}
use Rattle.std.proofs.lemmas.List.{take-append-drop}
use Rattle.rt_wire.specs.declared.fault.WireFault.{WireFault}
use Rattle.rt_wire.specs.Fields.{IsBytes, Joins, Spells}
use Rattle.rt_wire.specs.Placed.{placed_fields}
use Rattle.feed_values.specs.Meaning.{fields, given, in_slot, payload_in}
use Rattle.feed_values.specs.Accepted.{snapshot_limit}
use Rattle.feed_codec.specs.declared.refusal.Refusal.{Refusal}
use Rattle.feed_codec.specs.Refusal.{first_in, in_payload, own_fault, part_fault, refusal}
use Rattle.feed_codec.specs.FirstFault.{no_field, in_field}
use Rattle.feed_codec.specs.Parts.{header_end}
use Rattle.feed_codec.proofs.Firsts.{faultless_none}
use Rattle.feed_codec.proofs.Joining.{parts_decide}
use Rattle.feed_codec.proofs.SnapshotFaults.{parts_agree, refused_is}
use Rattle.feed_stream.specs.declared.layout.Layout.{Layout}
use Rattle.feed_stream.specs.Ends.{header_end_fault}
use Rattle.feed_stream.specs.Layouts.{IsLayoutOf, IsLayout}
use Rattle.feed_stream.specs.Parts.{header_held}
use Rattle.feed_stream.specs.Payloads.{header_payloads, joined_header}
use Rattle.feed_stream.specs.Walks.{WalkedTo, EndsEarly}
use Rattle.feed_stream.proofs.Payloads.{payloads_given}
use Rattle.feed_stream.proofs.Walked.{first_in_front}

-- bytes that end too early are refused for that
pub refused_early : (bytes : List ℕ) (next : ℕ) (f : WireFault) → IsBytes bytes → length bytes ≤ snapshot_limit → WalkedTo bytes next → EndsEarly bytes next (Some f) → refusal bytes ≡ Some (own_fault f)
refused_early bytes next f ok small w e =
    refused_is bytes (own_fault f) ok (in_field small (first_in_front bytes next w (own_fault f) (own_fault e.0) (no_field e.0 e.1 refl) (ap own_fault e.2)))

pub all_taken : (bytes : List ℕ) (next : ℕ) → drop next bytes ≡ [] → take next bytes ≡ bytes
all_taken bytes next e = sym (append-nil (take next bytes)) ∙ ap (λ (l : List ℕ). take next bytes ++ l) (sym e) ∙ take-append-drop next bytes

pub laid_whole : (bytes : List ℕ) (next : ℕ) (layout : Layout) → drop next bytes ≡ [] → IsLayoutOf bytes (placed_fields (take next bytes)) layout → IsLayout bytes layout
laid_whole bytes next layout e l = subst (λ (b : List ℕ). IsLayoutOf bytes (placed_fields b) layout) (all_taken bytes next e) l

end_by_header : (at : ℕ) (ps : List (List ℕ)) → header_end at ps ≡ header_end_fault at (joined_header ps)
end_by_header at [] = refl
end_by_header at (p ∷ ps) = refl

parts_none : (bytes : List ℕ) (next : ℕ) → IsBytes bytes → WalkedTo bytes next → drop next bytes ≡ [] → first_in (in_payload part_fault) (placed_fields bytes) ≡ None
parts_none bytes next ok w e =
    faultless_none parts_agree bytes ok (w.fields, subst (λ (b : List ℕ). Joins (Spells 100) w.fields b) (all_taken bytes next e) w.joins, w.whole)

-- where all fields are whole, the header decides
pub end_decides : (bytes : List ℕ) (next : ℕ) (layout : Layout) → IsBytes bytes → length bytes ≤ snapshot_limit → WalkedTo bytes next → drop next bytes ≡ [] → IsLayout bytes layout
    → refusal bytes ≡ header_end_fault (length bytes) (header_held bytes layout.header)
unfolding fields
end_decides bytes next layout ok small w e l =
    parts_decide.refused bytes ok small
    ∙ ap (λ (o : Option Refusal). option_or o (header_end (length bytes) (given (in_slot payload_in 1) (fields bytes)))) (parts_none bytes next ok w e)
    ∙ end_by_header (length bytes) (header_payloads bytes)
    ∙ ap (λ (h : Option (List ℕ)). header_end_fault (length bytes) h) (ap joined_header (sym (payloads_given 1 (placed_fields bytes))) ∙ sym l.header)
