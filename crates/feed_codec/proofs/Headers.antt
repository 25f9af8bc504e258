-- What a header gives, field by field.
use Rattle.std.proofs.Common.{◌≡◌, ℤ, cond, List, [], ◌∷◌, ◌++◌, Option, Some, None, refl, sym, ap, ◌∙◌}
use Rattle.std.specs.Option.{option_or}
use Rattle.std.specs.List.{flat_map}
use Rattle.std.proofs.lemmas.List.Concat.{flat_map-append}
use Rattle.rt_wire.specs.Fields.{WireField}
use Rattle.feed_values.specs.declared.required.Required.TheVariants as required
use Rattle.feed_values.specs.Schema.{Needed, Enum}
use Rattle.feed_values.specs.Messages.{feed_header}
use Rattle.feed_values.specs.Meaning.{fields, given, in_slot, payload_in, scalar_in, last_of}
use Rattle.feed_values.specs.Accepted.{absent, missing, incrementalities, header_fields}
use Rattle.feed_codec.specs.Paths.{has_payload}
use Rattle.feed_codec.proofs.Meanings.{given-append}
use Rattle.feed_codec.proofs.RequiredSlots.{slot_missing, nothing_else}

pub header_missing : (l : List WireField) → missing feed_header l ≡ cond (has_payload 1 l) None (Some required.Version)
header_missing l = nothing_else (absent (Needed required.Version) (given (in_slot payload_in 1) l)) None refl ∙ slot_missing required.Version (in_slot payload_in 1) l

-- ---- the last of a list, piece by piece

or_none : {A : Type 0} (o : Option A) → option_or o None ≡ o
or_none None = refl
or_none (Some x) = refl

or_assoc : {A : Type 0} (a b c : Option A) → option_or (option_or a b) c ≡ option_or a (option_or b c)
or_assoc None b c = refl
or_assoc (Some y) b c = refl

-- the last of two lists is that of the second, or else that of the first
pub last_of-append : {A : Type 0} (xs ys : List A) → last_of (xs ++ ys) ≡ option_or (last_of ys) (last_of xs)
last_of-append [] ys = sym (or_none (last_of ys))
last_of-append (x ∷ xs) ys = ap (λ o. option_or o (Some x)) (last_of-append xs ys) ∙ or_assoc (last_of ys) (last_of xs) (Some x)

-- what lists give, where it is given piece by piece
abbrev pub GivesInPieces : (List WireField → List ℤ) → Type 0
GivesInPieces gives = (f : WireField) (l : List WireField) → gives (f ∷ l) ≡ gives (f ∷ []) ++ gives l

pub incrementalities_pieces : GivesInPieces incrementalities
incrementalities_pieces f l = given-append (in_slot (scalar_in (Enum 0 1)) 2) (f ∷ []) l

pub header_pieces : GivesInPieces (λ l. incrementalities (header_fields l))
header_pieces f l =
    ap (λ ps. incrementalities (flat_map fields ps)) (given-append (in_slot payload_in 1) (f ∷ []) l)
    ∙ ap incrementalities (flat_map-append fields (given (in_slot payload_in 1) (f ∷ [])) (given (in_slot payload_in 1) l))
    ∙ given-append (in_slot (scalar_in (Enum 0 1)) 2) (header_fields (f ∷ [])) (header_fields l)

-- at the beginning of a loop nothing is held
pub starts : (o : Option ℤ) → option_or o None ≡ o
starts = or_none

-- the next field is taken
pub goes_on : (gives : List WireField → List ℤ) → GivesInPieces gives → (f : WireField) (l : List WireField) (old new whole : Option ℤ)
    → new ≡ option_or (last_of (gives (f ∷ []))) old → option_or (last_of (gives (f ∷ l))) old ≡ whole → option_or (last_of (gives l)) new ≡ whole
goes_on gives pieces f l old new whole e h =
    ap (λ o. option_or (last_of (gives l)) o) e ∙ sym (or_assoc (last_of (gives l)) (last_of (gives (f ∷ []))) old)
    ∙ ap (λ o. option_or o old) (sym (ap last_of (pieces f l) ∙ last_of-append (gives (f ∷ [])) (gives l))) ∙ h
