-- Payloads by their ranges.
use Rattle.std.proofs.Common.{◌≡◌, ◌≤◌, ◌+◌, ℕ, Bool, true, false, cond, eqb, List, [], ◌∷◌, ◌++◌, append_assoc, append-nil, map, length, Option, Some, None, Result, Ok, Err, refl, sym, ap, ◌∙◌, arith}
use Rattle.std.proofs.lemmas.List.{map-append}
use Rattle.std.specs.Prelude.{slice_range}
use Rattle.std.specs.Option.{option_map}
use Rattle.std.specs.List.{AllByRecursion}
use Rattle.rt_wire.specs.declared.fault.WireFault.{WireFault}
use Rattle.rt_wire.specs.declared.field.RawField.{RawField}
use Rattle.rt_wire.specs.declared.field.RawValue.{RawValue}
use Rattle.rt_wire.specs.declared.field.RawValue.TheVariants as held
use Rattle.rt_wire.specs.Placed.{PlacedField, PayloadFits, InPlace, LiesIn, placed_field, placed_fields, field_of}
use Rattle.feed_values.specs.Meaning.{fields, whole_fields, given, in_slot, payload_in, option_case}
use Rattle.feed_stream.specs.declared.part.Part.{Part}
use Rattle.feed_stream.specs.Payloads.{Payload, payload_of, payloads_in}
use Rattle.feed_stream.specs.Parts.{IsWithin, part_bytes, payload_at, parts_in}

-- ---- what is handed out, field by field

part_found : (bytes : List ℕ) (body stop : ℕ) (p : List ℕ) (b : Bool) → p ≡ slice_range bytes body stop → (rest : List Payload)
    → map (payload_at bytes) (option_case (cond b (Some p) None) [] (λ q. record { start = body; end = stop } ∷ [])) ++ rest
    ≡ option_case (option_map (λ q. record { base = body; bytes = q }) (cond b (Some p) None)) rest (λ q. q ∷ rest)
part_found bytes body stop p true e rest = ap (λ (q : List ℕ). record { base = body; bytes = q } ∷ rest) (sym e)
part_found bytes body stop p false e rest = refl

none_found : (bytes : List ℕ) (body stop : ℕ) (b : Bool) (rest : List Payload)
    → map (payload_at bytes) (option_case (cond b None None) [] (λ (q : List ℕ). record { start = body; end = stop } ∷ [])) ++ rest
    ≡ option_case (option_map (λ q. record { base = body; bytes = q }) (cond b None None)) rest (λ q. q ∷ rest)
none_found bytes body stop true rest = refl
none_found bytes body stop false rest = refl

found_at : (bytes : List ℕ) (n number start body stop : ℕ) (value : RawValue) → InPlace bytes body stop value → (rest : List Payload)
    → map (payload_at bytes) (parts_in n (record { field = field_of number value; start = start; body = body; stop = stop })) ++ rest
    ≡ option_case (payload_of n (record { field = field_of number value; start = start; body = body; stop = stop })) rest (λ q. q ∷ rest)
found_at bytes n number start body stop (held.Len p) same rest = part_found bytes body stop p.now (eqb number n) same rest
found_at bytes n number start body stop (held.Varint x) same rest = none_found bytes body stop (eqb number n) rest
found_at bytes n number start body stop (held.Fixed64 x) same rest = none_found bytes body stop (eqb number n) rest
found_at bytes n number start body stop (held.Fixed32 x) same rest = none_found bytes body stop (eqb number n) rest
found_at bytes n number start body stop (held.Group p) same rest = none_found bytes body stop (eqb number n) rest

-- a field's range, before the payloads of what is left
pub payloads_in-more : (bytes : List ℕ) (n : ℕ) (f : RawField) → LiesIn bytes f → (rest : List (Result PlacedField WireFault))
    → map (payload_at bytes) (parts_in n (placed_field f)) ++ payloads_in n rest ≡ payloads_in n (Ok (placed_field f) ∷ rest)
payloads_in-more bytes n f lies rest = found_at bytes n f.number f.start f.body f.end f.value lies.same (payloads_in n rest)

-- a step of going through the fields
pub found_more : (bytes : List ℕ) (n : ℕ) (f : RawField) → LiesIn bytes f → (parts : List Part) (rest : List (Result PlacedField WireFault)) (all : List Payload)
    → map (payload_at bytes) parts ++ payloads_in n (Ok (placed_field f) ∷ rest) ≡ all
    → map (payload_at bytes) (parts ++ parts_in n (placed_field f)) ++ payloads_in n rest ≡ all
found_more bytes n f lies parts rest all e =
    ap (λ l. l ++ payloads_in n rest) (map-append (payload_at bytes) parts (parts_in n (placed_field f)))
    ∙ append_assoc (map (payload_at bytes) parts) (map (payload_at bytes) (parts_in n (placed_field f))) (payloads_in n rest)
    ∙ ap (λ l. map (payload_at bytes) parts ++ l) (payloads_in-more bytes n f lies rest) ∙ e

-- at the end all are found
pub all_found : (found rest all : List Payload) → rest ≡ [] → found ++ rest ≡ all → found ≡ all
all_found found rest all e h = sym (append-nil found) ∙ ap (λ l. found ++ l) (sym e) ∙ h

-- ---- ranges lie in the bytes

range_within : (bytes : List ℕ) (body stop size : ℕ) (p : List ℕ) (b : Bool) → body + length p ≡ stop → stop ≤ length bytes
    → AllByRecursion (IsWithin bytes) (option_case (cond b (Some p) None) [] (λ q. record { start = body; end = stop } ∷ []))
range_within bytes body stop size p true fits within = (record { order = omega arith; within = within }, tt)
range_within bytes body stop size p false fits within = tt

no_range : (bytes : List ℕ) (body stop : ℕ) (b : Bool) → AllByRecursion (IsWithin bytes) (option_case (cond b None None) [] (λ (q : List ℕ). record { start = body; end = stop } ∷ []))
no_range bytes body stop true = tt
no_range bytes body stop false = tt

within_at : (bytes : List ℕ) (n number start body stop : ℕ) (value : RawValue) → PayloadFits body stop value → stop ≤ length bytes
    → AllByRecursion (IsWithin bytes) (parts_in n (record { field = field_of number value; start = start; body = body; stop = stop }))
within_at bytes n number start body stop (held.Len p) fits within = range_within bytes body stop (length p.now) p.now (eqb number n) fits within
within_at bytes n number start body stop (held.Varint x) fits within = no_range bytes body stop (eqb number n)
within_at bytes n number start body stop (held.Fixed64 x) fits within = no_range bytes body stop (eqb number n)
within_at bytes n number start body stop (held.Fixed32 x) fits within = no_range bytes body stop (eqb number n)
within_at bytes n number start body stop (held.Group p) fits within = no_range bytes body stop (eqb number n)

all_append : {A : Type 0} (P : A → Type 0) (xs ys : List A) → AllByRecursion P xs → AllByRecursion P ys → AllByRecursion P (xs ++ ys)
all_append P [] ys h k = k
all_append P (x ∷ xs) ys h k = (h.0, all_append P xs ys h.1 k)

pub within_more : (bytes : List ℕ) (n : ℕ) (f : RawField) → LiesIn bytes f → (parts : List Part) → AllByRecursion (IsWithin bytes) parts
    → AllByRecursion (IsWithin bytes) (parts ++ parts_in n (placed_field f))
within_more bytes n f lies parts h =
    all_append (IsWithin bytes) parts (parts_in n (placed_field f)) h (within_at bytes n f.number f.start f.body f.end f.value lies.fits lies.within)

-- ---- the payloads themselves

payload_bytes : (o : Option (List ℕ)) (base : ℕ) (ps : List Payload) (qs : List (List ℕ)) → map (λ p. p.bytes) ps ≡ qs
    → map (λ p. p.bytes) (option_case (option_map (λ q. record { base = base; bytes = q }) o) ps (λ p. p ∷ ps)) ≡ option_case o qs (λ x. x ∷ qs)
payload_bytes None base ps qs e = e
payload_bytes (Some p) base ps qs e = ap (λ (l : List (List ℕ)). p ∷ l) e

pub payloads_given : (n : ℕ) (l : List (Result PlacedField WireFault)) → map (λ p. p.bytes) (payloads_in n l) ≡ given (in_slot payload_in n) (whole_fields l)
payloads_given n [] = refl
payloads_given n (Ok f ∷ rest) = payload_bytes (in_slot payload_in n f.field) f.body (payloads_in n rest) (given (in_slot payload_in n) (whole_fields rest)) (payloads_given n rest)
payloads_given n (Err fault ∷ rest) = refl

pub ranges_bytes : (bytes : List ℕ) (parts : List Part) → map (λ p. p.bytes) (map (payload_at bytes) parts) ≡ map (part_bytes bytes) parts
ranges_bytes bytes [] = refl
ranges_bytes bytes (p ∷ ps) = ap (λ (l : List (List ℕ)). part_bytes bytes p ∷ l) (ranges_bytes bytes ps)

-- ranges of the payloads of slot n give the payloads
pub ranges_give : (bytes : List ℕ) (n : ℕ) (parts : List Part) → map (payload_at bytes) parts ≡ payloads_in n (placed_fields bytes)
    → map (part_bytes bytes) parts ≡ given (in_slot payload_in n) (fields bytes)
unfolding fields
ranges_give bytes n parts e = sym (ranges_bytes bytes parts) ∙ ap (map (λ p. p.bytes)) e ∙ payloads_given n (placed_fields bytes)

ranges_bases : (bytes : List ℕ) (parts : List Part) → map (λ p. p.base) (map (payload_at bytes) parts) ≡ map (λ p. p.start) parts
ranges_bases bytes [] = refl
ranges_bases bytes (p ∷ ps) = ap (λ (l : List ℕ). p.start ∷ l) (ranges_bases bytes ps)

-- and the places where they begin
pub ranges_begin : (bytes : List ℕ) (n : ℕ) (parts : List Part) → map (payload_at bytes) parts ≡ payloads_in n (placed_fields bytes)
    → map (λ p. p.start) parts ≡ map (λ p. p.base) (payloads_in n (placed_fields bytes))
ranges_begin bytes n parts e = sym (ranges_bases bytes parts) ∙ ap (map (λ p. p.base)) e
