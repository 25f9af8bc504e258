-- The canonical bytes of a well-formed message are bytes, and are fields that are whole.
use Rattle.std.proofs.Common.{◌≡◌, ℕ, ◌+◌, ◌*◌, ◌/◌, ◌%◌, ◌^◌, ◌<◌, zero, suc, ℤ, Bool, true, false, cond, eqb, ltb, ◌&&◌, List, [], ◌∷◌, length, Option, Some, None, refl, subst, arith, inl, inr}
use Rattle.std.specs.Prelude.{IfSome}
use Rattle.std.specs.Bool.{MatchBool}
use Rattle.std.specs.Option.{is_some}
use Rattle.std.specs.List.{flat_map, AllByRecursion}
use Rattle.std.specs.Int.{bytes_low_first}
use Rattle.std.specs.Char.{encode_utf8}
use Rattle.std.specs.Str.{IsUtf8, encode_utf8_all, all_scalars}
use Rattle.std.proofs.Math.Utf8.{scalar, scalar_cases}
use Rattle.std.proofs.Math.Nat.{pow-suc}
use Rattle.std.proofs.lemmas.Bool.{eq-eqb, ne_eqb, cases_lt, ltb-true, lt-ltb, le-ltb}
use Rattle.rt_wire.specs.Fields.{WireField, Varint, Fixed64, Len, Group, Fixed32, IsBytes, Joins, Spells}
use Rattle.rt_wire.specs.Fields as wire
use Rattle.rt_wire.specs.Varint.{minimal_for, minimal}
use Rattle.rt_wire.specs.Writing.{spell, tag, spelled_value, FitsWidth}
use Rattle.feed_values.specs.Schema as schema
use Rattle.feed_values.specs.Schema.{Schema, Scalar, Presence, Value, present, Rises}
use Rattle.feed_values.specs.Meaning.{payload_in, in_slot, is_of_slot}
use Rattle.feed_values.specs.Accepted.{IsWhole, IsMessage}
use Rattle.feed_values.specs.Canonical.{scalar_value, spelled_slot, canonical}
use Rattle.feed_values.specs.WellFormed.{NumbersFit, IsUnknown, SlotsFit}
use Rattle.feed_codec.specs.Encoding.{TagsFit}
use Rattle.feed_codec.proofs.Meanings.{not_first}
use Rattle.feed_codec.proofs.CanonicalFields.{field_of, own, listed, canonical_fields, canonical_is, LengthFits, Fits, fields_fit, widths_fit, all_listed, all_map, all_both, all_append, all_true, all_own, own_all, all_front, all_behind, canonical_joins, canonical_short}

-- ---- bytes

abbrev pub AllBytes : List ℕ → Type 0
AllBytes l = AllByRecursion (λ b. b < 256) l

pub bytes_are : (l : List ℕ) → AllBytes l → IsBytes l
bytes_are [] h i = omega arith
bytes_are (x ∷ l) h zero = h.0
bytes_are (x ∷ l) h (suc i) = bytes_are l h.1 i

pub are_bytes : (l : List ℕ) → IsBytes l → AllBytes l
are_bytes [] ok = tt
are_bytes (x ∷ l) ok = (ok 0, are_bytes l (λ i. ok (suc i)))

one_byte : (m : ℕ) → m % 256 < 256
one_byte m = omega arith

low_first : (i k n : ℕ) → AllBytes (bytes_low_first i k n)
low_first i zero n = tt
low_first zero (suc k) n = (one_byte n, low_first 1 k n)
low_first (suc i) (suc k) n = (one_byte (n / 256 ^ suc i), low_first (suc (suc i)) k n)

minimal_bytes_for : (k n : ℕ) → n < 2 * 128 ^ k → AllBytes (minimal_for k n)
unfolding minimal_for
minimal_bytes_for zero n lt = (omega arith, tt)
minimal_bytes_for (suc k) n lt = elim (cases_lt n 128) [
  | inl low ↦ rw (lt-ltb n 128 low) (omega arith, tt)
  | inr high ↦ rw (le-ltb n 128 high) (omega arith, minimal_bytes_for k (n / 128) (omega (arith, pow-suc 128 k)))
]

minimal_bytes : (n : ℕ) → n < 2 ^ 64 → AllBytes (minimal n)
unfolding minimal
minimal_bytes n lt = minimal_bytes_for 9 n (omega arith)

-- ---- texts

either_bytes : (b : Bool) (x y : List ℕ) → (b ≡ true → AllBytes x) → (b ≡ false → AllBytes y) → AllBytes (cond b x y)
either_bytes true x y f g = f refl
either_bytes false x y f g = g refl

encoded_bytes : (c : ℕ) → c < 1114112 → AllBytes (encode_utf8 c)
unfolding encode_utf8
encoded_bytes c lt =
    either_bytes (ltb c 128) _ _ (λ e. (omega (arith, ltb-true c 128 e), tt))
    (λ _. either_bytes (ltb c 2048) _ _ (λ e. (omega (arith, ltb-true c 2048 e), (omega arith, tt)))
    (λ _. either_bytes (ltb c 65536) _ _ (λ e. (omega (arith, ltb-true c 65536 e), (omega arith, (omega arith, tt)))) (λ _. (omega arith, (omega arith, (omega arith, (omega arith, tt)))))))

scalar_small : (c : ℕ) → scalar c ≡ true → c < 1114112
scalar_small c e = elim (scalar_cases c e) [
  | inl low ↦ omega arith
  | inr high ↦ high.1
]

pub both_true : (a b : Bool) → (a && b) ≡ true → (a ≡ true) × (b ≡ true)
both_true true b e = (refl, e)
both_true false b e = absurd cc

text_bytes_of : (cs : List ℕ) → all_scalars cs ≡ true → AllBytes (encode_utf8_all cs)
text_bytes_of [] e = tt
text_bytes_of (c ∷ cs) e =
    let b = both_true (scalar c) (all_scalars cs) e in
    all_append (λ x. x < 256) (encode_utf8 c) (encode_utf8_all cs) (encoded_bytes c (scalar_small c b.0)) (text_bytes_of cs b.1)

text_bytes : (p : List ℕ) → IsUtf8 p → AllBytes p
text_bytes p u = subst (λ (l : List ℕ). AllBytes l) u.1.1 (text_bytes_of u.0 u.1.0)

-- ---- fields

abbrev pub BytesIn : wire.WireValue → Type 0
BytesIn (Len p) = AllBytes p
BytesIn (Group p) = AllBytes p
BytesIn _ = Unit {0}

tag_bytes : (n w : ℕ) → n < 2 ^ 29 → w < 8 → AllBytes (tag n w)
tag_bytes n w small lt = minimal_bytes (n * 8 + w) (omega arith)

value_bytes : (n : ℕ) (x : wire.WireValue) → n < 2 ^ 29 → FitsWidth x → BytesIn x → AllBytes (spelled_value n x)
value_bytes n (Varint k) small fits b = minimal_bytes k fits
value_bytes n (Fixed64 k) small fits b = low_first 0 8 k
value_bytes n (Len p) small fits b = all_append (λ x. x < 256) (minimal (length p)) p (minimal_bytes (length p) fits) b
value_bytes n (Group p) small fits b = all_append (λ x. x < 256) p (tag n 4) b (tag_bytes n 4 small (omega arith))
value_bytes n (Fixed32 k) small fits b = low_first 0 4 k

spelled_bytes : (n : ℕ) (x : wire.WireValue) → n < 2 ^ 29 → FitsWidth x → BytesIn x → AllBytes (spelled_slot n x)
unfolding spell
spelled_bytes n (Varint k) small fits b = all_append (λ x. x < 256) (tag n 0) (spelled_value n (Varint k)) (tag_bytes n 0 small (omega arith)) (value_bytes n (Varint k) small fits b)
spelled_bytes n (Fixed64 k) small fits b = all_append (λ x. x < 256) (tag n 1) (spelled_value n (Fixed64 k)) (tag_bytes n 1 small (omega arith)) (value_bytes n (Fixed64 k) small fits b)
spelled_bytes n (Len p) small fits b = all_append (λ x. x < 256) (tag n 2) (spelled_value n (Len p)) (tag_bytes n 2 small (omega arith)) (value_bytes n (Len p) small fits b)
spelled_bytes n (Group p) small fits b = all_append (λ x. x < 256) (tag n 3) (spelled_value n (Group p)) (tag_bytes n 3 small (omega arith)) (value_bytes n (Group p) small fits b)
spelled_bytes n (Fixed32 k) small fits b = all_append (λ x. x < 256) (tag n 5) (spelled_value n (Fixed32 k)) (tag_bytes n 5 small (omega arith)) (value_bytes n (Fixed32 k) small fits b)

written_bytes : (l : List WireField) → AllByRecursion Fits l → AllByRecursion LengthFits l → AllByRecursion (λ r. BytesIn r.value) l → AllBytes (flat_map spell l)
written_bytes [] f s b = tt
written_bytes (r ∷ l) f s b =
    all_append (λ x. x < 256) (spell r) (flat_map spell l) (spelled_bytes r.number r.value f.0.0.small (widths_fit r.value r.number f.0.1 s.0) b.0) (written_bytes l f.1 s.1 b.1)

scalar_bytes : (t : Scalar) (z : ℤ) → BytesIn (scalar_value t z)
scalar_bytes schema.Bool z = tt
scalar_bytes schema.U32 z = tt
scalar_bytes schema.I32 z = tt
scalar_bytes schema.U64 z = tt
scalar_bytes schema.I64 z = tt
scalar_bytes schema.Bits32 z = tt
scalar_bytes schema.Bits64 z = tt
scalar_bytes (schema.Enum first last) z = tt
scalar_bytes (schema.EnumOr first last more) z = tt

kept_bytes : (x : wire.WireValue) → NumbersFit x → BytesIn x
kept_bytes (Varint n) h = tt
kept_bytes (Fixed64 n) h = tt
kept_bytes (Len p) h = are_bytes p h
kept_bytes (Group p) h = are_bytes p h
kept_bytes (Fixed32 n) h = tt

fields_bytes : (k s : Schema) (low : ℕ) (v : Value s) → Rises low s → TagsFit s → SlotsFit k s v → AllByRecursion LengthFits (canonical_fields s v) → AllByRecursion (λ r. BytesIn r.value) (canonical_fields s v)
fields_bytes k schema.end low v h g fit short = all_map (IsUnknown k) (λ r. BytesIn r.value) (λ r u. kept_bytes r.value u.numbers) v fit
fields_bytes k (schema.scalar n name presence t rest) low v h g fit short =
    let xs = listed (present presence v.0) in
    all_append (λ r. BytesIn r.value) (own n (scalar_value t) xs) (canonical_fields rest v.1)
    (all_own (λ r. BytesIn r.value) n (scalar_value t) xs (all_true (λ z. BytesIn (scalar_value t z)) (scalar_bytes t) xs))
    (fields_bytes k rest n v.1 h.1 g.1 fit.1 (all_behind LengthFits (own n (scalar_value t) xs) (canonical_fields rest v.1) short))
fields_bytes k (schema.text n name presence rest) low v h g fit short =
    let xs = listed (present presence v.0) in
    all_append (λ r. BytesIn r.value) (own n (λ p. Len p) xs) (canonical_fields rest v.1)
    (all_own (λ r. BytesIn r.value) n (λ p. Len p) xs (all_map IsUtf8 AllBytes text_bytes xs (all_listed IsUtf8 (present presence v.0) fit.0)))
    (fields_bytes k rest n v.1 h.1 g.1 fit.1 (all_behind LengthFits (own n (λ p. Len p) xs) (canonical_fields rest v.1) short))
fields_bytes k (schema.message n name presence m rest) low v h g fit short =
    let xs = listed (present presence v.0) in
    let mine = own n (λ w. Len (canonical m w)) xs in
    all_append (λ r. BytesIn r.value) mine (canonical_fields rest v.1)
    (all_own (λ r. BytesIn r.value) n (λ w. Len (canonical m w)) xs (all_both (SlotsFit m m) (λ w. length (canonical m w) < 2 ^ 64) (λ w. AllBytes (canonical m w))
    (λ w f lt. let fits = canonical_short m w lt in rw (canonical_is m w) (written_bytes (canonical_fields m w) (fields_fit m m 0 w h.1 g.1 f) fits (fields_bytes m m 0 w h.1 g.1 f fits)))
    xs (all_listed (SlotsFit m m) (present presence v.0) fit.0) (own_all LengthFits n (λ w. Len (canonical m w)) xs (all_front LengthFits mine (canonical_fields rest v.1) short))))
    (fields_bytes k rest n v.1 h.2 g.2 fit.1 (all_behind LengthFits mine (canonical_fields rest v.1) short))
fields_bytes k (schema.repeated n name m rest) low v h g fit short =
    let mine = own n (λ w. Len (canonical m w)) v.0 in
    all_append (λ r. BytesIn r.value) mine (canonical_fields rest v.1)
    (all_own (λ r. BytesIn r.value) n (λ w. Len (canonical m w)) v.0 (all_both (SlotsFit m m) (λ w. length (canonical m w) < 2 ^ 64) (λ w. AllBytes (canonical m w))
    (λ w f lt. let fits = canonical_short m w lt in rw (canonical_is m w) (written_bytes (canonical_fields m w) (fields_fit m m 0 w h.1 g.1 f) fits (fields_bytes m m 0 w h.1 g.1 f fits)))
    v.0 fit.0 (own_all LengthFits n (λ w. Len (canonical m w)) v.0 (all_front LengthFits mine (canonical_fields rest v.1) short))))
    (fields_bytes k rest n v.1 h.2 g.2 fit.1 (all_behind LengthFits mine (canonical_fields rest v.1) short))

pub canonical_bytes : (s : Schema) (v : Value s) → Rises 0 s → TagsFit s → SlotsFit s s v → AllByRecursion LengthFits (canonical_fields s v) → IsBytes (canonical s v)
canonical_bytes s v h g fit short =
    bytes_are (canonical s v) (rw (canonical_is s v) (written_bytes (canonical_fields s v) (fields_fit s s 0 v h g fit) short (fields_bytes s s 0 v h g fit short)))

-- ---- whole fields

at_number : (n : ℕ) (P Q : Type 0) → P → MatchBool (eqb n n) P Q
at_number n P Q p = rw (eq-eqb n n refl) p

past_number : (a n : ℕ) (P Q : Type 0) → n < a → Q → MatchBool (eqb a n) P Q
past_number a n P Q lt q = rw (ne_eqb a n (omega arith)) q

-- what is of no slot has no payload that a slot asks about
no_slot_here : (b : Bool) (o : Option (List ℕ)) (P : List ℕ → Type 0) (Q : Type 0) → is_some (cond b o None) ≡ false → Q → MatchBool b (IfSome o P) Q
no_slot_here true None P Q e q = tt
no_slot_here true (Some p) P Q e q = absurd cc
no_slot_here false o P Q e q = q

unknown_whole : (s : Schema) (r : WireField) → is_of_slot s r ≡ false → IsWhole s r
unknown_whole schema.end r e = tt
unknown_whole (schema.scalar n name presence t rest) r e = unknown_whole rest r (not_first _ _ e).1
unknown_whole (schema.text n name presence rest) r e = let f = not_first _ _ e in no_slot_here (eqb r.number n) (payload_in r.value) IsUtf8 (IsWhole rest r) f.0 (unknown_whole rest r f.1)
unknown_whole (schema.message n name presence m rest) r e = let f = not_first _ _ e in no_slot_here (eqb r.number n) (payload_in r.value) (IsMessage m) (IsWhole rest r) f.0 (unknown_whole rest r f.1)
unknown_whole (schema.repeated n name m rest) r e = let f = not_first _ _ e in no_slot_here (eqb r.number n) (payload_in r.value) (IsMessage m) (IsWhole rest r) f.0 (unknown_whole rest r f.1)

no_payload_in : (t : Scalar) (z : ℤ) → payload_in (scalar_value t z) ≡ None
no_payload_in schema.Bool z = refl
no_payload_in schema.U32 z = refl
no_payload_in schema.I32 z = refl
no_payload_in schema.U64 z = refl
no_payload_in schema.I64 z = refl
no_payload_in schema.Bits32 z = refl
no_payload_in schema.Bits64 z = refl
no_payload_in (schema.Enum first last) z = refl
no_payload_in (schema.EnumOr first last more) z = refl

none_of : (b : Bool) (o : Option (List ℕ)) → o ≡ None → is_some (cond b o None) ≡ false
none_of true o e = rw e refl
none_of false o e = refl

off : (k n : ℕ) (t : Scalar) (z : ℤ) → is_some (in_slot payload_in k (field_of n (scalar_value t z))) ≡ false
off k n t z = none_of (eqb n k) (payload_in (scalar_value t z)) (no_payload_in t z)

scalar_whole : (s : Schema) (n : ℕ) (t : Scalar) (z : ℤ) → IsWhole s (field_of n (scalar_value t z))
scalar_whole schema.end n t z = tt
scalar_whole (schema.scalar k name presence q rest) n t z = scalar_whole rest n t z
scalar_whole (schema.text k name presence rest) n t z = no_slot_here (eqb n k) (payload_in (scalar_value t z)) IsUtf8 (IsWhole rest (field_of n (scalar_value t z))) (off k n t z) (scalar_whole rest n t z)
scalar_whole (schema.message k name presence m rest) n t z = no_slot_here (eqb n k) (payload_in (scalar_value t z)) (IsMessage m) (IsWhole rest (field_of n (scalar_value t z))) (off k n t z) (scalar_whole rest n t z)
scalar_whole (schema.repeated k name m rest) n t z = no_slot_here (eqb n k) (payload_in (scalar_value t z)) (IsMessage m) (IsWhole rest (field_of n (scalar_value t z))) (off k n t z) (scalar_whole rest n t z)

fields_whole : (k s : Schema) (low : ℕ) (v : Value s) → ((r : WireField) → low < r.number → IsWhole s r → IsWhole k r) → Rises low s → TagsFit s → SlotsFit k s v → AllByRecursion LengthFits (canonical_fields s v) → AllByRecursion (IsWhole k) (canonical_fields s v)
fields_whole k schema.end low v up h g fit short = all_map (IsUnknown k) (IsWhole k) (λ r u. unknown_whole k r u.unknown) v fit
fields_whole k (schema.scalar n name presence t rest) low v up h g fit short =
    let xs = listed (present presence v.0) in
    let mine = own n (scalar_value t) xs in
    all_append (IsWhole k) mine (canonical_fields rest v.1)
    (all_own (IsWhole k) n (scalar_value t) xs (all_true (λ z. IsWhole k (field_of n (scalar_value t z))) (scalar_whole k n t) xs))
    (fields_whole k rest n v.1 (λ r lt w. up r (omega (arith, h.0)) w) h.1 g.1 fit.1 (all_behind LengthFits mine (canonical_fields rest v.1) short))
fields_whole k (schema.text n name presence rest) low v up h g fit short =
    let xs = listed (present presence v.0) in
    let mine = own n (λ p. Len p) xs in
    all_append (IsWhole k) mine (canonical_fields rest v.1)
    (all_own (IsWhole k) n (λ p. Len p) xs (all_map IsUtf8 (λ p. IsWhole k (field_of n (Len p))) (λ p u. up (field_of n (Len p)) h.0 (at_number n (IsUtf8 p) (IsWhole rest (field_of n (Len p))) u)) xs (all_listed IsUtf8 (present presence v.0) fit.0)))
    (fields_whole k rest n v.1 (λ r lt w. up r (omega (arith, h.0)) (past_number r.number n (IfSome (payload_in r.value) IsUtf8) (IsWhole rest r) lt w)) h.1 g.1 fit.1 (all_behind LengthFits mine (canonical_fields rest v.1) short))
fields_whole k (schema.message n name presence m rest) low v up h g fit short =
    let xs = listed (present presence v.0) in
    let mine = own n (λ w. Len (canonical m w)) xs in
    all_append (IsWhole k) mine (canonical_fields rest v.1)
    (all_own (IsWhole k) n (λ w. Len (canonical m w)) xs (all_both (SlotsFit m m) (λ w. length (canonical m w) < 2 ^ 64) (λ w. IsWhole k (field_of n (Len (canonical m w))))
    (λ w f lt. let fits = canonical_short m w lt in up (field_of n (Len (canonical m w))) h.0 (at_number n (IsMessage m (canonical m w)) (IsWhole rest (field_of n (Len (canonical m w))))
    (canonical_fields m w, canonical_joins m w h.1 g.1 f fits, fields_whole m m 0 w (λ r lt q. q) h.1 g.1 f fits)))
    xs (all_listed (SlotsFit m m) (present presence v.0) fit.0) (own_all LengthFits n (λ w. Len (canonical m w)) xs (all_front LengthFits mine (canonical_fields rest v.1) short))))
    (fields_whole k rest n v.1 (λ r lt w. up r (omega (arith, h.0)) (past_number r.number n (IfSome (payload_in r.value) (IsMessage m)) (IsWhole rest r) lt w)) h.2 g.2 fit.1 (all_behind LengthFits mine (canonical_fields rest v.1) short))
fields_whole k (schema.repeated n name m rest) low v up h g fit short =
    let mine = own n (λ w. Len (canonical m w)) v.0 in
    all_append (IsWhole k) mine (canonical_fields rest v.1)
    (all_own (IsWhole k) n (λ w. Len (canonical m w)) v.0 (all_both (SlotsFit m m) (λ w. length (canonical m w) < 2 ^ 64) (λ w. IsWhole k (field_of n (Len (canonical m w))))
    (λ w f lt. let fits = canonical_short m w lt in up (field_of n (Len (canonical m w))) h.0 (at_number n (IsMessage m (canonical m w)) (IsWhole rest (field_of n (Len (canonical m w))))
    (canonical_fields m w, canonical_joins m w h.1 g.1 f fits, fields_whole m m 0 w (λ r lt q. q) h.1 g.1 f fits)))
    v.0 fit.0 (own_all LengthFits n (λ w. Len (canonical m w)) v.0 (all_front LengthFits mine (canonical_fields rest v.1) short))))
    (fields_whole k rest n v.1 (λ r lt w. up r (omega (arith, h.0)) (past_number r.number n (IfSome (payload_in r.value) (IsMessage m)) (IsWhole rest r) lt w)) h.2 g.2 fit.1 (all_behind LengthFits mine (canonical_fields rest v.1) short))

pub canonical_message : (s : Schema) (v : Value s) → Rises 0 s → TagsFit s → SlotsFit s s v → AllByRecursion LengthFits (canonical_fields s v) → IsMessage s (canonical s v)
canonical_message s v h g fit short = (canonical_fields s v, canonical_joins s v h g fit short, fields_whole s s 0 v (λ r lt q. q) h g fit short)
