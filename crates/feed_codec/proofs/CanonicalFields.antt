-- The canonical bytes of a message are the shortest spellings of its canonical fields, and read as these fields.
use Rattle.std.proofs.Common.{◌≡◌, ℕ, ◌≤◌, ◌<◌, ◌^◌, ℤ, pos, negsuc, List, [], ◌∷◌, ◌++◌, map, length, Option, Some, None, refl, sym, ap, arith}
use Rattle.std.specs.Prelude.{IfSome}
use Rattle.std.specs.List.{flat_map, AllByRecursion}
use Rattle.std.proofs.lemmas.List.{append-nil, length-append}
use Rattle.std.proofs.lemmas.List.Concat.{flat_map-append}
use Rattle.rt_wire.specs.Fields.{WireField, Varint, Fixed64, Len, Group, Fixed32, Spells, Joins}
use Rattle.rt_wire.specs.Fields as wire
use Rattle.rt_wire.specs.Varint.{minimal}
use Rattle.rt_wire.specs.Writing.{spell, tag, CanWrite, FitsWidth}
use Rattle.rt_wire.proofs.Writes.{field_is_spelled}
use Rattle.feed_values.specs.Schema as schema
use Rattle.feed_values.specs.Schema.{Schema, Scalar, Presence, Needed, Optional, Value, Held, held, present, Rises}
use Rattle.feed_values.specs.Meaning.{fields}
use Rattle.feed_values.specs.Canonical.{scalar_value, spelled_slot, where_held, canonical}
use Rattle.feed_values.specs.WellFormed.{InRange, NumbersFit, IsUnknown, SlotsFit}
use Rattle.feed_values.proofs.SnapshotFields.{fields_are}
use Rattle.feed_codec.specs.Encoding.{TagsFit}

abbrev pub field_of : ℕ → wire.WireValue → WireField
field_of n x = record { number = n; value = x }

abbrev pub own : {A : Type 0} → ℕ → (A → wire.WireValue) → List A → List WireField
own n form xs = map (λ x. field_of n (form x)) xs

abbrev pub listed : {A : Type 0} → Option A → List A
listed None = []
listed (Some x) = x ∷ []

-- the canonical fields of a message
abbrev pub canonical_fields : (s : Schema) → Value s → List WireField
canonical_fields schema.end v = v
canonical_fields (schema.scalar n name presence t rest) v = own n (scalar_value t) (listed (present presence v.0)) ++ canonical_fields rest v.1
canonical_fields (schema.text n name presence rest) v = own n (λ p. Len p) (listed (present presence v.0)) ++ canonical_fields rest v.1
canonical_fields (schema.message n name presence m rest) v = own n (λ x. Len (canonical m x)) (listed (present presence v.0)) ++ canonical_fields rest v.1
canonical_fields (schema.repeated n name m rest) v = own n (λ x. Len (canonical m x)) v.0 ++ canonical_fields rest v.1

spelled_listed : {A : Type 0} (n : ℕ) (form : A → wire.WireValue) (o : Option A) → where_held (λ x. spelled_slot n (form x)) o ≡ flat_map spell (own n form (listed o))
spelled_listed n form None = refl
spelled_listed n form (Some x) = sym (append-nil (spelled_slot n (form x)))

spelled_own : {A : Type 0} (n : ℕ) (form : A → wire.WireValue) (xs : List A) → flat_map (λ x. spelled_slot n (form x)) xs ≡ flat_map spell (own n form xs)
spelled_own n form [] = refl
spelled_own n form (x ∷ xs) = ap (λ (l : List ℕ). spelled_slot n (form x) ++ l) (spelled_own n form xs)

joins : (a b : List WireField) (x y : List ℕ) → x ≡ flat_map spell a → y ≡ flat_map spell b → x ++ y ≡ flat_map spell (a ++ b)
joins a b x y p q = rw (p, q) (sym (flat_map-append spell a b))

pub canonical_is : (s : Schema) (v : Value s) → canonical s v ≡ flat_map spell (canonical_fields s v)
canonical_is schema.end v = refl
canonical_is (schema.scalar n name presence t rest) v = joins (own n (scalar_value t) (listed (present presence v.0))) (canonical_fields rest v.1) _ _ (spelled_listed n (scalar_value t) (present presence v.0)) (canonical_is rest v.1)
canonical_is (schema.text n name presence rest) v = joins (own n (λ p. Len p) (listed (present presence v.0))) (canonical_fields rest v.1) _ _ (spelled_listed n (λ p. Len p) (present presence v.0)) (canonical_is rest v.1)
canonical_is (schema.message n name presence m rest) v = joins (own n (λ x. Len (canonical m x)) (listed (present presence v.0))) (canonical_fields rest v.1) _ _ (spelled_listed n (λ x. Len (canonical m x)) (present presence v.0)) (canonical_is rest v.1)
canonical_is (schema.repeated n name m rest) v = joins (own n (λ x. Len (canonical m x)) v.0) (canonical_fields rest v.1) _ _ (spelled_own n (λ x. Len (canonical m x)) v.0) (canonical_is rest v.1)

-- ---- lists

pub all_listed : {A : Type 0} (P : A → Type 0) (o : Option A) → IfSome o P → AllByRecursion P (listed o)
all_listed P None h = tt
all_listed P (Some x) h = (h, tt)

pub all_map : {A : Type 0} (P Q : A → Type 0) → ((x : A) → P x → Q x) → (xs : List A) → AllByRecursion P xs → AllByRecursion Q xs
all_map P Q f [] h = tt
all_map P Q f (x ∷ xs) h = (f x h.0, all_map P Q f xs h.1)

pub all_both : {A : Type 0} (P Q R : A → Type 0) → ((x : A) → P x → Q x → R x) → (xs : List A) → AllByRecursion P xs → AllByRecursion Q xs → AllByRecursion R xs
all_both P Q R f [] p q = tt
all_both P Q R f (x ∷ xs) p q = (f x p.0 q.0, all_both P Q R f xs p.1 q.1)

pub all_append : {A : Type 0} (P : A → Type 0) (a b : List A) → AllByRecursion P a → AllByRecursion P b → AllByRecursion P (a ++ b)
all_append P [] b p q = q
all_append P (r ∷ a) b p q = (p.0, all_append P a b p.1 q)

pub all_true : {A : Type 0} (P : A → Type 0) → ((x : A) → P x) → (xs : List A) → AllByRecursion P xs
all_true P f [] = tt
all_true P f (x ∷ xs) = (f x, all_true P f xs)

pub all_front : {A : Type 0} (P : A → Type 0) (a b : List A) → AllByRecursion P (a ++ b) → AllByRecursion P a
all_front P [] b h = tt
all_front P (x ∷ a) b h = (h.0, all_front P a b h.1)

pub all_behind : {A : Type 0} (P : A → Type 0) (a b : List A) → AllByRecursion P (a ++ b) → AllByRecursion P b
all_behind P [] b h = h
all_behind P (x ∷ a) b h = all_behind P a b h.1

-- what holds of each field of a slot, by what is in it
pub all_own : {A : Type 0} (P : WireField → Type 0) (n : ℕ) (form : A → wire.WireValue) (xs : List A) → AllByRecursion (λ x. P (field_of n (form x))) xs → AllByRecursion P (own n form xs)
all_own P n form [] h = tt
all_own P n form (x ∷ xs) h = (h.0, all_own P n form xs h.1)

pub own_all : {A : Type 0} (P : WireField → Type 0) (n : ℕ) (form : A → wire.WireValue) (xs : List A) → AllByRecursion P (own n form xs) → AllByRecursion (λ x. P (field_of n (form x))) xs
own_all P n form [] h = tt
own_all P n form (x ∷ xs) h = (h.0, own_all P n form xs h.1)

-- ---- lengths

abbrev pub PayloadFits : wire.WireValue → Type 0
PayloadFits (Len p) = length p < 2 ^ 64
PayloadFits _ = Unit {0}

abbrev pub LengthFits : WireField → Type 0
LengthFits r = PayloadFits r.value

pub payload_long : (n : ℕ) (p : List ℕ) → length p ≤ length (spelled_slot n (Len p))
unfolding spell
payload_long n p = omega (arith, length-append (tag n 2) (minimal (length p) ++ p), length-append (minimal (length p)) p)

length_fits : (r : WireField) → length (spell r) < 2 ^ 64 → LengthFits r
length_fits r lt = by_value r.number r.value lt
  where
    by_value : (n : ℕ) (x : wire.WireValue) → length (spelled_slot n x) < 2 ^ 64 → LengthFits (field_of n x)
    by_value n (Len p) lt = omega (arith, payload_long n p)
    by_value n (Varint k) lt = tt
    by_value n (Fixed64 k) lt = tt
    by_value n (Group g) lt = tt
    by_value n (Fixed32 k) lt = tt

pub lengths_fit : (l : List WireField) → length (flat_map spell l) < 2 ^ 64 → AllByRecursion LengthFits l
lengths_fit [] lt = tt
lengths_fit (r ∷ l) lt = (length_fits r (omega (arith, length-append (spell r) (flat_map spell l))), lengths_fit l (omega (arith, length-append (spell r) (flat_map spell l))))

-- ---- the fields can be written

abbrev pub ScalarFits : wire.WireValue → Type 0
ScalarFits (Varint n) = n < 2 ^ 64
ScalarFits (Fixed64 n) = n < 2 ^ 64
ScalarFits (Len p) = Unit {0}
ScalarFits (Group p) = Unit {0}
ScalarFits (Fixed32 n) = n < 2 ^ 32

abbrev pub Fits : WireField → Type 0
Fits r = CanWrite r × ScalarFits r.value

scalar_fits : (t : Scalar) (z : ℤ) → InRange t z → ScalarFits (scalar_value t z)
scalar_fits schema.Bool (pos n) h = omega arith
scalar_fits schema.Bool (negsuc n) h = absurd h
scalar_fits schema.U32 (pos n) h = omega arith
scalar_fits schema.U32 (negsuc n) h = absurd h
scalar_fits schema.I32 (pos n) h = omega arith
scalar_fits schema.I32 (negsuc n) h = omega arith
scalar_fits schema.U64 (pos n) h = h
scalar_fits schema.U64 (negsuc n) h = absurd h
scalar_fits schema.I64 (pos n) h = omega arith
scalar_fits schema.I64 (negsuc n) h = omega arith
scalar_fits schema.Bits32 (pos n) h = h
scalar_fits schema.Bits32 (negsuc n) h = absurd h
scalar_fits schema.Bits64 (pos n) h = h
scalar_fits schema.Bits64 (negsuc n) h = absurd h
scalar_fits (schema.Enum first last) (pos n) h = omega (arith, h.2)
scalar_fits (schema.Enum first last) (negsuc n) h = absurd h
scalar_fits (schema.EnumOr first last more) (pos n) h = omega (arith, h.1)
scalar_fits (schema.EnumOr first last more) (negsuc n) h = absurd h

scalar_writes : (n low : ℕ) (t : Scalar) (z : ℤ) → low < n → n < 2 ^ 29 → CanWrite (field_of n (scalar_value t z))
scalar_writes n low schema.Bool z lt small = record { positive = omega arith; small = small; group = tt }
scalar_writes n low schema.U32 z lt small = record { positive = omega arith; small = small; group = tt }
scalar_writes n low schema.I32 z lt small = record { positive = omega arith; small = small; group = tt }
scalar_writes n low schema.U64 z lt small = record { positive = omega arith; small = small; group = tt }
scalar_writes n low schema.I64 z lt small = record { positive = omega arith; small = small; group = tt }
scalar_writes n low schema.Bits32 z lt small = record { positive = omega arith; small = small; group = tt }
scalar_writes n low schema.Bits64 z lt small = record { positive = omega arith; small = small; group = tt }
scalar_writes n low (schema.Enum first last) z lt small = record { positive = omega arith; small = small; group = tt }
scalar_writes n low (schema.EnumOr first last more) z lt small = record { positive = omega arith; small = small; group = tt }

payload_fits : (n low : ℕ) (p : List ℕ) → low < n → n < 2 ^ 29 → Fits (field_of n (Len p))
payload_fits n low p lt small = (record { positive = omega arith; small = small; group = tt }, tt)

number_fits : (x : wire.WireValue) → NumbersFit x → ScalarFits x
number_fits (Varint n) h = h
number_fits (Fixed64 n) h = h
number_fits (Len p) h = tt
number_fits (Group g) h = tt
number_fits (Fixed32 n) h = h

pub some_map : {A : Type 0} (P Q : A → Type 0) → ((x : A) → P x → Q x) → (o : Option A) → IfSome o P → IfSome o Q
some_map P Q f None h = tt
some_map P Q f (Some x) h = f x h

-- all but the lengths
pub fields_fit : (k s : Schema) (low : ℕ) (v : Value s) → Rises low s → TagsFit s → SlotsFit k s v → AllByRecursion Fits (canonical_fields s v)
fields_fit k schema.end low v h g fit = all_map (IsUnknown k) Fits (λ r u. (u.writable, number_fits r.value u.numbers)) v fit
fields_fit k (schema.scalar n name presence t rest) low v h g fit =
    all_append Fits (own n (scalar_value t) (listed (present presence v.0))) (canonical_fields rest v.1)
    (all_own Fits n (scalar_value t) (listed (present presence v.0)) (all_listed (λ z. Fits (field_of n (scalar_value t z))) (present presence v.0)
    (some_map (InRange t) (λ z. Fits (field_of n (scalar_value t z))) (λ z r. (scalar_writes n low t z h.0 g.0, scalar_fits t z r)) (present presence v.0) fit.0)))
    (fields_fit k rest n v.1 h.1 g.1 fit.1)
fields_fit k (schema.text n name presence rest) low v h g fit =
    all_append Fits (own n (λ p. Len p) (listed (present presence v.0))) (canonical_fields rest v.1)
    (all_own Fits n (λ p. Len p) (listed (present presence v.0)) (all_true (λ p. Fits (field_of n (Len p))) (λ p. payload_fits n low p h.0 g.0) (listed (present presence v.0))))
    (fields_fit k rest n v.1 h.1 g.1 fit.1)
fields_fit k (schema.message n name presence m rest) low v h g fit =
    all_append Fits (own n (λ w. Len (canonical m w)) (listed (present presence v.0))) (canonical_fields rest v.1)
    (all_own Fits n (λ w. Len (canonical m w)) (listed (present presence v.0)) (all_true (λ w. Fits (field_of n (Len (canonical m w)))) (λ w. payload_fits n low (canonical m w) h.0 g.0) (listed (present presence v.0))))
    (fields_fit k rest n v.1 h.2 g.2 fit.1)
fields_fit k (schema.repeated n name m rest) low v h g fit =
    all_append Fits (own n (λ w. Len (canonical m w)) v.0) (canonical_fields rest v.1)
    (all_own Fits n (λ w. Len (canonical m w)) v.0 (all_true (λ w. Fits (field_of n (Len (canonical m w)))) (λ w. payload_fits n low (canonical m w) h.0 g.0) v.0))
    (fields_fit k rest n v.1 h.2 g.2 fit.1)

pub widths_fit : (x : wire.WireValue) (n : ℕ) → ScalarFits x → LengthFits (field_of n x) → FitsWidth x
widths_fit (Varint k) n f l = f
widths_fit (Fixed64 k) n f l = f
widths_fit (Len p) n f l = l
widths_fit (Group g) n f l = tt
widths_fit (Fixed32 k) n f l = f

all_spell : (l : List WireField) → AllByRecursion Fits l → AllByRecursion LengthFits l → AllByRecursion (λ r. Spells 100 r (spell r)) l
all_spell [] f s = tt
all_spell (r ∷ l) f s = (field_is_spelled r f.0.0 (widths_fit r.value r.number f.0.1 s.0), all_spell l f.1 s.1)

spellings_join : (l : List WireField) → AllByRecursion (λ r. Spells 100 r (spell r)) l → Joins (Spells 100) l (flat_map spell l)
spellings_join [] h = refl
spellings_join (r ∷ l) h = (spell r, flat_map spell l, refl, h.0, spellings_join l h.1)

-- the canonical bytes of a well-formed message spell its canonical fields
pub canonical_joins : (s : Schema) (v : Value s) → Rises 0 s → TagsFit s → SlotsFit s s v → AllByRecursion LengthFits (canonical_fields s v) → Joins (Spells 100) (canonical_fields s v) (canonical s v)
canonical_joins s v h g fit short = rw (canonical_is s v) (spellings_join (canonical_fields s v) (all_spell (canonical_fields s v) (fields_fit s s 0 v h g fit) short))

pub cut : (s : Schema) (v : Value s) → Rises 0 s → TagsFit s → SlotsFit s s v → AllByRecursion LengthFits (canonical_fields s v) → fields (canonical s v) ≡ canonical_fields s v
cut s v h g fit short = fields_are (canonical_fields s v) (canonical s v) (canonical_joins s v h g fit short)

pub canonical_short : (s : Schema) (v : Value s) → length (canonical s v) < 2 ^ 64 → AllByRecursion LengthFits (canonical_fields s v)
canonical_short s v lt = lengths_fit (canonical_fields s v) (rw canonical_is at lt)
