-- How long canonical bytes are: at most thirty times as long as bytes that mean the same.
use Rattle.std.proofs.Common.{◌≡◌, ℕ, ◌+◌, ◌*◌, ◌/◌, ◌%◌, ◌≤◌, zero, suc, ℤ, pos, Bool, true, false, cond, eqb, ltb, List, [], ◌∷◌, ◌++◌, map, length, Option, Some, None, Ok, refl, ap, ◌∙◌, arith}
use Rattle.std.specs.Prelude.{IfSome}
use Rattle.std.specs.Option.{option_map, unwrap_or}
use Rattle.std.specs.List.{flat_map, AllByRecursion}
use Rattle.std.specs.Int.{w32, w64, to_le_bytes}
use Rattle.std.proofs.lemmas.List.{length-append}
use Rattle.std.proofs.lemmas.List.Concat.{flat_map-append}
use Rattle.rt_wire.specs.declared.fault.WireFault.{WireFault}
use Rattle.rt_wire.specs.Fields.{WireField, Varint, Fixed64, Len, Group, Fixed32, IsBytes, Joins, Spells}
use Rattle.rt_wire.specs.Fields as wire
use Rattle.rt_wire.specs.Placed.{PlacedField}
use Rattle.rt_wire.specs.Varint.{minimal_for, minimal}
use Rattle.rt_wire.specs.Writing.{spell, tag}
use Rattle.rt_wire.specs.Laws.{fault_last}
use Rattle.rt_wire.proofs.Whole.{read_is_spelled}
use Rattle.rt_wire.proofs.Writes.{writing_is_exact}
use Rattle.feed_values.specs.Schema as schema
use Rattle.feed_values.specs.Schema.{Schema, Scalar, Presence, Optional, Needed, Value, Held, held, present, blank, Rises}
use Rattle.feed_values.specs.Meaning.{fields, whole_fields, scalar_in, payload_in, option_case, meaning}
use Rattle.feed_values.specs.Canonical.{scalar_value, spelled_slot, where_held, canonical}
use Rattle.feed_codec.specs.Merging.{merged_scalar, merged_text, merged_message, merged_repeated, kept, taken_in, merged, with_fields}
use Rattle.feed_codec.proofs.Bytes.{bytes_left, HasBytes}
use Rattle.feed_codec.proofs.Bytes as bytes
use Rattle.feed_codec.proofs.Meanings.{taken_all}
use Rattle.feed_codec.proofs.CanonicalFields.{some_map, payload_long}

-- ---- how long a field is

minimal_for_long : (k n : ℕ) → length (minimal_for k n) ≤ suc k
unfolding minimal_for
minimal_for_long zero n = omega arith
minimal_for_long (suc k) n = by_case (ltb n 128) (minimal_for_long k (n / 128))
  where
    by_case : (b : Bool) → length (minimal_for k (n / 128)) ≤ suc k → length (cond b (n ∷ []) ((n % 128 + 128) ∷ minimal_for k (n / 128))) ≤ suc (suc k)
    by_case true le = omega arith
    by_case false le = omega arith

minimal_long : (n : ℕ) → length (minimal n) ≤ 10
unfolding minimal
minimal_long n = minimal_for_long 9 n

minimal_some : (n : ℕ) → 1 ≤ length (minimal n)
unfolding minimal minimal_for
minimal_some n = by_case (ltb n 128)
  where
    by_case : (b : Bool) → 1 ≤ length (cond b (n ∷ []) ((n % 128 + 128) ∷ minimal_for 8 (n / 128)))
    by_case true = omega arith
    by_case false = omega arith

abbrev pub held_in : wire.WireValue → ℕ
held_in (Len p) = length p
held_in (Group p) = length p
held_in _ = 0

abbrev pub weight : WireField → ℕ
weight r = 2 + held_in r.value

abbrev pub weights : List WireField → ℕ
weights [] = 0
weights (r ∷ l) = weight r + weights l

pub slot_long : (n : ℕ) (x : wire.WireValue) → length (spelled_slot n x) ≤ 20 + held_in x
unfolding spell
slot_long n (Varint k) = omega (arith, length-append (tag n 0) (minimal k), minimal_long (n * 8 + 0), minimal_long k)
slot_long n (Fixed64 k) = omega (arith, length-append (tag n 1) (to_le_bytes w64 k), minimal_long (n * 8 + 1))
slot_long n (Len p) = omega (arith, length-append (tag n 2) (minimal (length p) ++ p), length-append (minimal (length p)) p, minimal_long (n * 8 + 2), minimal_long (length p))
slot_long n (Group p) = omega (arith, length-append (tag n 3) (p ++ tag n 4), length-append p (tag n 4), minimal_long (n * 8 + 3), minimal_long (n * 8 + 4))
slot_long n (Fixed32 k) = omega (arith, length-append (tag n 5) (to_le_bytes w32 k), minimal_long (n * 8 + 5))

slot_heavy : (n : ℕ) (x : wire.WireValue) → 2 + held_in x ≤ length (spelled_slot n x)
unfolding spell
slot_heavy n (Varint k) = omega (arith, length-append (tag n 0) (minimal k), minimal_some (n * 8 + 0), minimal_some k)
slot_heavy n (Fixed64 k) = omega (arith, length-append (tag n 1) (to_le_bytes w64 k), minimal_some (n * 8 + 1))
slot_heavy n (Len p) = omega (arith, length-append (tag n 2) (minimal (length p) ++ p), length-append (minimal (length p)) p, minimal_some (n * 8 + 2), minimal_some (length p))
slot_heavy n (Group p) = omega (arith, length-append (tag n 3) (p ++ tag n 4), length-append p (tag n 4), minimal_some (n * 8 + 3), minimal_some (n * 8 + 4))
slot_heavy n (Fixed32 k) = omega (arith, length-append (tag n 5) (to_le_bytes w32 k), minimal_some (n * 8 + 5))

-- ---- what is read of bytes is no heavier than they are long

joined_light : (l : List WireField) (b : List ℕ) → Joins (Spells 100) l b → weights l ≤ length b
joined_light [] b j = omega arith
joined_light (r ∷ l) b j =
    omega (arith, ap (λ (x : List ℕ). length x) j.2, length-append j.0 j.1, slot_heavy r.number r.value, writing_is_exact.shortest r j.0 j.3, joined_light l j.1 j.4)

whole_before : (ps : List PlacedField) (f : Option WireFault) → whole_fields (map (λ p. Ok p) ps ++ fault_last f) ≡ map (λ p. p.field) ps
whole_before [] None = refl
whole_before [] (Some f) = refl
whole_before (p ∷ ps) f = ap (λ (l : List WireField). p.field ∷ l) (whole_before ps f)

record FieldsRead (p : List ℕ) : Type 0 where
  pub light : weights (fields p) ≤ length p
  pub inside : AllByRecursion HasBytes (fields p)

fields_read : (p : List ℕ) → IsBytes p → FieldsRead p
unfolding fields
fields_read p ok =
    let r = read_is_spelled p ok in
    let are : fields p ≡ map (λ q. q.field) r.fields = ap whole_fields r.parts ∙ whole_before r.fields r.fault in
    let front : IsBytes r.front = bytes_left r.front r.rest (rw r.whole at ok) in
    let light : weights (map (λ q. q.field) r.fields) ≤ length r.front = joined_light (map (λ q. q.field) r.fields) r.front r.joins in
    record {
      light = rw are (omega (arith, light, ap (λ (x : List ℕ). length x) r.whole, length-append r.front r.rest));
      inside = rw are (bytes.fields_bytes (map (λ q. q.field) r.fields) r.front r.joins front);
    }

-- ---- how long the messages are that hold nothing

abbrev pub needed_size : Presence → ℕ → ℕ
needed_size Optional n = 0
needed_size (Needed which) n = n

abbrev pub blank_size : Schema → ℕ
blank_size schema.end = 0
blank_size (schema.scalar n name presence t rest) = needed_size presence 20 + blank_size rest
blank_size (schema.text n name presence rest) = needed_size presence 20 + blank_size rest
blank_size (schema.message n name presence m rest) = needed_size presence (20 + blank_size m) + blank_size rest
blank_size (schema.repeated n name m rest) = blank_size rest

-- every message inside is short where it holds nothing
abbrev pub IsSmall : Schema → Type 0
IsSmall schema.end = Unit {0}
IsSmall (schema.scalar n name presence t rest) = IsSmall rest
IsSmall (schema.text n name presence rest) = IsSmall rest
IsSmall (schema.message n name presence m rest) = (blank_size m ≤ 40) × IsSmall m × IsSmall rest
IsSmall (schema.repeated n name m rest) = (blank_size m ≤ 40) × IsSmall m × IsSmall rest

scalar_long : (n : ℕ) (t : Scalar) (z : ℤ) → length (spelled_slot n (scalar_value t z)) ≤ 20
scalar_long n schema.Bool z = slot_long n (scalar_value schema.Bool z)
scalar_long n schema.U32 z = slot_long n (scalar_value schema.U32 z)
scalar_long n schema.I32 z = slot_long n (scalar_value schema.I32 z)
scalar_long n schema.U64 z = slot_long n (scalar_value schema.U64 z)
scalar_long n schema.I64 z = slot_long n (scalar_value schema.I64 z)
scalar_long n schema.Bits32 z = slot_long n (scalar_value schema.Bits32 z)
scalar_long n schema.Bits64 z = slot_long n (scalar_value schema.Bits64 z)
scalar_long n (schema.Enum first last) z = slot_long n (scalar_value (schema.Enum first last) z)
scalar_long n (schema.EnumOr first last more) z = slot_long n (scalar_value (schema.EnumOr first last more) z)

blank_held : {A : Type 0} (presence : Presence) (none : A) (write : A → List ℕ) (size : ℕ) → length (write none) ≤ size → length (where_held write (present presence (held presence none None))) ≤ needed_size presence size
blank_held Optional none write size le = omega arith
blank_held (Needed which) none write size le = le

both_long : (a b : List ℕ) (x y : ℕ) → length a ≤ x → length b ≤ y → length (a ++ b) ≤ x + y
both_long a b x y p q = omega (arith, length-append a b)

blank_long : (s : Schema) → length (canonical s (blank s)) ≤ blank_size s
blank_long schema.end = omega arith
blank_long (schema.scalar n name presence t rest) =
    let write = λ (z : ℤ). spelled_slot n (scalar_value t z) in
    both_long (where_held write (present presence (held presence (pos 0) None))) (canonical rest (blank rest)) (needed_size presence 20) (blank_size rest)
    (blank_held presence (pos 0) write 20 (scalar_long n t (pos 0))) (blank_long rest)
blank_long (schema.text n name presence rest) =
    let write = λ (p : List ℕ). spelled_slot n (Len p) in
    both_long (where_held write (present presence (held presence [] None))) (canonical rest (blank rest)) (needed_size presence 20) (blank_size rest)
    (blank_held presence [] write 20 (slot_long n (Len []))) (blank_long rest)
blank_long (schema.message n name presence m rest) =
    let write = λ (w : Value m). spelled_slot n (Len (canonical m w)) in
    both_long (where_held write (present presence (held presence (blank m) None))) (canonical rest (blank rest)) (needed_size presence (20 + blank_size m)) (blank_size rest)
    (blank_held presence (blank m) write (20 + blank_size m) (omega (arith, slot_long n (Len (canonical m (blank m))), blank_long m))) (blank_long rest)
blank_long (schema.repeated n name m rest) = blank_long rest

-- ---- one more field

behind_long : (front old new : List ℕ) (r : WireField) → length new ≤ length old + 30 * weight r → length (front ++ new) ≤ length (front ++ old) + 30 * weight r
behind_long front old new r le = omega (arith, length-append front old, length-append front new)

kept_long : (s : Schema) (r : WireField) (v : Value s) → length (canonical s (kept s r v)) ≤ length (canonical s v) + 30 * weight r
kept_long schema.end r v = omega (arith, ap (λ (l : List ℕ). length l) (flat_map-append spell v (r ∷ [])), length-append (flat_map spell v) (spell r ++ []), length-append {A = ℕ} (spell r) [], slot_long r.number r.value)
kept_long (schema.scalar n name presence t rest) r v = behind_long (where_held (λ z. spelled_slot n (scalar_value t z)) (present presence v.0)) (canonical rest v.1) (canonical rest (kept rest r v.1)) r (kept_long rest r v.1)
kept_long (schema.text n name presence rest) r v = behind_long (where_held (λ p. spelled_slot n (Len p)) (present presence v.0)) (canonical rest v.1) (canonical rest (kept rest r v.1)) r (kept_long rest r v.1)
kept_long (schema.message n name presence m rest) r v = behind_long (where_held (λ w. spelled_slot n (Len (canonical m w))) (present presence v.0)) (canonical rest v.1) (canonical rest (kept rest r v.1)) r (kept_long rest r v.1)
kept_long (schema.repeated n name m rest) r v = behind_long (flat_map (λ w. spelled_slot n (Len (canonical m w))) v.0) (canonical rest v.1) (canonical rest (kept rest r v.1)) r (kept_long rest r v.1)

abbrev step : (m : Schema) → WireField → Value m → Value m
step m r w = option_case (merged m r w) (kept m r w) (λ x. x)

-- what one more field adds at most
abbrev Grows : (s : Schema) → WireField → Value s → Value s → Type 0
Grows s r v w = length (canonical s w) ≤ length (canonical s v) + 30 * weight r

step_long : (s : Schema) (r : WireField) (v : Value s) → IfSome (merged s r v) (Grows s r v) → Grows s r v (step s r v)
step_long s r v h = by_case (merged s r v) h
  where
    by_case : (o : Option (Value s)) → IfSome o (Grows s r v) → Grows s r v (option_case o (kept s r v) (λ x. x))
    by_case None k = kept_long s r v
    by_case (Some w) k = k

all_long : (m : Schema) → ((r : WireField) (w : Value m) → HasBytes r → IfSome (merged m r w) (Grows m r w)) → (l : List WireField) (w : Value m) → AllByRecursion HasBytes l
    → length (canonical m (taken_in (step m) l w)) ≤ length (canonical m w) + 30 * weights l
all_long m f [] w h = omega arith
all_long m f (r ∷ l) w h = omega (arith, step_long m r w (f r w h.0), all_long m f l (step m r w) h.1)

here_or_later : {A B C : Type 0} (b : Bool) (o : Option B) (f : B → A) (q : Option C) (g : C → A) (P : A → Type 0) → IfSome o (λ c. P (f c)) → IfSome q (λ c. P (g c)) → IfSome (cond b (option_map f o) (option_map g q)) P
here_or_later true None f q g P h k = tt
here_or_later true (Some x) f q g P h k = h
here_or_later false o f None g P h k = tt
here_or_later false o f (Some x) g P h k = k

mapped : {A B : Type 0} (o : Option A) (f : A → B) (P : B → Type 0) → IfSome o (λ x. P (f x)) → IfSome (option_map f o) P
mapped None f P h = tt
mapped (Some x) f P h = h

every : {A : Type 0} (o : Option A) (P : A → Type 0) → ((x : A) → P x) → IfSome o P
every None P f = tt
every (Some x) P f = f x

-- a slot's front grows, and what stands behind stays
front_long : (old new rest : List ℕ) (r : WireField) → length new ≤ length old + 30 * weight r → length (new ++ rest) ≤ length (old ++ rest) + 30 * weight r
front_long old new rest r le = omega (arith, length-append old rest, length-append new rest)

number_long : (n : ℕ) (t : Scalar) (presence : Presence) (z : ℤ) → length (where_held (λ z. spelled_slot n (scalar_value t z)) (present presence (held presence (pos 0) (Some z)))) ≤ 20
number_long n t Optional z = scalar_long n t z
number_long n t (Needed which) z = scalar_long n t z

text_long : (n : ℕ) (presence : Presence) (p : List ℕ) → length (where_held (λ p. spelled_slot n (Len p)) (present presence (held presence [] (Some p)))) ≤ 20 + length p
text_long n Optional p = slot_long n (Len p)
text_long n (Needed which) p = slot_long n (Len p)

-- what a payload weighs
payload_weighs : (x : wire.WireValue) → IfSome (payload_in x) IsBytes → IfSome (payload_in x) (λ p. IsBytes p × (held_in x ≡ length p))
payload_weighs (Len p) h = (h, refl)
payload_weighs (Varint n) h = tt
payload_weighs (Fixed64 n) h = tt
payload_weighs (Group p) h = tt
payload_weighs (Fixed32 n) h = tt

-- one more payload of a single message
message_long : (m : Schema) (n : ℕ) (presence : Presence) (old : Held presence (Value m)) (r : WireField) (p : List ℕ) → blank_size m ≤ 40 → held_in r.value ≡ length p
    → ((w : Value m) → length (canonical m (taken_in (step m) (fields p) w)) ≤ length (canonical m w) + 30 * length p)
    → length (where_held (λ w. spelled_slot n (Len (canonical m w))) (present presence (held presence (blank m) (Some (taken_in (step m) (fields p) (unwrap_or (present presence old) (blank m)))))))
    ≤ length (where_held (λ w. spelled_slot n (Len (canonical m w))) (present presence old)) + 30 * weight r
message_long m n Optional None r p small e f =
    let new = taken_in (step m) (fields p) (blank m) in
    omega (arith, slot_long n (Len (canonical m new)), f (blank m), blank_long m)
message_long m n Optional (Some old) r p small e f =
    let new = taken_in (step m) (fields p) old in
    omega (arith, slot_long n (Len (canonical m new)), f old, payload_long n (canonical m old))
message_long m n (Needed which) old r p small e f =
    let new = taken_in (step m) (fields p) old in
    omega (arith, slot_long n (Len (canonical m new)), f old, payload_long n (canonical m old))

repeated_long : (m : Schema) (n : ℕ) (old : List (Value m)) (r : WireField) (p : List ℕ) → blank_size m ≤ 40 → held_in r.value ≡ length p
    → ((w : Value m) → length (canonical m (taken_in (step m) (fields p) w)) ≤ length (canonical m w) + 30 * length p)
    → length (flat_map (λ w. spelled_slot n (Len (canonical m w))) (old ++ taken_in (step m) (fields p) (blank m) ∷ [])) ≤ length (flat_map (λ w. spelled_slot n (Len (canonical m w))) old) + 30 * weight r
repeated_long m n old r p small e f =
    let write = λ (w : Value m). spelled_slot n (Len (canonical m w)) in
    let new = taken_in (step m) (fields p) (blank m) in
    omega (arith, ap (λ (l : List ℕ). length l) (flat_map-append write old (new ∷ [])), length-append (flat_map write old) (write new ++ []), length-append {A = ℕ} (write new) [], slot_long n (Len (canonical m new)), f (blank m), blank_long m)

merged_long : (s : Schema) → IsSmall s → (r : WireField) (v : Value s) → HasBytes r → IfSome (merged s r v) (Grows s r v)
merged_long schema.end small r v ok = tt
merged_long (schema.scalar n name presence t rest) small r v ok =
    let write = λ (z : ℤ). spelled_slot n (scalar_value t z) in
    here_or_later (eqb r.number n) (merged_scalar presence t r.value) (λ c. (c, v.1)) (merged rest r v.1) (λ w. (v.0, w)) (Grows (schema.scalar n name presence t rest) r v)
    (mapped (scalar_in t r.value) (λ z. held presence (pos 0) (Some z)) (λ c. Grows (schema.scalar n name presence t rest) r v (c, v.1)) (every (scalar_in t r.value) _ (λ z.
    front_long (where_held write (present presence v.0)) (where_held write (present presence (held presence (pos 0) (Some z)))) (canonical rest v.1) r (omega (arith, number_long n t presence z)))))
    (some_map (Grows rest r v.1) (λ w. Grows (schema.scalar n name presence t rest) r v (v.0, w)) (λ w k. behind_long (where_held write (present presence v.0)) (canonical rest v.1) (canonical rest w) r k) (merged rest r v.1) (merged_long rest small r v.1 ok))
merged_long (schema.text n name presence rest) small r v ok =
    let write = λ (p : List ℕ). spelled_slot n (Len p) in
    here_or_later (eqb r.number n) (merged_text presence r.value) (λ c. (c, v.1)) (merged rest r v.1) (λ w. (v.0, w)) (Grows (schema.text n name presence rest) r v)
    (mapped (payload_in r.value) (λ p. held presence [] (Some p)) (λ c. Grows (schema.text n name presence rest) r v (c, v.1)) (some_map (λ p. IsBytes p × (held_in r.value ≡ length p)) _ (λ p q.
    front_long (where_held write (present presence v.0)) (where_held write (present presence (held presence [] (Some p)))) (canonical rest v.1) r (omega (arith, q.1, text_long n presence p))) (payload_in r.value) (payload_weighs r.value ok)))
    (some_map (Grows rest r v.1) (λ w. Grows (schema.text n name presence rest) r v (v.0, w)) (λ w k. behind_long (where_held write (present presence v.0)) (canonical rest v.1) (canonical rest w) r k) (merged rest r v.1) (merged_long rest small r v.1 ok))
merged_long (schema.message n name presence m rest) small r v ok =
    let write = λ (w : Value m). spelled_slot n (Len (canonical m w)) in
    here_or_later (eqb r.number n) (merged_message presence (taken_in (step m)) (blank m) r.value v.0) (λ c. (c, v.1)) (merged rest r v.1) (λ w. (v.0, w)) (Grows (schema.message n name presence m rest) r v)
    (mapped (payload_in r.value) (λ p. held presence (blank m) (Some (taken_in (step m) (fields p) (unwrap_or (present presence v.0) (blank m))))) (λ c. Grows (schema.message n name presence m rest) r v (c, v.1))
    (some_map (λ p. IsBytes p × (held_in r.value ≡ length p)) _ (λ p q.
    let f = fields_read p q.0 in
    front_long (where_held write (present presence v.0)) (where_held write (present presence (held presence (blank m) (Some (taken_in (step m) (fields p) (unwrap_or (present presence v.0) (blank m))))))) (canonical rest v.1) r
    (message_long m n presence v.0 r p small.0 q.1 (λ w. omega (arith, f.light, all_long m (merged_long m small.1) (fields p) w f.inside)))) (payload_in r.value) (payload_weighs r.value ok)))
    (some_map (Grows rest r v.1) (λ w. Grows (schema.message n name presence m rest) r v (v.0, w)) (λ w k. behind_long (where_held write (present presence v.0)) (canonical rest v.1) (canonical rest w) r k) (merged rest r v.1) (merged_long rest small.2 r v.1 ok))
merged_long (schema.repeated n name m rest) small r v ok =
    let write = λ (w : Value m). spelled_slot n (Len (canonical m w)) in
    here_or_later (eqb r.number n) (merged_repeated (taken_in (step m)) (blank m) r.value v.0) (λ c. (c, v.1)) (merged rest r v.1) (λ w. (v.0, w)) (Grows (schema.repeated n name m rest) r v)
    (mapped (payload_in r.value) (λ p. v.0 ++ taken_in (step m) (fields p) (blank m) ∷ []) (λ c. Grows (schema.repeated n name m rest) r v (c, v.1))
    (some_map (λ p. IsBytes p × (held_in r.value ≡ length p)) _ (λ p q.
    let f = fields_read p q.0 in
    front_long (flat_map write v.0) (flat_map write (v.0 ++ taken_in (step m) (fields p) (blank m) ∷ [])) (canonical rest v.1) r
    (repeated_long m n v.0 r p small.0 q.1 (λ w. omega (arith, f.light, all_long m (merged_long m small.1) (fields p) w f.inside)))) (payload_in r.value) (payload_weighs r.value ok)))
    (some_map (Grows rest r v.1) (λ w. Grows (schema.repeated n name m rest) r v (v.0, w)) (λ w k. behind_long (flat_map write v.0) (canonical rest v.1) (canonical rest w) r k) (merged rest r v.1) (merged_long rest small.2 r v.1 ok))

-- The canonical bytes of what some bytes mean are at most thirty times as long, but for the required slots that are missing.
pub meaning_long : (s : Schema) (bytes : List ℕ) → Rises 0 s → IsSmall s → IsBytes bytes → length (canonical s (meaning s (fields bytes))) ≤ blank_size s + 30 * length bytes
unfolding with_fields
meaning_long s bytes h small ok =
    let f = fields_read bytes ok in
    let same : with_fields s (fields bytes) (blank s) ≡ meaning s (fields bytes) = taken_all s h (fields bytes) in
    omega (arith, ap (λ v. length (canonical s v)) same, all_long s (merged_long s small) (fields bytes) (blank s) f.inside, f.light, blank_long s)
