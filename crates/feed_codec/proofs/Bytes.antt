-- Parts of byte lists are byte lists.
use Rattle.std.proofs.Common.{◌≡◌, ℕ, ◌+◌, ◌-◌, ◌<◌, ◌≤◌, Bool, true, false, cond, eqb, Option, Some, None, List, [], ◌∷◌, ◌++◌, append_assoc, length, refl, sym, ap, ◌∙◌, arith, inl, inr}
use Rattle.std.specs.Prelude.{IfSome, slice_index}
use Rattle.std.specs.List.{AllByRecursion, concat}
use Rattle.std.proofs.lemmas.Bool.{cases_lt}
use Rattle.std.proofs.lemmas.List.{get_or-append-add, get_or_append_left, get_or-append_right, get_or_past}
use Rattle.rt_wire.specs.Fields.{IsBytes, WireField, WireValue, Varint, Fixed64, Len, Group, Fixed32, Joins, Spells}
use Rattle.feed_values.specs.Meaning.{payload_in, given, in_slot, option_case}

pub bytes_left : (a b : List ℕ) → IsBytes (a ++ b) → IsBytes a
bytes_left a b ok i = elim (cases_lt i (length a)) [
  | inl lt ↦ rw (← get_or_append_left a b 0 i lt) (ok i)
  | inr ge ↦ rw (get_or_past a i 0 ge) (omega arith)
]

pub bytes_right : (a b : List ℕ) → IsBytes (a ++ b) → IsBytes b
bytes_right a b ok i = rw (← get_or-append-add a b i 0) (ok (length a + i))

-- a payload stands at the end of what spells its field
pub payload_last : (number : ℕ) (p b : List ℕ) → Spells 100 (record { number = number; value = Len p }) b → (front : List ℕ) × (b ≡ front ++ p)
unfolding Spells
payload_last number p b s = (s.0 ++ s.4.0, s.2 ∙ ap (λ (l : List ℕ). s.0 ++ l) s.4.2 ∙ sym (append_assoc s.0 s.4.0 p))

pub payload_bytes : (number : ℕ) (p b : List ℕ) → Spells 100 (record { number = number; value = Len p }) b → IsBytes b → IsBytes p
payload_bytes number p b s ok = let e = payload_last number p b s in bytes_right e.0 p (rw e.1 at ok)

-- the payload of a field is bytes, if it has one
abbrev pub HasBytes : WireField → Type 0
HasBytes f = IfSome (payload_in f.value) IsBytes

value_bytes : (number : ℕ) (x : WireValue) (b : List ℕ) → Spells 100 (record { number = number; value = x }) b → IsBytes b → IfSome (payload_in x) IsBytes
value_bytes number (Len p) b s ok = payload_bytes number p b s ok
value_bytes number (Varint n) b s ok = tt
value_bytes number (Fixed64 n) b s ok = tt
value_bytes number (Group p) b s ok = tt
value_bytes number (Fixed32 n) b s ok = tt

pub field_bytes : (f : WireField) (b : List ℕ) → Spells 100 f b → IsBytes b → HasBytes f
field_bytes f b s ok = value_bytes f.number f.value b s ok

pub fields_bytes : (l : List WireField) (b : List ℕ) → Joins (Spells 100) l b → IsBytes b → AllByRecursion HasBytes l
fields_bytes [] b j ok = tt
fields_bytes (f ∷ l) b j ok =
    let all : IsBytes (j.0 ++ j.1) = rw j.2 at ok in
    (field_bytes f j.0 j.3 (bytes_left j.0 j.1 all), fields_bytes l j.1 j.4 (bytes_right j.0 j.1 all))

pub bytes_append : (a b : List ℕ) → IsBytes a → IsBytes b → IsBytes (a ++ b)
bytes_append a b ok more i = elim (cases_lt i (length a)) [
  | inl lt ↦ rw (get_or_append_left a b 0 i lt) (ok i)
  | inr ge ↦ rw (get_or-append_right a b (length a) i 0 refl ge) (more (i - length a))
]

past_bytes : (l : List ℕ) (i : ℕ) → length l ≤ i → slice_index l i < 256
past_bytes l i le = rw (get_or_past l i 0 le) (omega arith)

pub bytes_concat : (ps : List (List ℕ)) → AllByRecursion IsBytes ps → IsBytes (concat ps)
bytes_concat [] all i = past_bytes [] i (omega arith)
bytes_concat (p ∷ ps) all i = bytes_append p (concat ps) all.0 (bytes_concat ps all.1) i

-- the payloads of a slot are bytes
slot_bytes : (b : Bool) (o : Option (List ℕ)) (rest : List (List ℕ)) → IfSome o IsBytes → AllByRecursion IsBytes rest → AllByRecursion IsBytes (option_case (cond b o None) rest (λ p. p ∷ rest))
slot_bytes true None rest h all = all
slot_bytes true (Some p) rest h all = (h, all)
slot_bytes false o rest h all = all

pub given_bytes : (n : ℕ) (l : List WireField) → AllByRecursion HasBytes l → AllByRecursion IsBytes (given (in_slot payload_in n) l)
given_bytes n [] h = tt
given_bytes n (f ∷ l) h = slot_bytes (eqb f.number n) (payload_in f.value) (given (in_slot payload_in n) l) h.0 (given_bytes n l h.1)
