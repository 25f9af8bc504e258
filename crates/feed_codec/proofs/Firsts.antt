-- The first fault that is computed is the one that the relation says, whatever is asked of payloads.
use Rattle.std.proofs.Common.{◌≡◌, ℕ, ◌+◌, ◌-◌, List, [], ◌∷◌, ◌++◌, length, map, Option, Some, None, Result, Ok, Err, refl, sym, ap, subst, ◌∙◌, arith, inl, inr, ◌⊎◌, append_assoc, add_assoc, zero-add}
use Rattle.std.specs.Option.{option_map, option_or}
use Rattle.std.specs.List.{AllByRecursion}
use Rattle.std.specs.Prelude.{IfSome}
use Rattle.std.proofs.lemmas.List.{append-nil, length-append}
use Rattle.rt_wire.specs.declared.fault.WireFault.{WireFault}
use Rattle.rt_wire.specs.Fields.{IsBytes, WireField, WireValue, Varint, Fixed64, Len, Group, Fixed32, Joins, Spells}
use Rattle.rt_wire.specs.Placed.{PlacedField, placed_fields, placed_fields_from, spelled_at, moved}
use Rattle.rt_wire.specs.Placed.{fault_moved}
use Rattle.rt_wire.specs.Faults.{OwnFault}
use Rattle.std.specs.Prelude.{MatchOption}
use Rattle.rt_wire.specs.Laws.{FaultBehind, fault_last}
use Rattle.rt_wire.proofs.Complete.{field_reads, some_of}
use Rattle.rt_wire.proofs.Stream.{left_field, left_none}
use Rattle.rt_wire.proofs.Whole.{spelled_is_read, read_is_spelled, join_is_read, fault_is_exact}
use Rattle.feed_values.specs.Meaning.{payload_in, option_case}
use Rattle.feed_codec.specs.declared.refusal.Refusal.{Refusal}
use Rattle.feed_codec.specs.Refusal.{refused, shifted, own_fault, first_in, in_payload}
use Rattle.feed_codec.specs.FirstFault.{FrontGoesWrong, no_field, inside, FirstIn}
use Rattle.feed_codec.proofs.Bytes.{bytes_left, bytes_right, HasBytes, field_bytes, fields_bytes}
use Rattle.feed_codec.proofs.ValidTexts.{nothing, neither, unmapped}

-- What is asked of payloads, computed and as a relation, and what is true of a field with which nothing is wrong.
pub record Agrees (wrong : ℕ → List ℕ → Option Refusal) (Wrong : ℕ → List ℕ → Refusal → Type 0) (Whole : WireField → Type 0) : Type 0 where
  pub found : (n : ℕ) (p : List ℕ) (r : Refusal) → IsBytes p → wrong n p ≡ Some r → Wrong n p r
  pub is : (n : ℕ) (p : List ℕ) (r : Refusal) → IsBytes p → Wrong n p r → wrong n p ≡ Some r
  pub none : (n : ℕ) (p : List ℕ) → IsBytes p → wrong n p ≡ nothing → Whole (record { number = n; value = Len p })
  pub whole : (n : ℕ) (p : List ℕ) → IsBytes p → Whole (record { number = n; value = Len p }) → wrong n p ≡ nothing
  pub other : (f : WireField) → payload_in f.value ≡ None → Whole f

-- a message, of fields that are whole
abbrev pub Faultless : (WireField → Type 0) → List ℕ → Type 0
Faultless Whole bytes = (l : List WireField) × Joins (Spells 100) l bytes × AllByRecursion Whole l

-- ---- one field

pub field_whole : {wrong : ℕ → List ℕ → Option Refusal} {Wrong : ℕ → List ℕ → Refusal → Type 0} {Whole : WireField → Type 0} → Agrees wrong Wrong Whole
    → (number body : ℕ) (x : WireValue) → IfSome (payload_in x) IsBytes → option_case (payload_in x) nothing (λ p. option_map (shifted body) (wrong number p)) ≡ nothing → Whole (record { number = number; value = x })
field_whole a number body (Len p) ok e = a.none number p ok (unmapped body _ e)
field_whole a number body (Varint n) ok e = a.other (record { number = number; value = Varint n }) refl
field_whole a number body (Fixed64 n) ok e = a.other (record { number = number; value = Fixed64 n }) refl
field_whole a number body (Group g) ok e = a.other (record { number = number; value = Group g }) refl
field_whole a number body (Fixed32 n) ok e = a.other (record { number = number; value = Fixed32 n }) refl

field_none : {wrong : ℕ → List ℕ → Option Refusal} {Wrong : ℕ → List ℕ → Refusal → Type 0} {Whole : WireField → Type 0} → Agrees wrong Wrong Whole
    → (number body : ℕ) (x : WireValue) → IfSome (payload_in x) IsBytes → Whole (record { number = number; value = x }) → option_case (payload_in x) nothing (λ p. option_map (shifted body) (wrong number p)) ≡ nothing
field_none a number body (Len p) ok w = rw (a.whole number p ok w) refl
field_none a number body (Varint n) ok w = refl
field_none a number body (Fixed64 n) ok w = refl
field_none a number body (Group g) ok w = refl
field_none a number body (Fixed32 n) ok w = refl

-- ---- where nothing is wrong

no_fault : (inner : PlacedField → Option Refusal) (fs : List PlacedField) (f : WireFault) → first_in inner (map (λ p. Ok p) fs ++ Err f ∷ []) ≡ nothing → ⊥
no_fault inner [] f e = cc
no_fault inner (p ∷ fs) f e = no_fault inner fs f (neither (inner p) _ e).1

fields_whole : {wrong : ℕ → List ℕ → Option Refusal} {Wrong : ℕ → List ℕ → Refusal → Type 0} {Whole : WireField → Type 0} → Agrees wrong Wrong Whole
    → (fs : List PlacedField) (tail : List (Result PlacedField WireFault)) → AllByRecursion HasBytes (map (λ p. p.field) fs) → first_in (in_payload wrong) (map (λ p. Ok p) fs ++ tail) ≡ nothing
    → AllByRecursion Whole (map (λ p. p.field) fs)
fields_whole a [] tail ok e = tt
fields_whole a (p ∷ fs) tail ok e =
    let n = neither (option_case (payload_in p.field.value) nothing _) _ e in
    (field_whole a p.field.number p.body p.field.value ok.0 n.0, fields_whole a fs tail ok.1 n.1)

faultless_by : {wrong : ℕ → List ℕ → Option Refusal} {Wrong : ℕ → List ℕ → Refusal → Type 0} {Whole : WireField → Type 0} → Agrees wrong Wrong Whole
    → (bytes : List ℕ) → IsBytes bytes → first_in (in_payload wrong) (placed_fields bytes) ≡ nothing → (fs : List PlacedField) (front rest : List ℕ) (o : Option WireFault)
    → placed_fields bytes ≡ map (λ p. Ok p) fs ++ fault_last o → bytes ≡ front ++ rest → Joins (Spells 100) (map (λ p. p.field) fs) front → MatchOption o (rest ≡ []) (FaultBehind front rest) → Faultless Whole bytes
faultless_by a bytes ok e fs front rest None parts whole joins ends =
    let same : front ≡ bytes = sym (append-nil front) ∙ ap (λ (l : List ℕ). front ++ l) (sym ends) ∙ sym whole in
    let each = fields_bytes (map (λ p. p.field) fs) front joins (bytes_left front rest (rw whole at ok)) in
    (map (λ p. p.field) fs, subst (λ (b : List ℕ). Joins (Spells 100) (map (λ p. p.field) fs) b) same joins, fields_whole a fs [] each (rw parts at e))
faultless_by a bytes ok e fs front rest (Some f) parts whole joins ends = absurd (no_fault _ fs f (rw parts at e))

pub none_faultless : {wrong : ℕ → List ℕ → Option Refusal} {Wrong : ℕ → List ℕ → Refusal → Type 0} {Whole : WireField → Type 0} → Agrees wrong Wrong Whole
    → (bytes : List ℕ) → IsBytes bytes → first_in (in_payload wrong) (placed_fields bytes) ≡ nothing → Faultless Whole bytes
none_faultless a bytes ok e = let r = read_is_spelled bytes ok in faultless_by a bytes ok e r.fields r.front r.rest r.fault r.parts r.whole r.joins r.ends

places_none : {wrong : ℕ → List ℕ → Option Refusal} {Wrong : ℕ → List ℕ → Refusal → Type 0} {Whole : WireField → Type 0} → Agrees wrong Wrong Whole
    → (fs : List PlacedField) (l : List WireField) → map (λ p. p.field) fs ≡ l → AllByRecursion HasBytes l → AllByRecursion Whole l → first_in (in_payload wrong) (map (λ p. Ok p) fs) ≡ nothing
places_none a [] l e ok w = refl
places_none a (p ∷ fs) [] e ok w = absurd cc
places_none a (p ∷ fs) (f ∷ l) e ok w =
    let here : p.field ≡ f = cc in
    let later : map (λ p. p.field) fs ≡ l = cc in
    rw (field_none a p.field.number p.body p.field.value (rw here ok.0) (rw here w.0)) (places_none a fs l later ok.1 w.1)

pub faultless_none : {wrong : ℕ → List ℕ → Option Refusal} {Wrong : ℕ → List ℕ → Refusal → Type 0} {Whole : WireField → Type 0} → Agrees wrong Wrong Whole
    → (bytes : List ℕ) → IsBytes bytes → Faultless Whole bytes → first_in (in_payload wrong) (placed_fields bytes) ≡ nothing
faultless_none {wrong = wrong} a bytes ok m =
    let h = spelled_is_read m.0 bytes m.1 in
    ap (first_in (in_payload wrong)) h.all ∙ places_none a h.places m.0 h.fields (fields_bytes m.0 bytes m.1 ok) m.2

-- ---- a front of whole fields

shifted_twice : (m n : ℕ) (o : Option Refusal) → option_map (shifted (m + n)) o ≡ option_map (shifted m) (option_map (shifted n) o)
shifted_twice m n None = refl
shifted_twice m n (Some r) = ap (λ (at : ℕ). Some (refused at r.reason)) (add_assoc m n r.at)

shifted_none : (o : Option Refusal) → option_map (shifted 0) o ≡ o
shifted_none None = refl
shifted_none (Some r) = ap (λ (at : ℕ). Some (refused at r.reason)) (zero-add r.at)

shifted_or : (n : ℕ) (o q : Option Refusal) → option_or (option_map (shifted n) o) (option_map (shifted n) q) ≡ option_map (shifted n) (option_or o q)
shifted_or n None q = refl
shifted_or n (Some r) q = refl

inner_moved : (wrong : ℕ → List ℕ → Option Refusal) (n number body : ℕ) (o : Option (List ℕ)) → option_case o nothing (λ p. option_map (shifted (n + body)) (wrong number p)) ≡ option_map (shifted n) (option_case o nothing (λ p. option_map (shifted body) (wrong number p)))
inner_moved wrong n number body None = refl
inner_moved wrong n number body (Some p) = shifted_twice n body (wrong number p)

-- the same first fault, so many bytes further on
first_moved : (wrong : ℕ → List ℕ → Option Refusal) (n : ℕ) (parts : List (Result PlacedField WireFault)) → first_in (in_payload wrong) (map (moved n) parts) ≡ option_map (shifted n) (first_in (in_payload wrong) parts)
first_moved wrong n [] = refl
first_moved wrong n (Ok p ∷ parts) =
    rw (inner_moved wrong n p.field.number p.body (payload_in p.field.value), first_moved wrong n parts) (shifted_or n (in_payload wrong p) (first_in (in_payload wrong) parts))
first_moved wrong n (Err f ∷ parts) = refl

first_past : (inner : PlacedField → Option Refusal) (fs : List PlacedField) (tail : List (Result PlacedField WireFault)) → first_in inner (map (λ p. Ok p) fs) ≡ nothing → first_in inner (map (λ p. Ok p) fs ++ tail) ≡ first_in inner tail
first_past inner [] tail e = refl
first_past inner (p ∷ fs) tail e = let n = neither (inner p) _ e in rw n.0 (first_past inner fs tail n.1)

pub first_behind : {wrong : ℕ → List ℕ → Option Refusal} {Wrong : ℕ → List ℕ → Refusal → Type 0} {Whole : WireField → Type 0} → Agrees wrong Wrong Whole
    → (l : List WireField) (front rest : List ℕ) → Joins (Spells 100) l front → AllByRecursion Whole l → IsBytes front
    → first_in (in_payload wrong) (placed_fields (front ++ rest)) ≡ option_map (shifted (length front)) (first_in (in_payload wrong) (placed_fields rest))
first_behind {wrong = wrong} a l front rest joins whole ok =
    let h = spelled_is_read l front joins in
    ap (first_in (in_payload wrong)) (join_is_read l front rest joins ∙ ap (λ (t : List (Result PlacedField WireFault)). t ++ map (moved (length front)) (placed_fields rest)) h.all)
    ∙ first_past (in_payload wrong) h.places _ (places_none a h.places l h.fields (fields_bytes l front joins ok) whole)
    ∙ first_moved wrong (length front) (placed_fields rest)

-- ---- the field at the front

pub one_place : (f : WireField) (spelled : List ℕ) → Spells 100 f spelled → placed_fields spelled ≡ Ok (spelled_at 0 f spelled) ∷ []
unfolding placed_fields
one_place f spelled s =
    let some = some_of 100 f spelled s in
    left_field spelled 0 (spelled_at 0 f spelled) some (field_reads f spelled spelled 0 [] s (record { front = []; is = sym (append-nil spelled); place = refl })) (omega (arith, some)) (omega arith)
    ∙ ap (λ (t : List (Result PlacedField WireFault)). Ok (spelled_at 0 f spelled) ∷ t) (left_none spelled (0 + length spelled) (omega arith))

pub first_here : (wrong : ℕ → List ℕ → Option Refusal) (f : WireField) (spelled more : List ℕ) → Spells 100 f spelled
    → first_in (in_payload wrong) (placed_fields (spelled ++ more)) ≡ option_or (in_payload wrong (spelled_at 0 f spelled)) (option_map (shifted (length spelled)) (first_in (in_payload wrong) (placed_fields more)))
first_here wrong f spelled more s =
    ap (first_in (in_payload wrong)) (join_is_read (f ∷ []) spelled more (spelled, [], sym (append-nil spelled), s, refl) ∙ ap (λ (t : List (Result PlacedField WireFault)). t ++ map (moved (length spelled)) (placed_fields more)) (one_place f spelled s))
    ∙ ap (option_or (in_payload wrong (spelled_at 0 f spelled))) (first_moved wrong (length spelled) (placed_fields more))

-- what is wrong inside the field at the front
inside_here : (wrong : ℕ → List ℕ → Option Refusal) (number at : ℕ) (x : WireValue) (b p : List ℕ) → payload_in x ≡ Some p
    → in_payload wrong (spelled_at at (record { number = number; value = x }) b) ≡ option_map (shifted (at + (length b - length p))) (wrong number p)
inside_here wrong number at (Len q) b p e = let same : q ≡ p = cc in rw same refl
inside_here wrong number at (Varint n) b p e = absurd cc
inside_here wrong number at (Fixed64 n) b p e = absurd cc
inside_here wrong number at (Group g) b p e = absurd cc
inside_here wrong number at (Fixed32 n) b p e = absurd cc

-- ---- from the relation to the computed fault

nothing_read : placed_fields [] ≡ []
unfolding placed_fields placed_fields_from
nothing_read = refl

own_here : (wrong : ℕ → List ℕ → Option Refusal) (rest : List ℕ) (f : WireFault) → OwnFault rest f → first_in (in_payload wrong) (placed_fields rest) ≡ Some (own_fault f)
own_here wrong rest f o =
    ap (first_in (in_payload wrong)) (fault_is_exact.answered [] [] rest f refl o ∙ ap (λ (t : List (Result PlacedField WireFault)). t ++ Err (fault_moved 0 f) ∷ []) nothing_read) ∙ ap (λ (at : ℕ). Some (refused at (own_fault f).reason)) (zero-add f.at)

goes_wrong_first : {wrong : ℕ → List ℕ → Option Refusal} {Wrong : ℕ → List ℕ → Refusal → Type 0} {Whole : WireField → Type 0} → Agrees wrong Wrong Whole → (bytes : List ℕ) (r : Refusal) → IsBytes bytes → FrontGoesWrong Wrong bytes r → first_in (in_payload wrong) (placed_fields bytes) ≡ Some r
goes_wrong_first {wrong = wrong} a bytes r ok (no_field f o e) = own_here wrong bytes f o ∙ ap (λ (x : Refusal). Some x) (sym e)
goes_wrong_first {wrong = wrong} a bytes r ok (inside f spelled more p inner e s h w k) =
    let all : IsBytes (spelled ++ more) = rw e at ok in
    let some : IsBytes p = bytes_of_some f.value p h (field_bytes f spelled s (bytes_left spelled more all)) in
    rw e (first_here wrong f spelled more s ∙ ap (λ o. option_or o (option_map (shifted (length spelled)) (first_in (in_payload wrong) (placed_fields more)))) (inside_here wrong f.number 0 f.value spelled p h ∙ ap (option_map (shifted (0 + (length spelled - length p)))) (a.is f.number p inner some w))
    ∙ ap (λ (at : ℕ). Some (refused (at + inner.at) inner.reason)) (zero-add (length spelled - length p)) ∙ ap (λ (x : Refusal). Some x) (sym k))
  where
    bytes_of_some : (x : WireValue) (p : List ℕ) → payload_in x ≡ Some p → IfSome (payload_in x) IsBytes → IsBytes p
    bytes_of_some x p e ok = rw e at ok

pub first_found : {wrong : ℕ → List ℕ → Option Refusal} {Wrong : ℕ → List ℕ → Refusal → Type 0} {Whole : WireField → Type 0} → Agrees wrong Wrong Whole → (bytes : List ℕ) (r : Refusal) → IsBytes bytes → FirstIn Whole Wrong bytes r → first_in (in_payload wrong) (placed_fields bytes) ≡ Some r
first_found {wrong = wrong} a bytes r ok w =
    let all : IsBytes (w.front ++ w.rest) = rw w.bytes_are at ok in
    rw w.bytes_are (first_behind a w.fields w.front w.rest w.joins w.whole (bytes_left w.front w.rest all)
    ∙ ap (option_map (shifted (length w.front))) (goes_wrong_first a w.rest w.first (bytes_right w.front w.rest all) w.wrong)
    ∙ ap (λ (x : Refusal). Some x) (sym w.place))

-- ---- from the computed fault to the relation

-- one whole field more in front
one_more : {Whole : WireField → Type 0} {Wrong : ℕ → List ℕ → Refusal → Type 0} (f : WireField) (spelled more : List ℕ) (r : Refusal) → Spells 100 f spelled → Whole f → FirstIn Whole Wrong more r → FirstIn Whole Wrong (spelled ++ more) (shifted (length spelled) r)
one_more f spelled more r s whole w = record {
  fields = f ∷ w.fields;
  front = spelled ++ w.front;
  rest = w.rest;
  bytes_are = ap (λ (l : List ℕ). spelled ++ l) w.bytes_are ∙ sym (append_assoc spelled w.front w.rest);
  joins = (spelled, w.front, refl, s, w.joins);
  whole = (whole, w.whole);
  first = w.first;
  wrong = w.wrong;
  place = ap (shifted (length spelled)) w.place ∙ ap (λ (at : ℕ). refused at w.first.reason) (sym (add_assoc (length spelled) (length w.front) w.first.at) ∙ ap (λ (n : ℕ). n + w.first.at) (sym (length-append spelled w.front)));
}

-- nothing in front
at_once : {Whole : WireField → Type 0} {Wrong : ℕ → List ℕ → Refusal → Type 0} (bytes : List ℕ) (r : Refusal) → FrontGoesWrong Wrong bytes r → FirstIn Whole Wrong bytes r
at_once bytes r w = record { fields = []; front = []; rest = bytes; bytes_are = refl; joins = refl; whole = tt; first = r; wrong = w; place = ap (λ (at : ℕ). refused at r.reason) (sym (zero-add r.at)) }

pub either : (o q : Option Refusal) (r : Refusal) → option_or o q ≡ Some r → (o ≡ Some r) ⊎ ((o ≡ nothing) × (q ≡ Some r))
either None q r e = inr (refl, e)
either (Some x) q r e = inl e

unshifted : (n : ℕ) (o : Option Refusal) (r : Refusal) → option_map (shifted n) o ≡ Some r → (inner : Refusal) × (o ≡ Some inner) × (r ≡ shifted n inner)
unshifted n None r e = absurd cc
unshifted n (Some x) r e = (x, refl, cc)

-- the payload in which something is wrong
abbrev WrongInside : (ℕ → List ℕ → Refusal → Type 0) → ℕ → WireValue → ℕ → List ℕ → Refusal → Type 0
WrongInside Wrong number x at b r = (p : List ℕ) × (payload_in x ≡ Some p) × ((inner : Refusal) × Wrong number p inner × (r ≡ shifted (at + (length b - length p)) inner))

inside_found : {wrong : ℕ → List ℕ → Option Refusal} {Wrong : ℕ → List ℕ → Refusal → Type 0} {Whole : WireField → Type 0} → Agrees wrong Wrong Whole → (number at : ℕ) (x : WireValue) (b : List ℕ) (r : Refusal) → IfSome (payload_in x) IsBytes
    → in_payload wrong (spelled_at at (record { number = number; value = x }) b) ≡ Some r → WrongInside Wrong number x at b r
inside_found a number at (Len p) b r ok e =
    let u = unshifted (at + (length b - length p)) _ r e in
    (p, refl, (u.0, a.found number p u.0 ok u.1, u.2))
inside_found a number at (Varint n) b r ok e = absurd cc
inside_found a number at (Fixed64 n) b r ok e = absurd cc
inside_found a number at (Group g) b r ok e = absurd cc
inside_found a number at (Fixed32 n) b r ok e = absurd cc

-- at a field at the front: the fault is inside it, or behind it
next_found : {wrong : ℕ → List ℕ → Option Refusal} {Wrong : ℕ → List ℕ → Refusal → Type 0} {Whole : WireField → Type 0} → Agrees wrong Wrong Whole → (f : WireField) (spelled more : List ℕ) (r : Refusal) → Spells 100 f spelled → IsBytes spelled
    → ((q : Refusal) → first_in (in_payload wrong) (placed_fields more) ≡ Some q → FirstIn Whole Wrong more q)
    → first_in (in_payload wrong) (placed_fields (spelled ++ more)) ≡ Some r → FirstIn Whole Wrong (spelled ++ more) r
next_found {wrong = wrong} {Wrong = Wrong} {Whole = Whole} a f spelled more r s ok later e =
    let some = field_bytes f spelled s ok in
    elim (either (in_payload wrong (spelled_at 0 f spelled)) _ r (sym (first_here wrong f spelled more s) ∙ e)) [
      | inl here ↦
          let w = inside_found a f.number 0 f.value spelled r some here in
          at_once (spelled ++ more) r (inside f spelled more w.0 w.2.0 refl s w.1 w.2.1 (w.2.2 ∙ ap (λ (n : ℕ). shifted n w.2.0) (zero-add (length spelled - length w.0))))
      | inr behind ↦
          let u = unshifted (length spelled) _ r behind.1 in
          let whole : Whole f = field_whole a f.number (0 + _) f.value some behind.0 in
          rw u.2 (one_more f spelled more u.0 s whole (later u.0 u.1))
    ]

found_behind : {wrong : ℕ → List ℕ → Option Refusal} {Wrong : ℕ → List ℕ → Refusal → Type 0} {Whole : WireField → Type 0} → Agrees wrong Wrong Whole → (l : List WireField) (front rest : List ℕ) (r : Refusal) → Joins (Spells 100) l front → IsBytes (front ++ rest)
    → ((q : Refusal) → first_in (in_payload wrong) (placed_fields rest) ≡ Some q → FirstIn Whole Wrong rest q)
    → first_in (in_payload wrong) (placed_fields (front ++ rest)) ≡ Some r → FirstIn Whole Wrong (front ++ rest) r
found_behind a [] front rest r j ok later e = rw j (later r (rw j at e))
found_behind {wrong = wrong} {Wrong = Wrong} {Whole = Whole} a (f ∷ l) front rest r j ok later e =
    let same : front ++ rest ≡ j.0 ++ (j.1 ++ rest) = ap (λ (b : List ℕ). b ++ rest) j.2 ∙ append_assoc j.0 j.1 rest in
    let all : IsBytes (j.0 ++ (j.1 ++ rest)) = rw same at ok in
    rw same (next_found a f j.0 (j.1 ++ rest) r j.3 (bytes_left j.0 (j.1 ++ rest) all)
    (λ q h. found_behind a l j.1 rest q j.4 (bytes_right j.0 (j.1 ++ rest) all) later h) (rw same at e))

found_last : {wrong : ℕ → List ℕ → Option Refusal} {Wrong : ℕ → List ℕ → Refusal → Type 0} {Whole : WireField → Type 0} → Agrees wrong Wrong Whole → (front rest : List ℕ) (o : Option WireFault) → MatchOption o (rest ≡ []) (FaultBehind front rest)
    → (q : Refusal) → first_in (in_payload wrong) (placed_fields rest) ≡ Some q → FirstIn Whole Wrong rest q
found_last {wrong = wrong} a front rest None ends q e = absurd (nothing_there (ap (first_in (in_payload wrong)) (sym nothing_read) ∙ rw ends at e))
  where
    nothing_there : nothing ≡ Some q → ⊥
    nothing_there h = cc
found_last {wrong = wrong} a front rest (Some f) ends q e =
    at_once rest q (no_field ends.own ends.wrong (some_is (sym e ∙ own_here wrong rest ends.own ends.wrong)))
  where
    some_is : Some q ≡ Some (own_fault ends.own) → q ≡ own_fault ends.own
    some_is h = cc

pub found_first : {wrong : ℕ → List ℕ → Option Refusal} {Wrong : ℕ → List ℕ → Refusal → Type 0} {Whole : WireField → Type 0} → Agrees wrong Wrong Whole → (bytes : List ℕ) (r : Refusal) → IsBytes bytes → first_in (in_payload wrong) (placed_fields bytes) ≡ Some r → FirstIn Whole Wrong bytes r
found_first a bytes r ok e =
    let t = read_is_spelled bytes ok in
    rw t.whole (found_behind a _ t.front t.rest r t.joins (rw t.whole at ok) (found_last a t.front t.rest t.fault t.ends) (rw t.whole at e))
