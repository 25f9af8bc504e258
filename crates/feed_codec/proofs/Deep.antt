-- What is held is held in one field or in the others.
use Rattle.std.proofs.Common.{◌≡◌, ℕ, Option, Some, None, Ok, Err, Bool, true, false, ◌||◌, List, [], ◌∷◌, ◌++◌, refl, sym, ap, ◌∙◌, append-nil}
use Rattle.std.specs.declared.result.Result.{Result}
use Rattle.std.specs.Option.{is_some}
use Rattle.std.specs.List.{flat_map, list_any}
use Rattle.std.proofs.lemmas.List.Concat.{flat_map-append}
use Rattle.rt_wire.specs.declared.fault.WireFault.{WireFault}
use Rattle.rt_wire.specs.Placed.{PlacedField, Remaining, placed_fields}
use Rattle.rt_wire.specs.Fields.{WireField}
use Rattle.feed_values.specs.Meaning.{fields, whole_fields, given, in_slot, payload_in, option_case}
use Rattle.feed_codec.specs.Paths.{deep, holds, has_payload, is_payload, is_payload_without}
use Rattle.feed_codec.specs.Missing.{has_blank_in, has_blank_translation, is_blank, lacks_text}
use Rattle.feed_codec.proofs.Meanings.{given-append}

deep-append : (path : List ℕ) (a b : List WireField) → deep path (a ++ b) ≡ deep path a ++ deep path b
deep-append [] a b = refl
deep-append (n ∷ path) a b = ap (deep path) (ap (flat_map fields) (given-append (in_slot payload_in n) a b) ∙ flat_map-append fields (given (in_slot payload_in n) a) (given (in_slot payload_in n) b)) ∙ deep-append path (flat_map fields (given (in_slot payload_in n) a)) (flat_map fields (given (in_slot payload_in n) b))

or_assoc : (a b c : Bool) → (a || (b || c)) ≡ ((a || b) || c)
or_assoc true b c = refl
or_assoc false b c = refl

or_false : (b : Bool) → (b || false) ≡ b
or_false true = refl
or_false false = refl

any-append : (p : WireField → Bool) (a b : List WireField) → list_any p (a ++ b) ≡ (list_any p a || list_any p b)
any-append p [] b = refl
any-append p (x ∷ a) b = rw (any-append p a b) (or_assoc (p x) (list_any p a) (list_any p b))

holds_cons : (path : List ℕ) (test : WireField → Bool) (r : WireField) (l : List WireField) → holds path test (r ∷ l) ≡ (holds path test (r ∷ []) || holds path test l)
unfolding holds
holds_cons path test r l = ap (list_any test) (deep-append path (r ∷ []) l) ∙ any-append test (deep path (r ∷ [])) (deep path l)

holds_none : (path : List ℕ) (test : WireField → Bool) → holds path test [] ≡ false
unfolding holds
holds_none [] test = refl
holds_none (n ∷ path) test = holds_none path test

-- ---- one field
pub or_before : (before b : Bool) → before ≡ false → b ≡ (before || b)
or_before before b none = sym (ap (λ x. x || b) none)

pub held_here : (test : WireField → Bool) (r : WireField) → test r ≡ holds [] test (r ∷ [])
unfolding holds
held_here test r = sym (or_false (test r))

or_true : (b : Bool) → (b || true) ≡ true
or_true true = refl
or_true false = refl

pub payload_given : (n : ℕ) (r : WireField) (p : List ℕ) (before b : Bool) → Some p ≡ in_slot payload_in n r → b ≡ true → b ≡ (before || holds [] (is_payload n) (r ∷ []))
payload_given n r p before b e is = is ∙ sym (or_true before) ∙ ap (λ x. before || x) (ap is_some e ∙ held_here (is_payload n) r)

pub payload_absent : (n : ℕ) (r : WireField) (before : Bool) → None ≡ in_slot payload_in n r → before ≡ (before || holds [] (is_payload n) (r ∷ []))
payload_absent n r before e = sym (or_false before) ∙ ap (λ x. before || x) (ap is_some e ∙ held_here (is_payload n) r)

-- a field that has it, or what was before it
pub or_here : (test : WireField → Bool) (r : WireField) (before b : Bool) → before ≡ false → b ≡ test r → b ≡ (before || holds [] test (r ∷ []))
or_here test r before b none is = is ∙ held_here test r ∙ or_before before _ none

held_inside : (slot : ℕ) (path : List ℕ) (test : WireField → Bool) (r : WireField) → option_case (in_slot payload_in slot r) false (λ p. holds path test (fields p)) ≡ holds (slot ∷ path) test (r ∷ [])
unfolding holds
held_inside slot path test r = each (in_slot payload_in slot r)
  where
    each : (o : Option (List ℕ)) → option_case o false (λ p. list_any test (deep path (fields p))) ≡ list_any test (deep path (flat_map fields (option_case o [] (λ x. x ∷ []))))
    each None = sym (holds_none path test)
    each (Some p) = ap (λ l. list_any test (deep path l)) (sym (append-nil (fields p)))

pub inside_given : (slot : ℕ) (path : List ℕ) (test : WireField → Bool) (r : WireField) (p : List ℕ) → Some p ≡ in_slot payload_in slot r → holds path test (fields p) ≡ holds (slot ∷ path) test (r ∷ [])
inside_given slot path test r p e = ap (λ m. option_case m false (λ x. holds path test (fields x))) e ∙ held_inside slot path test r

pub inside_absent : (slot : ℕ) (path : List ℕ) (test : WireField → Bool) (r : WireField) → None ≡ in_slot payload_in slot r → false ≡ holds (slot ∷ path) test (r ∷ [])
inside_absent slot path test r e = ap (λ m. option_case m false (λ x. holds path test (fields x))) e ∙ held_inside slot path test r

pub before_absent : (slot : ℕ) (path : List ℕ) (test : WireField → Bool) (r : WireField) (before : Bool) → None ≡ in_slot payload_in slot r → before ≡ (before || holds (slot ∷ path) test (r ∷ []))
before_absent slot path test r before e = sym (or_false before) ∙ ap (λ b. before || b) (inside_absent slot path test r e)

pub payload_inside : (slot n : ℕ) (r : WireField) (p : List ℕ) → Some p ≡ in_slot payload_in slot r → has_payload n (fields p) ≡ holds (slot ∷ []) (is_payload n) (r ∷ [])
unfolding holds
payload_inside slot n r p e = inside_given slot [] (is_payload n) r p e

-- ---- what is held in a field or in the others
pub record IsSpread (P : List WireField → Bool) : Type 0 where
  pub none : P [] ≡ false
  pub more : (r : WireField) (l : List WireField) → P (r ∷ l) ≡ (P (r ∷ []) || P l)

pub holds_spread : (path : List ℕ) (test : WireField → Bool) → IsSpread (holds path test)
holds_spread path test = record { none = holds_none path test; more = holds_cons path test }

either : (a b c x y z : Bool) → ((a || x) || ((b || y) || (c || z))) ≡ ((a || (b || c)) || (x || (y || z)))
either true b c x y z = refl
either false true c true y z = refl
either false true c false y z = refl
either false false true true y z = refl
either false false true false true z = refl
either false false true false false z = refl
either false false false x y z = refl

one_of : (P Q R : List WireField → Bool) → IsSpread P → IsSpread Q → IsSpread R → IsSpread (λ l. P l || (Q l || R l))
one_of P Q R p q r = record {
  none = rw (p.none, q.none, r.none) refl;
  more = λ f l. rw (p.more f l, q.more f l, r.more f l) (either (P (f ∷ [])) (Q (f ∷ [])) (R (f ∷ [])) (P l) (Q l) (R l));
}

pub blank_spread : IsSpread is_blank
blank_spread = one_of (has_blank_in 8) (has_blank_in 10) (has_blank_in 11) (holds_spread (8 ∷ []) (is_payload_without 1 1)) (holds_spread (10 ∷ []) (is_payload_without 1 1)) (holds_spread (11 ∷ []) (is_payload_without 1 1))

pub text_spread : IsSpread lacks_text
text_spread = one_of (has_blank_translation 8) (has_blank_translation 10) (has_blank_translation 11) (holds_spread (5 ∷ 8 ∷ []) (is_payload_without 1 1)) (holds_spread (5 ∷ 10 ∷ []) (is_payload_without 1 1)) (holds_spread (5 ∷ 11 ∷ []) (is_payload_without 1 1))

-- the alert in a field
text_inside : (r : WireField) → option_case (in_slot payload_in 5 r) false (λ p. is_blank (fields p)) ≡ lacks_text (r ∷ [])
text_inside r = each (in_slot payload_in 5 r) ∙ rw (held_inside 5 (8 ∷ []) (is_payload_without 1 1) r, held_inside 5 (10 ∷ []) (is_payload_without 1 1) r, held_inside 5 (11 ∷ []) (is_payload_without 1 1) r) refl
  where
    each : (o : Option (List ℕ)) → option_case o false (λ p. is_blank (fields p))
        ≡ (option_case o false (λ p. has_blank_in 8 (fields p)) || (option_case o false (λ p. has_blank_in 10 (fields p)) || option_case o false (λ p. has_blank_in 11 (fields p))))
    each None = refl
    each (Some p) = refl

pub text_given : (r : WireField) (p : List ℕ) → Some p ≡ in_slot payload_in 5 r → is_blank (fields p) ≡ lacks_text (r ∷ [])
text_given r p e = ap (λ m. option_case m false (λ x. is_blank (fields x))) e ∙ text_inside r

pub text_absent : (r : WireField) (before : Bool) → None ≡ in_slot payload_in 5 r → before ≡ (before || lacks_text (r ∷ []))
text_absent r before e = sym (or_false before) ∙ ap (λ b. before || b) (ap (λ m. option_case m false (λ x. is_blank (fields x))) e ∙ text_inside r)

-- ---- a walk along fields: what was so far, or is in what is left, is in all
module _ (P : List WireField → Bool) where
  abbrev pub walked : List (Result PlacedField WireFault) → Bool → Bool
  walked left so_far = so_far || P (whole_fields left)

  pub walk_starts : (s : Remaining) (bytes : List ℕ) (so_far : Bool) → s ≡ record { whole = bytes; left = placed_fields bytes } → walked s.left so_far ≡ (so_far || P (fields bytes))
  unfolding fields
  walk_starts s bytes so_far e = ap (λ (x : Remaining). walked x.left so_far) e

  pub walk_steps : IsSpread P → (left rest : List (Result PlacedField WireFault)) (r : PlacedField) (before after all : Bool) → left ≡ Ok r ∷ rest → after ≡ (before || P (r.field ∷ [])) →
      walked left before ≡ all → walked rest after ≡ all
  walk_steps spread left rest r before after all e new h =
      ap (walked rest) new ∙ sym (or_assoc before (P (r.field ∷ [])) (P (whole_fields rest)))
      ∙ ap (λ b. before || b) (sym (spread.more r.field (whole_fields rest))) ∙ ap (λ l. walked l before) (sym e) ∙ h

  walk_stops : IsSpread P → (left : List (Result PlacedField WireFault)) (so_far all : Bool) → whole_fields left ≡ [] → walked left so_far ≡ all → so_far ≡ all
  walk_stops spread left so_far all e h = sym (or_false so_far) ∙ ap (λ b. so_far || b) (sym spread.none ∙ ap P (sym e)) ∙ h

  pub walk_ends : IsSpread P → (left : List (Result PlacedField WireFault)) (so_far all : Bool) → left ≡ [] → walked left so_far ≡ all → so_far ≡ all
  walk_ends spread left so_far all e = walk_stops spread left so_far all (ap whole_fields e)

  pub walk_faults : IsSpread P → (left rest : List (Result PlacedField WireFault)) (fault : WireFault) (so_far all : Bool) → left ≡ Err fault ∷ rest → walked left so_far ≡ all → so_far ≡ all
  walk_faults spread left rest fault so_far all e = walk_stops spread left so_far all (ap whole_fields e)

  -- what is there stays there
  pub walk_finds : (left : List (Result PlacedField WireFault)) (so_far all : Bool) → so_far ≡ true → walked left so_far ≡ all → so_far ≡ all
  walk_finds left so_far all e h = e ∙ sym (ap (walked left) e) ∙ h

  -- a walk up to the first field that has it
  pub found_here : IsSpread P → (left rest : List (Result PlacedField WireFault)) (r : PlacedField) (b all : Bool) → left ≡ Ok r ∷ rest → b ≡ P (r.field ∷ []) → b ≡ true → P (whole_fields left) ≡ all → true ≡ all
  found_here spread left rest r b all e is has h = walk_steps spread left rest r false true all e (sym has ∙ is) h

  pub found_later : IsSpread P → (left rest : List (Result PlacedField WireFault)) (r : PlacedField) (b all : Bool) → left ≡ Ok r ∷ rest → b ≡ P (r.field ∷ []) → b ≡ false → P (whole_fields left) ≡ all → P (whole_fields rest) ≡ all
  found_later spread left rest r b all e is lacks h = walk_steps spread left rest r false false all e (sym lacks ∙ is) h
