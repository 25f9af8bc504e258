-- The tree of a text, and what its items are.
use Rattle.std.proofs.Common.{◌≡◌, ◌<◌, ◌+◌, ℕ, suc, List, [], ◌∷◌, ◌++◌, length, drop, get_or, Bool, true, false, Option, Some, None, refl, sym, ap, ◌∙◌, arith, append_assoc}
use Rattle.std.specs.Prelude.{option_map, option_and_then}
use Rattle.std.specs.Str.{IsUtf8, is_utf8}
use Rattle.std.proofs.Math.Seq.{drop-cons}
use Rattle.std.proofs.lemmas.Str.{IsUtf8-from_is_utf8, is_utf8-from_IsUtf8}
use Rattle.serde_json.specs.Data.{Data}
use Rattle.serde_json.specs.Read.{read}
use Rattle.serde_json.specs.View.{items_view, view}
use Rattle.serde_json.specs.declared.value.Value.{Value}
use Rattle.report_verify.specs.Said.{all_of}
use Rattle.report_verify.specs.Spelled.{tree_of}

pub tree_read : (bytes : List ℕ) (d : Data) → IsUtf8 bytes × (read bytes ≡ Some d) → Some d ≡ tree_of bytes
tree_read bytes d h = sym (rw (is_utf8-from_IsUtf8 bytes h.0) h.1)

by_utf8 : (bytes : List ℕ) (b : Bool) → is_utf8 bytes ≡ b → (IsUtf8 bytes → read bytes ≡ None) → tree_of bytes ≡ None
by_utf8 bytes true e none = rw e (none (IsUtf8-from_is_utf8 bytes e))
by_utf8 bytes false e none = rw e refl

pub tree_refused : (bytes : List ℕ) → (IsUtf8 bytes → read bytes ≡ None) → None ≡ tree_of bytes
tree_refused bytes none = sym (by_utf8 bytes (is_utf8 bytes) refl none)

-- ---- items
-- what stands in front, and the rest
abbrev pub all_with : {A : Type 0} → List A → Option (List A) → Option (List A)
all_with front rest = option_map (λ xs. front ++ xs) rest

next : {A : Type 0} (front : List A) (a : A) (o : Option (List A)) → all_with (front ++ a ∷ []) o ≡ all_with front (option_map (λ rest. a ∷ rest) o)
next front a None = refl
next front a (Some rest) = ap Some (append_assoc front (a ∷ []) rest)

module _ {A : Type 0} (read : Data → Option A) where
  left : (vs : List Value) (i : ℕ) (d : Value) → i < length vs
      → all_of read (items_view (drop i vs)) ≡ option_and_then (λ a. option_map (λ rest. a ∷ rest) (all_of read (items_view (drop (i + 1) vs)))) (read (view (get_or vs i d)))
  left vs i d h =
      let after : suc i ≡ i + 1 = omega arith in
      ap (λ xs. all_of read (items_view xs)) (drop-cons vs i d h)
      ∙ ap (λ j. option_and_then (λ a. option_map (λ rest. a ∷ rest) (all_of read (items_view (drop j vs)))) (read (view (get_or vs i d)))) after

  -- one more that is read
  pub all_more : (vs : List Value) (i : ℕ) (d : Value) (front : List A) (a : A) → i < length vs → read (view (get_or vs i d)) ≡ Some a
      → all_with front (all_of read (items_view (drop i vs))) ≡ all_of read (items_view vs) → all_with (front ++ a ∷ []) (all_of read (items_view (drop (i + 1) vs))) ≡ all_of read (items_view vs)
  all_more vs i d front a h e so =
      next front a (all_of read (items_view (drop (i + 1) vs)))
      ∙ sym (ap (all_with front) (left vs i d h ∙ ap (option_and_then (λ x. option_map (λ rest. x ∷ rest) (all_of read (items_view (drop (i + 1) vs))))) e)) ∙ so

  -- one that isn't
  pub all_none : (vs : List Value) (i : ℕ) (d : Value) (front : List A) → i < length vs → read (view (get_or vs i d)) ≡ None
      → all_with front (all_of read (items_view (drop i vs))) ≡ all_of read (items_view vs) → None ≡ all_of read (items_view vs)
  all_none vs i d front h e so =
      sym (ap (all_with front) (left vs i d h ∙ ap (option_and_then (λ x. option_map (λ rest. x ∷ rest) (all_of read (items_view (drop (i + 1) vs))))) e)) ∙ so
