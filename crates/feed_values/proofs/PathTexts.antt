-- The text of a path is made of its parts.
use Rattle.std.proofs.Common.{◌≡◌, ℕ, true, false, cond, List, [], ◌∷◌, ◌++◌, append_assoc, refl, sym, ap, ◌∙◌}
use Rattle.std.specs.Prelude.{codes, decimal}
use Rattle.std.proofs.lemmas.List.{append-nil}
use Rattle.feed_values.specs.declared.slot.Slot.{Slot}
use Rattle.feed_values.specs.declared.slot.Slot.TheVariants.{S1}
use Rattle.feed_values.specs.Cells.{Step, field, item, way, has_item, step_text, way_text, is_of_header, path_text}
use Rattle.feed_values.specs.PathTexts.{names_before, after_item, names_after, text_before_index, text_after_index}

-- the index does nothing where a way leads through no item
plain_way : (index : ℕ) (w : List Step) → has_item w ≡ false → way_text index w ≡ names_before w
plain_way index [] e = refl
plain_way index (item name ∷ steps) e = absurd cc
plain_way index (field name ∷ []) e = refl
plain_way index (field name ∷ next ∷ steps) e = ap (λ (t : List ℕ). codes name ++ codes "." ++ t) (plain_way index (next ∷ steps) e)

pub without_index : (slot : Slot) (index : ℕ) → has_item (way slot) ≡ false → text_before_index slot ≡ path_text slot index
without_index slot index e = ap (λ (t : List ℕ). cond (is_of_header slot) (codes "header.") [] ++ t) (sym (plain_way index (way slot) e))

-- an index in brackets
abbrev bracketed : ℕ → List ℕ
bracketed index = codes "[" ++ decimal index ++ codes "]"

item_way : (index : ℕ) (w : List Step) → has_item w ≡ true → has_item (after_item w) ≡ false → way_text index w ≡ names_before w ++ (bracketed index ++ names_after (after_item w))
item_way index [] e k = absurd cc
item_way index (item name ∷ []) e k = simp (append_assoc, append-nil)
item_way index (item name ∷ next ∷ steps) e k =
    let same : way_text index (next ∷ steps) ≡ way_text 0 (next ∷ steps) = plain_way index (next ∷ steps) k ∙ sym (plain_way 0 (next ∷ steps) k) in
    ap (λ (t : List ℕ). step_text index (item name) ++ codes "." ++ t) same ∙ simp append_assoc
item_way index (field name ∷ []) e k = absurd cc
item_way index (field name ∷ next ∷ steps) e k =
    ap (λ (t : List ℕ). codes name ++ codes "." ++ t) (item_way index (next ∷ steps) e k) ∙ sym (append_assoc (codes name ++ codes ".") (names_before (next ∷ steps)) (bracketed index ++ names_after (after_item (next ∷ steps))))

-- no way leads through two items
one_item : (slot : Slot) → has_item (after_item (way slot)) ≡ false
one_item S1 = refl
one_item _ = refl

pub with_index : (slot : Slot) (index : ℕ) → has_item (way slot) ≡ true → text_before_index slot ++ (codes "[" ++ (decimal index ++ (codes "]" ++ text_after_index slot))) ≡ path_text slot index
with_index slot index e = rw (item_way index (way slot) e (one_item slot)) (simp append_assoc)
