-- The texts of paths are read as the paths.
use Rattle.std.proofs.Common.{◌≡◌, ◌<◌, ◌^◌, ◌==◌, if◌then◌else◌, ℕ, List, [], ◌∷◌, ◌++◌, length, Bool, true, false, Some, decimal, refl, sym, ap, ◌∙◌, arith}
use Rattle.std.specs.Char.{is_ascii_digit}
use Rattle.std.specs.List.{list_all, list_any, before_first, after_first, position_or_len}
use Rattle.std.proofs.lemmas.Bool.{or_parts, and_parts}
use Rattle.std.proofs.Math.Seq.{take-append_seam, drop-append-add}
use Rattle.std.proofs.lemmas.Bool.Decides.{nat_tests}
use Rattle.std.proofs.lemmas.Fmt.{digits_decimal}
use Rattle.feed_values.specs.declared.slot.Slot.{Slot}
use Rattle.feed_values.specs.declared.slot.Slot.TheVariants.{S1}
use Rattle.feed_values.specs.declared.path.Path.{Path}
use Rattle.feed_values.specs.Cells.{has_item, way, path_text}
use Rattle.feed_values.specs.PathTexts.{text_before_index, text_after_index}
use Rattle.feed_values.proofs.PathTexts.{with_index}
use Rattle.rt_day.proofs.DigitLemmas as digit
use Rattle.finding_names.specs.Laws.{IsPathWithin}
use Rattle.finding_names.specs.Numbers.{u32_named}
use Rattle.finding_names.specs.Paths.{after_opening, first_given, item_path, item_slot, path_named, plain_path}
use Rattle.finding_names.proofs.NumberLemmas.{u32_read}

-- the first of its kind behind some that are none
first_mark : (p : ℕ → Bool) (xs : List ℕ) (x : ℕ) (ys : List ℕ) → list_any p xs ≡ false → p x ≡ true → position_or_len p (xs ++ x ∷ ys) ≡ length xs
first_mark p [] x ys none is = rw is refl
first_mark p (y ∷ xs) x ys none is =
    let parts = or_parts (p y) (list_any p xs) none in
    rw (parts.0, first_mark p xs x ys parts.1 is) (omega arith)

-- what stands around it
pub before_mark : (p : ℕ → Bool) (xs : List ℕ) (x : ℕ) (ys : List ℕ) → list_any p xs ≡ false → p x ≡ true → before_first p (xs ++ x ∷ ys) ≡ xs
before_mark p xs x ys none is = rw (first_mark p xs x ys none is) (take-append_seam xs (x ∷ ys))

pub after_mark : (p : ℕ → Bool) (xs : List ℕ) (x : ℕ) (ys : List ℕ) → list_any p xs ≡ false → p x ≡ true → after_first p (xs ++ x ∷ ys) ≡ ys
after_mark p xs x ys none is =
    rw (first_mark p xs x ys none is) (drop-append-add xs (x ∷ ys) 1)

-- a path without an index
plain_read : (slot : Slot) (index : ℕ) → path_named (path_text slot index) ≡ (if has_item (way slot) then path_named (path_text slot index) else Some (record { slot = slot; index = 0 }))
plain_read S1 index = refl
plain_read _ index = refl

-- and with one
slot_read : (slot : Slot) → item_slot (text_before_index slot) (text_after_index slot) ≡ (if has_item (way slot) then Some slot else item_slot (text_before_index slot) (text_after_index slot))
slot_read S1 = refl
slot_read _ = refl

unmarked : (slot : Slot) → list_any (λ byte. byte == 91) (text_before_index slot) ≡ false
unmarked S1 = refl
unmarked _ = refl

-- ---- in the code
-- a text that was cut is read by its parts
pub cut_path : (text before rest index after : List ℕ) → before ≡ before_first (λ byte. byte == 91) text → rest ≡ after_opening text → index ≡ before_first (λ byte. byte == 93) rest
    → after ≡ after_first (λ byte. byte == 93) rest → path_named text ≡ first_given (item_path before index after) (plain_path text)
cut_path text before rest index after b r i a = rw (b, i, a, r) refl

-- ---- the text of a path
not_closing : (byte : ℕ) → is_ascii_digit byte ≡ true → (byte == 93) ≡ false
not_closing byte h = grind (arith, nat_tests)

unclosed : (text : List ℕ) → list_all is_ascii_digit text ≡ true → list_any (λ byte. byte == 93) text ≡ false
unclosed [] h = refl
unclosed (byte ∷ text) h =
    let parts = and_parts (is_ascii_digit byte) (list_all is_ascii_digit text) h in
    rw (not_closing byte parts.0) (unclosed text parts.1)

with_slot : (before index after : List ℕ) (slot : Slot) (i : ℕ) → item_slot before after ≡ Some slot → u32_named index ≡ Some i → item_path before index after ≡ Some (record { slot = slot; index = i })
with_slot before index after slot i s n = rw (n, s) refl

parts_read : (text before after : List ℕ) (slot : Slot) (index : ℕ) → index < 2 ^ 32 → item_slot before after ≡ Some slot → list_any (λ byte. byte == 91) before ≡ false
    → before ++ (91 ∷ (decimal index ++ 93 ∷ after)) ≡ text → path_named text ≡ Some (record { slot = slot; index = index })
parts_read text before after slot index small is none_open same =
    let digits : list_all is_ascii_digit (decimal index) ≡ true = digits_decimal digit.decimal index (omega arith) in
    let rest : List ℕ = decimal index ++ 93 ∷ after in
    let first : before ≡ before_first (λ byte. byte == 91) text = sym (ap (before_first (λ byte. byte == 91)) (sym same) ∙ before_mark (λ byte. byte == 91) before 91 rest none_open refl) in
    let behind : rest ≡ after_opening text = sym (ap (after_first (λ byte. byte == 91)) (sym same) ∙ after_mark (λ byte. byte == 91) before 91 rest none_open refl) in
    let none = unclosed (decimal index) digits in
    cut_path text before rest (decimal index) after first behind
    (sym (before_mark (λ byte. byte == 93) (decimal index) 93 after none refl)) (sym (after_mark (λ byte. byte == 93) (decimal index) 93 after none refl))
    ∙ ap (λ o. first_given o (plain_path text)) (with_slot before (decimal index) after slot index is (u32_read index small))

pub path_read : (p : Path) → IsPathWithin p → path_named (path_text p.slot p.index) ≡ Some p
path_read p within = by (has_item (way p.slot)) refl
  where
    by : (b : Bool) → has_item (way p.slot) ≡ b → path_named (path_text p.slot p.index) ≡ Some p
    by true e =
        parts_read (path_text p.slot p.index) (text_before_index p.slot) (text_after_index p.slot) p.slot p.index within.small
        (slot_read p.slot ∙ ap (λ b. if b then Some p.slot else item_slot (text_before_index p.slot) (text_after_index p.slot)) e) (unmarked p.slot) (with_index p.slot p.index e)
    by false e =
        plain_read p.slot p.index ∙ ap (λ b. if b then path_named (path_text p.slot p.index) else Some (record { slot = p.slot; index = 0 })) e
        ∙ ap (λ i. Some (record { slot = p.slot; index = i })) (sym (within.plain e))
