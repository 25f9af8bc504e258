-- Texts of ASCII bytes alone have no fault.
use Rattle.std.proofs.Common.{◌≡◌, ◌≤◌, ◌<◌, ◌+◌, ◌-◌, ◌==◌, ℕ, List, length, drop, get_or, None, Bool, true, false, refl, arith, nat_lt, eq-eqb}
use Rattle.std.specs.Prelude.{IsAscii}
use Rattle.std.specs.Char.{is_ascii}
use Rattle.std.specs.List.{list_all}
use Rattle.std.proofs.lemmas.Bool.{eqb-true}
use Rattle.std.proofs.lemmas.Bool.Decides.{nat_tests}
use Rattle.std.proofs.Math.ListN.{get_or-eq_default}
use Rattle.std.proofs.lemmas.List.{length-drop, get_or-drop}
use Rattle.std.proofs.lemmas.List.Sums.{AllPass-from_list_all}
use Rattle.std.proofs.lemmas.Str.{IsUtf8-from_ascii, utf8_valid_len-IsUtf8}
use Rattle.feed_codec.specs.Refusal.{text_fault}

abbrev below : List ℕ → ℕ → Type 0
below text place = (i : ℕ) → i < place → get_or text i 0 < 128

one_more : (text : List ℕ) (place next : ℕ) → next ≡ place + 1 → below text place → get_or text place 0 < 128 → below text next
one_more text place next is before at i h = by (i == place) refl
  where
    by : (b : Bool) → (i == place) ≡ b → get_or text i 0 < 128
    by true e = rw (eqb-true i place e) at
    by false e = before i (grind (arith, nat_tests, e, h, is))

pub four_more : (text : List ℕ) (place : ℕ) → ((i : ℕ) → i < place → get_or text i 0 < 128) → get_or text place 0 < 128 → get_or text (place + 1) 0 < 128
    → get_or text (place + 2) 0 < 128 → get_or text (place + 3) 0 < 128 → (i : ℕ) → i < place + 4 → get_or text i 0 < 128
four_more text place before a b c d =
    let one = one_more text place (place + 1) (omega arith) before a in
    let two = one_more text (place + 1) (place + 2) (omega arith) one b in
    let three = one_more text (place + 2) (place + 3) (omega arith) two c in
    one_more text (place + 3) (place + 4) (omega arith) three d

pub and_the_rest : (text : List ℕ) (place : ℕ) → place ≤ length text → ((i : ℕ) → i < place → get_or text i 0 < 128) → list_all is_ascii (drop place text) ≡ true → IsAscii text
and_the_rest text place within before rest i = by (nat_lt i place) (nat_lt i (length text)) refl refl
  where
    size : length (drop place text) ≡ length text - place
    size = length-drop place text

    ascii : (b : ℕ) → is_ascii b ≡ true → b < 128
    ascii b h = grind (arith, nat_tests, h)

    by : (b l : Bool) → nat_lt i place ≡ b → nat_lt i (length text) ≡ l → get_or text i 0 < 128
    by true l e f = before i (grind (arith, nat_tests, e))
    by false true e f =
        let past : place ≤ i = grind (arith, nat_tests, e) in
        let in_it : i < length text = grind (arith, nat_tests, f) in
        let there = AllPass-from_list_all is_ascii (drop place text) rest (i - place) 0 (omega (arith, size, past, in_it)) in
        let same : place + (i - place) ≡ i = omega (arith, past) in
        ascii (get_or text i 0) (rw (get_or-drop place text (i - place) 0, same) at there)
    by false false e f =
        let none : get_or text i 0 ≡ 0 = get_or-eq_default text 0 (grind (arith, nat_tests, f)) in
        omega (arith, none)

pub no_fault : (text : List ℕ) → IsAscii text → text_fault text ≡ None
no_fault text ascii = rw (eq-eqb _ _ (utf8_valid_len-IsUtf8 text (IsUtf8-from_ascii text ascii))) refl
