-- A text has no fault exactly where it is UTF-8, and what follows where nothing is wrong.
use Rattle.std.proofs.Common.{◌≡◌, ℕ, ◌≤◌, zero, suc, take, Bool, true, false, cond, eqb, List, length, Option, Some, None, refl, arith}
use Rattle.std.specs.Option.{option_map, option_or}
use Rattle.std.specs.Str.{IsUtf8, is_utf8}
use Rattle.std.proofs.lemmas.Str.{IsUtf8-nil, IsUtf8-from_is_utf8, utf8_valid_len-IsUtf8}
use Rattle.std.proofs.Math.Seq.{take-length}
use Rattle.feed_codec.specs.declared.refusal.Reason.TheVariants.{NotText}
use Rattle.std.specs.Str.Lossy.{utf8_valid_len, valid_len_up_to}
use Rattle.std.proofs.lemmas.Bool.{eqb-true, eq-eqb}
use Rattle.feed_codec.specs.declared.refusal.Refusal.{Refusal}
use Rattle.feed_codec.specs.Refusal.{shifted, text_fault}

abbrev pub nothing : Option Refusal
nothing = None

pub neither : (o q : Option Refusal) → option_or o q ≡ nothing → (o ≡ nothing) × (q ≡ nothing)
neither None q e = (refl, e)
neither (Some x) q e = absurd cc

pub unmapped : (base : ℕ) (o : Option Refusal) → option_map (shifted base) o ≡ nothing → o ≡ nothing
unmapped base None e = refl
unmapped base (Some x) e = absurd cc

some_not : (x : Refusal) → Some x ≡ nothing → ⊥
some_not x e = cc

le_in : (b : Bool) (n m : ℕ) → m ≤ n → cond b (suc n) m ≤ suc n
le_in true n m le = omega arith
le_in false n m le = omega arith

is_first : (b : Bool) (n m : ℕ) → m ≤ n → cond b (suc n) m ≡ suc n → b ≡ true
is_first true n m le e = refl
is_first false n m le e = absurd (omega arith)

is_test : (b : Bool) (x : Refusal) → cond b nothing (Some x) ≡ nothing → b ≡ true
is_test true x e = refl
is_test false x e = absurd (some_not x e)

up_to_le : (bs : List ℕ) (n : ℕ) → valid_len_up_to bs n ≤ n
up_to_le bs zero = omega arith
up_to_le bs (suc n) = le_in (is_utf8 (take (suc n) bs)) n (valid_len_up_to bs n) (up_to_le bs n)

up_to_fine : (bs : List ℕ) (n : ℕ) → valid_len_up_to bs n ≡ n → IsUtf8 (take n bs)
up_to_fine bs zero e = IsUtf8-nil
up_to_fine bs (suc n) e = IsUtf8-from_is_utf8 (take (suc n) bs) (is_first (is_utf8 (take (suc n) bs)) n (valid_len_up_to bs n) (up_to_le bs n) e)

abbrev some_text : List ℕ → Option (List ℕ)
some_text p = Some p

pub text_fine : (p : List ℕ) → text_fault p ≡ nothing → IsUtf8 p
unfolding utf8_valid_len
text_fine p e =
    let all : utf8_valid_len p ≡ length p = eqb-true (utf8_valid_len p) (length p) (is_test (eqb (utf8_valid_len p) (length p)) (record { at = utf8_valid_len p; reason = NotText }) e) in
    rw (← take-length p) (up_to_fine p (length p) all)

pub text_right : (q : List ℕ) → IsUtf8 q → (p : List ℕ) → some_text q ≡ some_text p → text_fault p ≡ nothing
text_right q u p e = let same : q ≡ p = cc in rw (← same) (rw (eq-eqb _ _ (utf8_valid_len-IsUtf8 q u)) refl)
