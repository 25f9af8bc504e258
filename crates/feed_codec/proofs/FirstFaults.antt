-- The first fault of a message and of a snapshot is the one that the relation says.
use Rattle.std.proofs.Common.{◌≡◌, ℕ, zero, suc, ◌<◌, ◌≤◌, Bool, true, false, cond, eqb, take, List, length, Option, Some, refl, sym, ◌∙◌, arith, inl, inr}
use Rattle.std.specs.Prelude.{IfSome}
use Rattle.std.specs.Bool.{MatchBool}
use Rattle.std.specs.Str.{IsUtf8, is_utf8}
use Rattle.std.specs.Str.Lossy.{utf8_valid_len, valid_len_up_to}
use Rattle.std.proofs.lemmas.Str.{IsUtf8-nil, IsUtf8-from_is_utf8, is_utf8-from_IsUtf8, utf8_valid_len-IsUtf8, utf8_valid_len_le}
use Rattle.std.proofs.lemmas.Bool.{eq-eqb, ne_eqb, cases_lt}
use Rattle.rt_wire.specs.Fields.{IsBytes, WireField, Len}
use Rattle.rt_wire.specs.Placed.{placed_fields}
use Rattle.feed_values.specs.Schema as schema
use Rattle.feed_values.specs.Schema.{Schema}
use Rattle.feed_values.specs.Meaning.{payload_in}
use Rattle.feed_values.specs.Accepted.{IsWhole}
use Rattle.feed_codec.specs.declared.refusal.Reason.TheVariants.{NotText}
use Rattle.feed_codec.specs.declared.refusal.Refusal.{Refusal}
use Rattle.feed_codec.specs.Refusal.{refused, text_fault, first_in, in_payload, payload_fault}
use Rattle.feed_codec.specs.FirstFault.{NoText, FirstIn, PayloadWrong}
use Rattle.feed_codec.proofs.ValidTexts.{nothing, text_fine}
use Rattle.feed_codec.proofs.Firsts.{Agrees, Faultless, found_first, first_found, none_faultless, faultless_none}

-- ---- one slot

-- what is asked of the payloads of one slot
pub record AgreesHere (wrong : List ℕ → Option Refusal) (Wrong : List ℕ → Refusal → Type 0) (Whole : List ℕ → Type 0) : Type 0 where
  pub found : (p : List ℕ) (r : Refusal) → IsBytes p → wrong p ≡ Some r → Wrong p r
  pub is : (p : List ℕ) (r : Refusal) → IsBytes p → Wrong p r → wrong p ≡ Some r
  pub none : (p : List ℕ) → IsBytes p → wrong p ≡ nothing → Whole p
  pub whole : (p : List ℕ) → IsBytes p → Whole p → wrong p ≡ nothing

found_at : (b : Bool) (o q : Option Refusal) (r : Refusal) (P Q : Type 0) → (o ≡ Some r → P) → (q ≡ Some r → Q) → cond b o q ≡ Some r → MatchBool b P Q
found_at true o q r P Q f g e = f e
found_at false o q r P Q f g e = g e

is_at : (b : Bool) (o q : Option Refusal) (r : Refusal) (P Q : Type 0) → (P → o ≡ Some r) → (Q → q ≡ Some r) → MatchBool b P Q → cond b o q ≡ Some r
is_at true o q r P Q f g m = f m
is_at false o q r P Q f g m = g m

none_at : (b : Bool) (o q : Option Refusal) (P Q : Type 0) → (o ≡ nothing → P) → (q ≡ nothing → Q) → cond b o q ≡ nothing → MatchBool b P Q
none_at true o q P Q f g e = f e
none_at false o q P Q f g e = g e

whole_at : (b : Bool) (o q : Option Refusal) (P Q : Type 0) → (P → o ≡ nothing) → (Q → q ≡ nothing) → MatchBool b P Q → cond b o q ≡ nothing
whole_at true o q P Q f g m = f m
whole_at false o q P Q f g m = g m

other_at : (b : Bool) (P Q : Type 0) → P → Q → MatchBool b P Q
other_at true P Q p q = p
other_at false P Q p q = q

-- a slot in front of others
pub slot_agrees : {here : List ℕ → Option Refusal} {Here : List ℕ → Refusal → Type 0} {HereWhole : List ℕ → Type 0} {later : ℕ → List ℕ → Option Refusal} {Later : ℕ → List ℕ → Refusal → Type 0} {LaterWhole : WireField → Type 0}
    → (n : ℕ) → AgreesHere here Here HereWhole → Agrees later Later LaterWhole
    → Agrees (λ number p. cond (eqb number n) (here p) (later number p)) (λ number p r. MatchBool (eqb number n) (Here p r) (Later number p r))
    (λ f. MatchBool (eqb f.number n) (IfSome (payload_in f.value) HereWhole) (LaterWhole f))
slot_agrees {here = here} {Here = Here} {HereWhole = HereWhole} {later = later} {Later = Later} {LaterWhole = LaterWhole} n h l = record {
  found = λ number p r ok e. found_at (eqb number n) (here p) (later number p) r (Here p r) (Later number p r) (h.found p r ok) (l.found number p r ok) e;
  is = λ number p r ok m. is_at (eqb number n) (here p) (later number p) r (Here p r) (Later number p r) (h.is p r ok) (l.is number p r ok) m;
  none = λ number p ok e. none_at (eqb number n) (here p) (later number p) (HereWhole p) (LaterWhole (record { number = number; value = Len p })) (h.none p ok) (l.none number p ok) e;
  whole = λ number p ok m. whole_at (eqb number n) (here p) (later number p) (HereWhole p) (LaterWhole (record { number = number; value = Len p })) (h.whole p ok) (l.whole number p ok) m;
  other = λ f e. other_at (eqb f.number n) (IfSome (payload_in f.value) HereWhole) (LaterWhole f) (rw e tt) (l.other f e);
}

-- no slot at all
pub end_agrees : Agrees (λ number p. nothing) (λ number p r. ⊥) (λ f. Unit {0})
end_agrees = record {
  found = λ number p r ok e. nothing_some r e;
  is = λ number p r ok m. absurd m;
  none = λ number p ok e. tt;
  whole = λ number p ok m. refl;
  other = λ f e. tt;
}
  where
    nothing_some : (r : Refusal) → nothing ≡ Some r → ⊥
    nothing_some r e = cc

-- ---- texts

fine_case : (bs : List ℕ) (n : ℕ) (b : Bool) → is_utf8 (take (suc n) bs) ≡ b → IsUtf8 (take (valid_len_up_to bs n) bs) → IsUtf8 (take (cond b (suc n) (valid_len_up_to bs n)) bs)
fine_case bs n true e h = IsUtf8-from_is_utf8 (take (suc n) bs) e
fine_case bs n false e h = h

up_to_fine : (bs : List ℕ) (n : ℕ) → IsUtf8 (take (valid_len_up_to bs n) bs)
up_to_fine bs zero = IsUtf8-nil
up_to_fine bs (suc n) = fine_case bs n (is_utf8 (take (suc n) bs)) refl (up_to_fine bs n)

true_false : true ≡ false → ⊥
true_false e = cc

longest_case : (bs : List ℕ) (n k : ℕ) (b : Bool) → is_utf8 (take (suc n) bs) ≡ b → cond b (suc n) (valid_len_up_to bs n) < k → k ≤ suc n → IsUtf8 (take k bs) → (valid_len_up_to bs n < k → k ≤ n → ⊥) → ⊥
longest_case bs n k true e lt le h shorter = omega arith
longest_case bs n k false e lt le h shorter = elim (cases_lt n k) [
  | inl past ↦
      let last : k ≡ suc n = omega arith in
      true_false (sym (is_utf8-from_IsUtf8 (take (suc n) bs) (rw last at h)) ∙ e)
  | inr within ↦ shorter lt within
]

up_to_longest : (bs : List ℕ) (n k : ℕ) → valid_len_up_to bs n < k → k ≤ n → IsUtf8 (take k bs) → ⊥
up_to_longest bs zero k lt le h = omega arith
up_to_longest bs (suc n) k lt le h = longest_case bs n k (is_utf8 (take (suc n) bs)) refl lt le h (λ a b. up_to_longest bs n k a b h)

valid_fine : (p : List ℕ) → IsUtf8 (take (utf8_valid_len p) p)
unfolding utf8_valid_len
valid_fine p = up_to_fine p (length p)

valid_longest : (p : List ℕ) (n : ℕ) → utf8_valid_len p < n → n ≤ length p → IsUtf8 (take n p) → ⊥
unfolding utf8_valid_len
valid_longest p n lt le h = up_to_longest p (length p) n lt le h

shorter : (p : List ℕ) → eqb (utf8_valid_len p) (length p) ≡ false → utf8_valid_len p < length p
shorter p e = elim (cases_lt (utf8_valid_len p) (length p)) [
  | inl lt ↦ lt
  | inr ge ↦ absurd (true_false (sym (eq-eqb (utf8_valid_len p) (length p) (omega (arith, utf8_valid_len_le p))) ∙ e))
]

text_case : (p : List ℕ) (r : Refusal) (b : Bool) → eqb (utf8_valid_len p) (length p) ≡ b → cond b nothing (Some (refused (utf8_valid_len p) NotText)) ≡ Some r → NoText p r
text_case p r true e f = absurd cc
text_case p r false e f =
    let same : refused (utf8_valid_len p) NotText ≡ r = cc in
    rw (← same) (record { reason = refl; within = shorter p e; front = valid_fine p; longest = valid_longest p })

text_found : (p : List ℕ) (r : Refusal) → text_fault p ≡ Some r → NoText p r
text_found p r e = text_case p r (eqb (utf8_valid_len p) (length p)) refl e

-- there is one longest front
one_longest : (p : List ℕ) (r : Refusal) → NoText p r → r.at ≡ utf8_valid_len p
one_longest p r m = elim (cases_lt (utf8_valid_len p) r.at) [
  | inl lt ↦ absurd (valid_longest p r.at lt (omega (arith, m.within)) m.front)
  | inr le ↦ elim (cases_lt r.at (utf8_valid_len p)) [
    | inl lt ↦ absurd (m.longest (utf8_valid_len p) lt (utf8_valid_len_le p) (valid_fine p))
    | inr ge ↦ omega arith
  ]
]

text_is : (p : List ℕ) (r : Refusal) → NoText p r → text_fault p ≡ Some r
text_is p r m =
    let at : r.at ≡ utf8_valid_len p = one_longest p r m in
    rw (ne_eqb (utf8_valid_len p) (length p) (omega (arith, at, m.within))) (made (utf8_valid_len p) r (sym at) m.reason)
  where
    made : (n : ℕ) (r : Refusal) → n ≡ r.at → r.reason ≡ NotText → Some (refused n NotText) ≡ Some r
    made n r e f = rw (e, ← f) refl

text_agrees : AgreesHere text_fault NoText IsUtf8
text_agrees = record {
  found = λ p r ok e. text_found p r e;
  is = λ p r ok m. text_is p r m;
  none = λ p ok e. text_fine p e;
  whole = λ p ok u. rw (eq-eqb (utf8_valid_len p) (length p) (utf8_valid_len-IsUtf8 p u)) refl;
}

-- ---- messages

pub message_agrees : (m : Schema) → Agrees (payload_fault m) (PayloadWrong m) (IsWhole m)
    → AgreesHere (λ p. first_in (in_payload (payload_fault m)) (placed_fields p)) (FirstIn (IsWhole m) (PayloadWrong m)) (Faultless (IsWhole m))
message_agrees m a = record {
  found = found_first a;
  is = first_found a;
  none = none_faultless a;
  whole = faultless_none a;
}

pub agrees_of : (s : Schema) → Agrees (payload_fault s) (PayloadWrong s) (IsWhole s)
agrees_of schema.end = end_agrees
agrees_of (schema.scalar n name presence t rest) = agrees_of rest
agrees_of (schema.text n name presence rest) = slot_agrees n text_agrees (agrees_of rest)
agrees_of (schema.message n name presence m rest) = slot_agrees n (message_agrees m (agrees_of m)) (agrees_of rest)
agrees_of (schema.repeated n name m rest) = slot_agrees n (message_agrees m (agrees_of m)) (agrees_of rest)
