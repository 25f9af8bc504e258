-- Times and dates by the parts of their texts.
use Rattle.std.proofs.Common.{refl, ◌≡◌, ◌≤◌, ◌<◌, ◌+◌, ◌*◌, ◌-◌, ◌++◌, ◌∷◌, ℕ, List, length, take, drop, get_or, Bool, true, false, cond, nat_le, Some, None, arith, ap, sym, ◌∙◌, subst}
use Rattle.std.specs.declared.option.Option.{Option}
use Rattle.std.specs.Char.{is_ascii_digit}
use Rattle.std.specs.List.{list_all, before_first, after_first, position_or_len}
use Rattle.std.specs.Str.Parse.{digits_value}
use Rattle.std.specs.Option.{option_and_then}
use Rattle.std.proofs.Math.Seq.{take-append_seam, get_or-append_seam, drop-append-add}
use Rattle.std.proofs.lemmas.List.{length-append, length-drop, get_or_append_left}
use Rattle.std.proofs.lemmas.List.Sums.{position_or_len_is, passes_at_first, split_at_first, AllPass-from_list_all}
use Rattle.std.proofs.lemmas.Bool.Decides.{nat_tests}
use Rattle.rt_day.specs.Digits.{is_digits, number_of}
use Rattle.rt_day.specs.Time.{is_colon, sixtieth_of, seconds_of, time_of}
use Rattle.rt_day.specs.Laws.{Writes, IsTime}
use Rattle.rt_day.proofs.DigitLemmas.{parts}

-- digits that write a number are read as it
pub written : (least most : ℕ) (text : List ℕ) (n : ℕ) → Writes least most text n → number_of least most text ≡ Some n
written least most text n w =
    let test : is_digits least most text ≡ true = rw (le least (length text) w.enough, le (length text) most w.few, w.digits) refl in
    ap (λ b. cond b (Some (digits_value 10 text)) None) test ∙ ap Some (sym w.value)
  where
    le : (a b : ℕ) → a ≤ b → nat_le a b ≡ true
    le a b h = grind (arith, nat_tests)

-- what is read as a number is digits that write it
pub writes : (least most : ℕ) (text : List ℕ) (n : ℕ) → number_of least most text ≡ Some n → Writes least most text n
writes least most text n e = by (is_digits least most text) refl e
  where
    by : (b : Bool) → is_digits least most text ≡ b → cond b (Some (digits_value 10 text)) None ≡ Some n → Writes least most text n
    by true h e =
        let p = parts least most text h in
        record { enough = p.enough; few = p.few; digits = p.digits; value = cc e }
    by false h e = absurd (cc e)

-- a digit is no colon
no_colon : (b : ℕ) → is_ascii_digit b ≡ true → is_colon b ≡ false
no_colon b h = grind (arith, nat_tests)

colon : (b : ℕ) → is_colon b ≡ true → b ≡ 58
colon b h = grind (arith, nat_tests)

module _ (front rest : List ℕ) (digits : list_all is_ascii_digit front ≡ true) where
  fails : (k : ℕ) → k < length front → is_colon (get_or (front ++ 58 ∷ rest) k 0) ≡ false
  fails k h = rw (get_or_append_left front (58 ∷ rest) 0 k h) (no_colon (get_or front k 0) (AllPass-from_list_all is_ascii_digit front digits k 0 h))

  place : position_or_len is_colon (front ++ 58 ∷ rest) ≡ length front
  place =
      let long : length (front ++ 58 ∷ rest) ≡ length front + length (58 ∷ rest) = length-append front (58 ∷ rest) in
      position_or_len_is is_colon (front ++ 58 ∷ rest) (length front) 0 (omega (arith, long)) fails (λ h. rw (get_or-append_seam front 58 rest 0) refl)

  -- digits and a colon are cut at the colon
  pub before_colon : before_first is_colon (front ++ 58 ∷ rest) ≡ front
  before_colon = ap (λ n. take n (front ++ 58 ∷ rest)) place ∙ take-append_seam front (58 ∷ rest)

  pub after_colon : after_first is_colon (front ++ 58 ∷ rest) ≡ rest
  after_colon = ap (λ n. drop (n + 1) (front ++ 58 ∷ rest)) place ∙ past front rest
    where
      past : (xs ys : List ℕ) → drop (length xs + 1) (xs ++ 58 ∷ ys) ≡ ys
      past xs ys = drop-append-add xs (58 ∷ ys) 1

-- two digits up to 59
pub sixtieth : (text : List ℕ) (n : ℕ) → Writes 2 2 text n → n ≤ 59 → sixtieth_of text ≡ Some n
sixtieth text n w fits = ap (option_and_then (λ n. cond (nat_le n 59) (Some n) None)) (written 2 2 text n w) ∙ ap (λ b. cond b (Some n) None) (le n fits)
  where
    le : (n : ℕ) → n ≤ 59 → nat_le n 59 ≡ true
    le n h = grind (arith, nat_tests)

record IsSixtieth (text : List ℕ) (n : ℕ) : Type 0 where
  writes_it : Writes 2 2 text n
  fits : n ≤ 59

sixtieth_is : (text : List ℕ) (n : ℕ) → sixtieth_of text ≡ Some n → IsSixtieth text n
sixtieth_is text n e = of (number_of 2 2 text) refl e
  where
    within : (m : ℕ) (b : Bool) → nat_le m 59 ≡ b → number_of 2 2 text ≡ Some m → cond b (Some m) None ≡ Some n → IsSixtieth text n
    within m true h is e =
        let same : m ≡ n = cc e in
        record { writes_it = subst (Writes 2 2 text) same (writes 2 2 text m is); fits = subst (λ k. k ≤ 59) same (grind (arith, nat_tests, h)) }
    within m false h is e = absurd (cc e)

    of : (found : Option ℕ) → number_of 2 2 text ≡ found → option_and_then (λ n. cond (nat_le n 59) (Some n) None) found ≡ Some n → IsSixtieth text n
    of None is e = absurd (cc e)
    of (Some m) is e = within m (nat_le m 59) refl is e

-- where a time is read all three parts are there
record AreParts (hours minutes seconds : Option ℕ) (time : ℕ) : Type 0 where
  h : ℕ
  m : ℕ
  s : ℕ
  is_h : hours ≡ Some h
  is_m : minutes ≡ Some m
  is_s : seconds ≡ Some s
  sum : time ≡ h * 3600 + m * 60 + s

parts_of : (hours minutes seconds : Option ℕ) (time : ℕ) → seconds_of hours minutes seconds ≡ Some time → AreParts hours minutes seconds time
parts_of (Some h) (Some m) (Some s) time e = record { h = h; m = m; s = s; is_h = refl; is_m = refl; is_s = refl; sum = cc e }
parts_of (Some h) (Some m) None time e = absurd (cc e)
parts_of (Some h) None seconds time e = absurd (cc e)
parts_of None minutes seconds time e = absurd (cc e)

-- where something stands behind the first colon there is one
cut : (text : List ℕ) → 1 ≤ length (after_first is_colon text) → text ≡ before_first is_colon text ++ 58 ∷ after_first is_colon text
cut text some =
    let at = position_or_len is_colon text in
    let shorter : length (after_first is_colon text) ≡ length text - (at + 1) = length-drop (at + 1) text in
    let within : at < length text = omega (arith, shorter, some) in
    let whole = split_at_first is_colon text 0 within in
    whole ∙ ap (λ b. before_first is_colon text ++ b ∷ after_first is_colon text) (colon (get_or text at 0) (passes_at_first is_colon text 0 within))

pub time_read : (text : List ℕ) (time : ℕ) → IsTime text time → time_of text ≡ Some time
time_read text time t =
    let rest = t.minutes_text ++ 58 ∷ t.seconds_text in
    let whole : before_first is_colon text ≡ t.hours_text = ap (before_first is_colon) t.parts ∙ before_colon t.hours_text rest t.writes_hours.digits in
    let behind : after_first is_colon text ≡ rest = ap (after_first is_colon) t.parts ∙ after_colon t.hours_text rest t.writes_hours.digits in
    let minutes : before_first is_colon (after_first is_colon text) ≡ t.minutes_text =
    ap (before_first is_colon) behind ∙ before_colon t.minutes_text t.seconds_text t.writes_minutes.digits in
    let seconds : after_first is_colon (after_first is_colon text) ≡ t.seconds_text =
    ap (after_first is_colon) behind ∙ after_colon t.minutes_text t.seconds_text t.writes_minutes.digits in
    ap (λ h. seconds_of h (sixtieth_of (before_first is_colon (after_first is_colon text))) (sixtieth_of (after_first is_colon (after_first is_colon text))))
    (ap (number_of 1 3) whole ∙ written 1 3 t.hours_text t.hours t.writes_hours)
    ∙ ap (λ m. seconds_of (Some t.hours) m (sixtieth_of (after_first is_colon (after_first is_colon text))))
    (ap sixtieth_of minutes ∙ sixtieth t.minutes_text t.minutes t.writes_minutes t.minutes_fit)
    ∙ ap (seconds_of (Some t.hours) (Some t.minutes)) (ap sixtieth_of seconds ∙ sixtieth t.seconds_text t.seconds t.writes_seconds t.seconds_fit)
    ∙ ap Some (sym t.sum)

pub time_is : (text : List ℕ) (time : ℕ) → time_of text ≡ Some time → IsTime text time
time_is text time e =
    let rest = after_first is_colon text in
    let p = parts_of (number_of 1 3 (before_first is_colon text)) (sixtieth_of (before_first is_colon rest)) (sixtieth_of (after_first is_colon rest)) time e in
    let hours = writes 1 3 (before_first is_colon text) p.h p.is_h in
    let minutes = sixtieth_is (before_first is_colon rest) p.m p.is_m in
    let seconds = sixtieth_is (after_first is_colon rest) p.s p.is_s in
    let some : 1 ≤ length (after_first is_colon rest) = omega (arith, seconds.writes_it.enough) in
    let second : rest ≡ before_first is_colon rest ++ 58 ∷ after_first is_colon rest = cut rest some in
    let longer : length (after_first is_colon rest) ≡ length rest - (position_or_len is_colon rest + 1) = length-drop (position_or_len is_colon rest + 1) rest in
    let first : text ≡ before_first is_colon text ++ 58 ∷ rest = cut text (omega (arith, longer, some)) in
    record {
      hours_text = before_first is_colon text;
      minutes_text = before_first is_colon rest;
      seconds_text = after_first is_colon rest;
      hours = p.h;
      minutes = p.m;
      seconds = p.s;
      parts = first ∙ ap (λ xs. before_first is_colon text ++ 58 ∷ xs) second;
      writes_hours = hours;
      writes_minutes = minutes.writes_it;
      writes_seconds = seconds.writes_it;
      minutes_fit = minutes.fits;
      seconds_fit = seconds.fits;
      sum = p.sum;
    }
