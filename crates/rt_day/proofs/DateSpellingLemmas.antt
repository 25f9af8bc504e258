-- Dates by the parts of their texts.
use Rattle.std.proofs.Common.{refl, ◌≡◌, ◌<◌, ◌+◌, ◌*◌, ◌^◌, ◌/◌, ◌%◌, ◌++◌, ◌∷◌, [], ℕ, ℤ, pos, List, length, take, drop, Bool, true, false, cond, Some, None, arith, ap, sym, ◌∙◌}
use Rattle.std.specs.declared.option.Option.{Option}
use Rattle.std.specs.Char.{is_ascii_digit, digit_value}
use Rattle.std.specs.List.{list_all}
use Rattle.std.specs.Str.Parse.{digits_value, digits_value_after}
use Rattle.std.specs.Option.{option_and_then}
use Rattle.std.proofs.lemmas.List.{take-append-drop, length-drop, length-append, length-take-le}
use Rattle.std.proofs.lemmas.List.Elements.{All-take, All-drop}
use Rattle.std.proofs.lemmas.List.Folds.{list_all-append}
use Rattle.std.proofs.lemmas.List.Sums.{AllPass-from_list_all, list_all-from_AllPass}
use Rattle.std.proofs.lemmas.Str.Parse.{digits_value_short}
use Rattle.jiff_core.specs.Calendar.{days_from_civil}
use Rattle.rt_day.specs.Digits.{number_of}
use Rattle.rt_day.specs.Date.{is_date, day_of, date_of}
use Rattle.rt_day.specs.Laws.{Writes, IsDate}
use Rattle.rt_day.proofs.DigitLemmas.{decimal}
use Rattle.rt_day.proofs.SpellingLemmas.{written, writes}

value-append : (n : ℕ) (xs ys : List ℕ) → digits_value_after 10 n (xs ++ ys) ≡ digits_value_after 10 (digits_value_after 10 n xs) ys
value-append n [] ys = refl
value-append n (x ∷ xs) ys = value-append (n * 10 + digit_value x) xs ys

-- two digits behind a number
value-two : (n : ℕ) (ys : List ℕ) → length ys ≡ 2 → digits_value_after 10 n ys ≡ n * 100 + digits_value 10 ys
value-two n [] two = absurd (omega arith)
value-two n (a ∷ []) two = absurd (omega arith)
value-two n (a ∷ b ∷ []) two = omega arith
value-two n (a ∷ b ∷ c ∷ ys) two = absurd (omega arith)

-- the number of four digits, two and two
pub value-date : (ys ms ds : List ℕ) → length ms ≡ 2 → length ds ≡ 2 →
    digits_value 10 (ys ++ (ms ++ ds)) ≡ (digits_value 10 ys * 100 + digits_value 10 ms) * 100 + digits_value 10 ds
value-date ys ms ds two two' =
    value-append 0 ys (ms ++ ds) ∙ value-append (digits_value 10 ys) ms ds
    ∙ ap (λ n. digits_value_after 10 n ds) (value-two (digits_value 10 ys) ms two)
    ∙ value-two (digits_value 10 ys * 100 + digits_value 10 ms) ds two'

-- the year, month and day of such a number
record AreParts (n y m d : ℕ) : Type 0 where
  is_year : n / 10000 ≡ y
  is_month : n / 100 % 100 ≡ m
  is_day : n % 100 ≡ d

parts : (n y m d : ℕ) → n ≡ (y * 100 + m) * 100 + d → m < 100 → d < 100 → AreParts n y m d
parts n y m d e below_m below_d = record { is_year = omega arith; is_month = omega arith; is_day = omega arith }

below : (text : List ℕ) (n : ℕ) → Writes 2 2 text n → n < 100
below text n w =
    let value : digits_value 10 text < 10 ^ 2 = digits_value_short decimal text 2 w.digits w.few in
    omega (arith, w.value, value)

two : (text : List ℕ) (n : ℕ) → Writes 2 2 text n → length text ≡ 2
two text n w = omega (arith, w.enough, w.few)

pub date_read : (text : List ℕ) (number : ℤ) → IsDate text number → date_of text ≡ Some number
date_read text number t =
    let n = (t.year * 100 + t.month) * 100 + t.day in
    let p = parts n t.year t.month t.day refl (below t.month_text t.month t.writes_month) (below t.day_text t.day t.writes_day) in
    let value : n ≡ digits_value 10 text =
    ap (λ y. (y * 100 + t.month) * 100 + t.day) t.writes_year.value
    ∙ ap (λ m. (digits_value 10 t.year_text * 100 + m) * 100 + t.day) t.writes_month.value
    ∙ ap (λ d. (digits_value 10 t.year_text * 100 + digits_value 10 t.month_text) * 100 + d) t.writes_day.value
    ∙ sym (value-date t.year_text t.month_text t.day_text (two t.month_text t.month t.writes_month) (two t.day_text t.day t.writes_day))
    ∙ ap (digits_value 10) (sym t.parts) in
    let long : length text ≡ length t.year_text + (length t.month_text + length t.day_text) =
    ap length t.parts ∙ length-append t.year_text (t.month_text ++ t.day_text)
    ∙ ap (λ k. length t.year_text + k) (length-append t.month_text t.day_text) in
    let all : list_all is_ascii_digit text ≡ true =
    ap (list_all is_ascii_digit) t.parts ∙ list_all-append is_ascii_digit t.year_text (t.month_text ++ t.day_text)
    ∙ rw (t.writes_year.digits, list_all-append is_ascii_digit t.month_text t.day_text, t.writes_month.digits, t.writes_day.digits) refl in
    let whole : Writes 8 8 text n = record {
      enough = omega (arith, long, t.writes_year.enough, t.writes_month.enough, t.writes_day.enough);
      few = omega (arith, long, t.writes_year.few, t.writes_month.few, t.writes_day.few);
      digits = all;
      value = value;
    } in
    ap (option_and_then (λ n. day_of (n / 10000) (n / 100 % 100) (n % 100))) (written 8 8 text n whole)
    ∙ ap (λ y. day_of y (n / 100 % 100) (n % 100)) p.is_year ∙ ap (λ m. day_of t.year m (n % 100)) p.is_month ∙ ap (day_of t.year t.month) p.is_day
    ∙ ap (λ b. cond b (Some (days_from_civil (pos t.year) t.month t.day)) None) t.real ∙ ap Some (sym t.count)

-- a real date is read from its number
record IsReal (y m d : ℕ) (number : ℤ) : Type 0 where
  is_real : is_date y m d ≡ true
  counts : number ≡ days_from_civil (pos y) m d

real : (y m d : ℕ) (number : ℤ) → day_of y m d ≡ Some number → IsReal y m d number
real y m d number e = by (is_date y m d) refl e
  where
    by : (b : Bool) → is_date y m d ≡ b → cond b (Some (days_from_civil (pos y) m d)) None ≡ Some number → IsReal y m d number
    by true h e = record { is_real = h; counts = cc e }
    by false h e = absurd (cc e)

-- the parts of digits are digits
digits_in_front : (i : ℕ) (text : List ℕ) → list_all is_ascii_digit text ≡ true → list_all is_ascii_digit (take i text) ≡ true
digits_in_front i text h = list_all-from_AllPass is_ascii_digit (take i text) (All-take (λ b. is_ascii_digit b ≡ true) i text (AllPass-from_list_all is_ascii_digit text h))

digits_behind : (i : ℕ) (text : List ℕ) → list_all is_ascii_digit text ≡ true → list_all is_ascii_digit (drop i text) ≡ true
digits_behind i text h = list_all-from_AllPass is_ascii_digit (drop i text) (All-drop (λ b. is_ascii_digit b ≡ true) i text (AllPass-from_list_all is_ascii_digit text h))

pub date_is : (text : List ℕ) (number : ℤ) → date_of text ≡ Some number → IsDate text number
date_is text number e = of (number_of 8 8 text) refl e
  where
    is : (n : ℕ) → Writes 8 8 text n → day_of (n / 10000) (n / 100 % 100) (n % 100) ≡ Some number → IsDate text number
    is n w e =
        let ys = take 4 text in
        let rest = drop 4 text in
        let ms = take 2 rest in
        let ds = drop 2 rest in
        let eight : length text ≡ 8 = omega (arith, w.enough, w.few) in
        let long_rest : length rest ≡ 4 = length-drop 4 text ∙ omega (arith, eight) in
        let long_ys : length ys ≡ 4 = length-take-le 4 text (omega (arith, eight)) in
        let long_ms : length ms ≡ 2 = length-take-le 2 rest (omega (arith, long_rest)) in
        let long_ds : length ds ≡ 2 = length-drop 2 rest ∙ omega (arith, long_rest) in
        let whole : text ≡ ys ++ (ms ++ ds) = sym (ap (λ xs. ys ++ xs) (take-append-drop 2 rest) ∙ take-append-drop 4 text) in
        let behind = digits_behind 4 text w.digits in
        let writes_ms : Writes 2 2 ms (digits_value 10 ms) = record {
          enough = omega (arith, long_ms);
          few = omega (arith, long_ms);
          digits = digits_in_front 2 rest behind;
          value = refl;
        } in
        let writes_ds : Writes 2 2 ds (digits_value 10 ds) = record {
          enough = omega (arith, long_ds);
          few = omega (arith, long_ds);
          digits = digits_behind 2 rest behind;
          value = refl;
        } in
        let value : n ≡ (digits_value 10 ys * 100 + digits_value 10 ms) * 100 + digits_value 10 ds =
        w.value ∙ ap (digits_value 10) whole ∙ value-date ys ms ds long_ms long_ds in
        let p = parts n (digits_value 10 ys) (digits_value 10 ms) (digits_value 10 ds) value (below ms (digits_value 10 ms) writes_ms) (below ds (digits_value 10 ds) writes_ds) in
        let r = real (digits_value 10 ys) (digits_value 10 ms) (digits_value 10 ds) number
        (ap (λ y. day_of y (digits_value 10 ms) (digits_value 10 ds)) (sym p.is_year) ∙ ap (λ m. day_of (n / 10000) m (digits_value 10 ds)) (sym p.is_month)
        ∙ ap (day_of (n / 10000) (n / 100 % 100)) (sym p.is_day) ∙ e) in
        record {
          year_text = ys;
          month_text = ms;
          day_text = ds;
          year = digits_value 10 ys;
          month = digits_value 10 ms;
          day = digits_value 10 ds;
          parts = whole;
          writes_year = record { enough = omega (arith, long_ys); few = omega (arith, long_ys); digits = digits_in_front 4 text w.digits; value = refl };
          writes_month = writes_ms;
          writes_day = writes_ds;
          real = r.is_real;
          count = r.counts;
        }

    of : (found : Option ℕ) → number_of 8 8 text ≡ found → option_and_then (λ n. day_of (n / 10000) (n / 100 % 100) (n % 100)) found ≡ Some number → IsDate text number
    of None is_none e = absurd (cc e)
    of (Some n) is_some e = is n (writes 8 8 text n is_some) e
