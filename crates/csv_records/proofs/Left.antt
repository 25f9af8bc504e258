-- The records that are left after one is read.
use Rattle.std.proofs.Common.{◌≡◌, ◌<◌, ◌≤◌, ℕ, zero, suc, ◌+◌, ◌==◌, ◌||◌, List, [], ◌∷◌, ◌++◌, length, Option, Some, None, Bool, true, false, cond, refl, sym, ap, ◌∙◌, arith, add-one}
use Rattle.std.proofs.lemmas.Bool.{false≢true}
use Rattle.csv.specs.Machine.{Read, after_end, ends_at_end, field_after, fields_after, in_field, is_end, next_record, start_field, start_record, step}
use Rattle.csv.specs.Reading.{default_config, is_bom, records_from, records_next, strip_bom}
use Rattle.csv.specs.declared.parser.Action.{Action}
use Rattle.csv.specs.declared.parser.Action.TheVariants as act
use Rattle.csv.specs.declared.parser.State.{State}
use Rattle.csv.specs.declared.parser.State.TheVariants as st
use Rattle.csv_records.specs.Records.{left_from, records_of}

-- where a byte ends a record, the state after it ends none at the text's end
abbrev EndsBetween : State × Action → Type 0
EndsBetween p = is_end p.1 ≡ true → ends_at_end p.0 ≡ false

either : (b : Bool) (p q : State × Action) → EndsBetween p → EndsBetween q → EndsBetween (cond b p q)
either true p q hp hq = hp
either false p q hp hq = hq

after_end_between : (c : ℕ) → EndsBetween (after_end default_config.terminator c, act.EndRecord)
after_end_between c = elim (c == 13) as (λ b. EndsBetween (cond b st.AfterCr st.StartRecord, act.EndRecord)) [ true ↦ λ e. refl | false ↦ λ e. refl ]

goes_on : {P : Type 0} → false ≡ true → P
goes_on e = absurd (false≢true e)

in_field_between : (c : ℕ) → EndsBetween (in_field default_config c)
in_field_between c = either (c == 44) _ _ goes_on (either ((c == 13) || (c == 10)) _ _ (after_end_between c) goes_on)

start_field_between : (c : ℕ) → EndsBetween (start_field default_config c)
start_field_between c = either (c == 34) _ _ goes_on (in_field_between c)

start_record_between : (c : ℕ) → EndsBetween (start_record default_config c)
start_record_between c = either ((c == 13) || (c == 10)) _ _ goes_on (start_field_between c)

step_between : (s : State) (c : ℕ) → EndsBetween (step default_config s c)
step_between st.StartRecord c = start_record_between c
step_between st.StartField c = start_field_between c
step_between st.InField c = in_field_between c
step_between st.InQuoted c = either (c == 34) _ _ goes_on goes_on
step_between st.InEscape c = goes_on
step_between st.AfterQuote c = either (c == 34) _ _ goes_on (in_field_between c)
step_between st.InComment c = either (c == 10) _ _ goes_on goes_on
step_between st.AfterCr c = either (c == 10) _ _ goes_on (start_record_between c)

-- what a record that was read leaves: less text, and a state between records
pub record Leaves (s : State) (xs : List ℕ) (p : Read) : Type 0 where
  pub no_more : length p.2 ≤ length xs
  pub less : ends_at_end s ≡ false → length p.2 < length xs
  pub between : ends_at_end p.1 ≡ false

same_read : (p q : Read) → Some p ≡ Some q → p ≡ q
same_read p q e = ap (λ o. elim o [ None ↦ p | Some x ↦ x ]) e

leaves_at_end : (s : State) (b : Bool) (fields : List (List ℕ)) (p : Read) → ends_at_end s ≡ b → cond b (Some (fields, st.StartRecord, [])) None ≡ Some p → Leaves s [] p
leaves_at_end s true fields p is e =
    let same = sym (same_read _ _ e) in
    rw same (record { no_more = omega arith; less = λ no. absurd (false≢true (sym no ∙ is)); between = refl })
leaves_at_end s false fields p is e = cc e

pub next_leaves : (s : State) (fields : List (List ℕ)) (field xs : List ℕ) (p : Read) → next_record default_config s fields field xs ≡ Some p → Leaves s xs p
unfolding next_record
next_leaves s fields field [] p e = leaves_at_end s (ends_at_end s) (fields ++ (field ∷ [])) p refl e
next_leaves s fields field (c ∷ rest) p e = by (is_end (step default_config s c).1) refl e (next_leaves (step default_config s c).0 _ _ rest p)
  where
    by : (b : Bool) → is_end (step default_config s c).1 ≡ b
        → cond b (Some (fields_after (step default_config s c).1 fields field, (step default_config s c).0, rest)) (next_record default_config (step default_config s c).0 (fields_after (step default_config s c).1 fields field) (field_after (step default_config s c).1 c field) rest) ≡ Some p
        → (next_record default_config (step default_config s c).0 (fields_after (step default_config s c).1 fields field) (field_after (step default_config s c).1 c field) rest ≡ Some p → Leaves (step default_config s c).0 rest p)
        → Leaves s (c ∷ rest) p
    by true is h later =
        let same = sym (same_read _ _ h) in
        rw same (record { no_more = omega arith; less = λ _. omega arith; between = step_between s c is })
    by false is h later =
        let rest_leaves = later h in
        let fewer = rest_leaves.no_more in
        record { no_more = omega arith; less = λ _. omega arith; between = rest_leaves.between }

-- turns past the text's length change nothing
enough : (n m : ℕ) (s : State) (xs : List ℕ) → length xs < n → length xs < m → ends_at_end s ≡ false → records_from default_config n s xs ≡ records_from default_config m s xs
unfolding records_from
enough zero m s xs hn hm between = absurd (omega arith)
enough (suc n) zero s xs hn hm between = absurd (omega arith)
enough (suc n) (suc m) s xs hn hm between = by (next_record default_config s [] [] xs) refl (enough n m)
  where
    by : (o : Option Read) → next_record default_config s [] [] xs ≡ o
        → ((t : State) (ys : List ℕ) → length ys < n → length ys < m → ends_at_end t ≡ false → records_from default_config n t ys ≡ records_from default_config m t ys)
        → records_next (records_from default_config n) o ≡ records_next (records_from default_config m) o
    by None e later = refl
    by (Some p) e later =
        let after = next_leaves s [] [] xs p e in
        let shorter = after.less between in
        ap (λ rows. p.0 ∷ rows) (later p.1 p.2 (omega arith) (omega arith) after.between)

pub left-some : (s : State) (xs : List ℕ) (p : Read) → next_record default_config s [] [] xs ≡ Some p → ends_at_end s ≡ false → left_from s xs ≡ p.0 ∷ left_from p.1 p.2
unfolding records_from
left-some s xs p e between =
    let after = next_leaves s [] [] xs p e in
    let shorter = after.less between in
    rw (add-one (length xs), e) (ap (λ rows. p.0 ∷ rows) (enough (length xs) (length p.2 + 1) p.1 p.2 shorter (omega arith) after.between))

pub left-none : (s : State) (xs : List ℕ) → next_record default_config s [] [] xs ≡ None → left_from s xs ≡ []
unfolding records_from
left-none s xs e = rw (add-one (length xs), e)

-- a text has at most one record more than bytes
pub few_from : (n : ℕ) (s : State) (xs : List ℕ) → length (records_from default_config n s xs) ≤ n
unfolding records_from
few_from zero s xs = omega arith
few_from (suc n) s xs = by (next_record default_config s [] [] xs) (few_from n)
  where
    by : (o : Option Read) → ((t : State) (ys : List ℕ) → length (records_from default_config n t ys) ≤ n) → length (records_next (records_from default_config n) o) ≤ suc n
    by None more = omega arith
    by (Some p) more = let rest = more p.1 p.2 in omega arith

shorter : (xs : List ℕ) → length (strip_bom xs) ≤ length xs
unfolding strip_bom
shorter [] = omega arith
shorter (a ∷ []) = omega arith
shorter (a ∷ b ∷ []) = omega arith
shorter (a ∷ b ∷ c ∷ rest) = elim (is_bom a b c) as (λ t. length (cond t rest (a ∷ b ∷ c ∷ rest)) ≤ length (a ∷ b ∷ c ∷ rest)) [ true ↦ omega arith | false ↦ omega arith ]

pub few_records : (bytes : List ℕ) → length (records_of bytes) ≤ length bytes + 1
few_records bytes =
    let most = few_from (length (strip_bom bytes) + 1) st.StartRecord (strip_bom bytes) in
    let less = shorter bytes in
    omega arith
