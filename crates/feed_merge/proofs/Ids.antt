-- The ids of the union: a number ends at the first colon.
use Rattle.std.proofs.Common.{◌≡◌, ◌≢◌, ℕ, ◌+◌, ◌%◌, ◌<◌, ◌^◌, List, [], ◌∷◌, ◌++◌, decimal, refl, sym, ◌∙◌, arith}
use Rattle.std.specs.List.{AllByRecursion}
use Rattle.std.proofs.lemmas.Fmt.{decimal_by_steps, decimal_injective}
use Rattle.std.proofs.lemmas.List.{append_assoc}
use Rattle.feed_merge.specs.Union.{feed_limit, prefixed_id}
use Rattle.feed_merge.specs.Laws.{IdsStayApart}

abbrev NoColon : List ℕ → Type 0
NoColon xs = AllByRecursion (λ x. x ≢ 58) xs

digit_before : (n : ℕ) → n < 10 → 48 + n ≢ 58
digit_before n l e = omega arith

no_colon_more : (ds : List ℕ) (d : ℕ) → NoColon ds → d ≢ 58 → NoColon (ds ++ d ∷ [])
no_colon_more [] d all not = (not, tt)
no_colon_more (x ∷ ds) d all not = (all.0, no_colon_more ds d all.1 not)

digits : (n : ℕ) → n < 2 ^ 64 → NoColon (decimal n)
digits = decimal_by_steps (λ n ds. NoColon ds) (λ n l. (digit_before n l, tt)) (λ n ds l all. no_colon_more ds (48 + n % 10) all (digit_before (n % 10) (omega arith)))

-- what stands before the first colon of equal texts is equal, and so is what stands behind it
front_same : (xs ys i j : List ℕ) → NoColon xs → NoColon ys → xs ++ 58 ∷ i ≡ ys ++ 58 ∷ j → xs ≡ ys
front_same [] [] i j p q e = refl
front_same [] (y ∷ ys) i j p q e = absurd (q.0 (cc e))
front_same (x ∷ xs) [] i j p q e = absurd (p.0 (cc e))
front_same (x ∷ xs) (y ∷ ys) i j p q e =
    let first : x ≡ y = cc e in
    let rest : xs ++ 58 ∷ i ≡ ys ++ 58 ∷ j = cc e in
    let more : xs ≡ ys = front_same xs ys i j p.1 q.1 rest in
    cc

back_same : (xs ys i j : List ℕ) → NoColon xs → NoColon ys → xs ++ 58 ∷ i ≡ ys ++ 58 ∷ j → i ≡ j
back_same [] [] i j p q e = cc e
back_same [] (y ∷ ys) i j p q e = absurd (q.0 (cc e))
back_same (x ∷ xs) [] i j p q e = absurd (p.0 (cc e))
back_same (x ∷ xs) (y ∷ ys) i j p q e =
    let rest : xs ++ 58 ∷ i ≡ ys ++ 58 ∷ j = cc e in
    back_same xs ys i j p.1 q.1 rest

at_colon : (f : ℕ) (i : List ℕ) → prefixed_id f i ≡ decimal f ++ 58 ∷ i
at_colon f i = append_assoc (decimal f) (58 ∷ []) i

wide : (f : ℕ) → f < feed_limit → f < 2 ^ 64
wide f l = omega arith

module _ (f g : ℕ) (i j : List ℕ) (fits : f < feed_limit) (too : g < feed_limit) (e : prefixed_id f i ≡ prefixed_id g j) where
  same : decimal f ++ 58 ∷ i ≡ decimal g ++ 58 ∷ j
  same = sym (at_colon f i) ∙ e ∙ at_colon g j

  pub feed_same : f ≡ g
  feed_same = decimal_injective f g (wide f fits) (wide g too) (front_same (decimal f) (decimal g) i j (digits f (wide f fits)) (digits g (wide g too)) same)

  pub id_same : i ≡ j
  id_same = back_same (decimal f) (decimal g) i j (digits f (wide f fits)) (digits g (wide g too)) same

pub ids_stay_apart : IdsStayApart
ids_stay_apart = record { feeds = feed_same; ids = id_same }
