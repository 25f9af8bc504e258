-- The line that came in part, and the counts.
use Rattle.std.proofs.Common.{◌≡◌, ◌+◌, ◌<◌, ◌≤◌, ◌==◌, ℕ, Bool, true, false, List, [], ◌∷◌, ◌++◌, length, nat_lt, take, refl, sym, ap, ◌∙◌, subst, arith, append-nil, length-append, length-take, length-take-le, take_all}
use Rattle.std.proofs.lemmas.List.{take-append-le}
use Rattle.std.proofs.lemmas.Bool.Decides.{nat_tests}
use Rattle.report_lines.specs.Lines.{line_limit, line_said}
use Rattle.report_lines.specs.declared.line.ReportLine.TheVariants as line
use Rattle.report_counts.specs.Counts.{Ignored, counts_of}
use Rattle.report_counts.specs.declared.counts.Counts.{Counts}
use Rattle.report_counts.proofs.LineLemmas.{foreign_same}
use Rattle.report_input.specs.Lines.{last_line, lines_in, rest_behind, whole_lines}
use Rattle.report_input.specs.Reading.{IsReading, held, held_more}
use Rattle.report_input.specs.declared.reader.Reader.{Reader}
use Rattle.report_input.proofs.CutLemmas.{rest-feed, rest-other, whole-feed, whole-other}

-- one byte more of a line
short_more : (r : List ℕ) (b : ℕ) → length r ≤ line_limit → held_more (held r) b ≡ held (r ++ b ∷ [])
short_more r b h =
    let whole : held r ≡ r = take_all (line_limit + 1) r (omega (arith, h)) in
    let more : length (r ++ b ∷ []) ≡ length r + 1 = length-append r (b ∷ []) in
    let isnt : nat_lt line_limit (length r) ≡ false = grind (arith, nat_tests, h) in
    rw (whole, isnt) (sym (take_all (line_limit + 1) (r ++ b ∷ []) (omega (arith, h, more))))

long_more : (r : List ℕ) (b : ℕ) → line_limit < length r → held_more (held r) b ≡ held (r ++ b ∷ [])
long_more r b h =
    let len : length (held r) ≡ line_limit + 1 = length-take-le (line_limit + 1) r (omega (arith, h)) in
    rw len (sym (take-append-le (line_limit + 1) r (b ∷ []) (omega (arith, h))))

held-push : (r : List ℕ) (b : ℕ) → held_more (held r) b ≡ held (r ++ b ∷ [])
held-push r b = by (nat_lt line_limit (length r)) refl
  where
    by : (x : Bool) → nat_lt line_limit (length r) ≡ x → held_more (held r) b ≡ held (r ++ b ∷ [])
    by true h = long_more r b (grind (arith, nat_tests, h))
    by false h = short_more r b (grind (arith, nat_tests, h))

-- a line that is too long counts as its beginning does
long_said : (t : List ℕ) → line_limit < length t → line_said t ≡ line.Foreign
long_said t h = let is : nat_lt line_limit (length t) ≡ true = grind (arith, nat_tests, h) in rw is refl

held-same : (ignored : Ignored) (ls : List (List ℕ)) (r : List ℕ) → counts_of ignored (ls ++ held r ∷ []) ≡ counts_of ignored (ls ++ r ∷ [])
held-same ignored ls r = by (nat_lt line_limit (length r)) refl
  where
    by : (x : Bool) → nat_lt line_limit (length r) ≡ x → counts_of ignored (ls ++ held r ∷ []) ≡ counts_of ignored (ls ++ r ∷ [])
    by true h =
        let long : line_limit < length r = grind (arith, nat_tests, h) in
        let len : length (held r) ≡ line_limit + 1 = length-take-le (line_limit + 1) r (omega (arith, long)) in
        foreign_same line_said ignored ls (held r) r (long_said (held r) (omega (arith, len))) (long_said r long)
    by false h =
        let short : length r ≤ line_limit = grind (arith, nat_tests, h) in
        ap (λ t. counts_of ignored (ls ++ t ∷ [])) (take_all (line_limit + 1) r (omega (arith, short)))

-- ---- what is read
module _ (ignored : Ignored) (came : List ℕ) (old new : Reader) (is : IsReading ignored came old) where
  pub fed : (b : ℕ) → b ≡ 10 → (t : List ℕ) → t ≡ old.line.items → ((before : List (List ℕ)) → old.counts ≡ counts_of ignored before → new.counts ≡ counts_of ignored (before ++ t ∷ []))
      → new.line.items ≡ [] → IsReading ignored (came ++ b ∷ []) new
  fed b e t line counts none =
      subst (λ x. IsReading ignored (came ++ x ∷ []) new) (sym e)
      (record {
        counts = counts (whole_lines [] came) is.counts ∙ ap (λ x. counts_of ignored (whole_lines [] came ++ x ∷ [])) (line ∙ is.line) ∙ held-same ignored (whole_lines [] came) (rest_behind [] came)
            ∙ ap (counts_of ignored) (sym (whole-feed [] came));
        line = none ∙ ap held (sym (rest-feed [] came));
      })

  pub passed : (b : ℕ) → (b == 10) ≡ false → new.counts ≡ old.counts → new.line.items ≡ held_more old.line.items b → IsReading ignored (came ++ b ∷ []) new
  passed b e counts more = record {
    counts = counts ∙ is.counts ∙ ap (counts_of ignored) (sym (whole-other [] came b e));
    line = more ∙ ap (λ t. held_more t b) is.line ∙ held-push (rest_behind [] came) b ∙ ap held (sym (rest-other [] came b e));
  }

-- ---- at the end
last_some : (r : List ℕ) → 0 < length r → last_line r ≡ r ∷ []
last_some [] h = absurd (omega (arith, h))
last_some (b ∷ r) h = refl

pub nil_of : (xs : List ℕ) → length xs ≡ 0 → xs ≡ []
nil_of [] h = refl
nil_of (x ∷ xs) h = absurd (omega (arith, h))

take_empty : (n : ℕ) (xs : List ℕ) → take (n + 1) xs ≡ [] → xs ≡ []
take_empty n xs h =
    let none : length (take (n + 1) xs) ≡ 0 = ap length h in
    let len = length-take (n + 1) xs in
    nil_of xs (omega (arith, none, len))

take_some : (n : ℕ) (xs : List ℕ) → 0 < length (take (n + 1) xs) → 0 < length xs
take_some n xs h = let len = length-take (n + 1) xs in omega (arith, h, len)

module _ (ignored : Ignored) (came : List ℕ) (reader : Reader) (is : IsReading ignored came reader) where
  pub ended : reader.line.items ≡ [] → reader.counts ≡ counts_of ignored (lines_in came)
  ended none =
      let rest : rest_behind [] came ≡ [] = take_empty line_limit (rest_behind [] came) (sym is.line ∙ none) in
      is.counts ∙ ap (counts_of ignored) (sym (append-nil (whole_lines [] came)) ∙ ap (λ r. whole_lines [] came ++ last_line r) (sym rest))

  pub ended_with : (counts : Counts) (t : List ℕ) → t ≡ reader.line.items → 0 < length t
      → ((before : List (List ℕ)) → reader.counts ≡ counts_of ignored before → counts ≡ counts_of ignored (before ++ t ∷ [])) → counts ≡ counts_of ignored (lines_in came)
  ended_with counts t line some taken =
      let rest = rest_behind [] came in
      let there : 0 < length rest = take_some line_limit rest (subst (λ x. 0 < length x) (line ∙ is.line) some) in
      taken (whole_lines [] came) is.counts ∙ ap (λ x. counts_of ignored (whole_lines [] came ++ x ∷ [])) (line ∙ is.line) ∙ held-same ignored (whole_lines [] came) rest
      ∙ ap (λ l. counts_of ignored (whole_lines [] came ++ l)) (sym (last_some rest there))
