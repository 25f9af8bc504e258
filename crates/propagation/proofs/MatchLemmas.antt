-- The matches of updates, one by one.
use Rattle.std.proofs.Common.{◌≡◌, ◌<◌, ◌≤◌, ◌+◌, ◌∷◌, ◌++◌, ◌==◌, [], ℕ, List, length, take, get_or, Bool, true, false, cond, Some, None, Option, All, IfSome, slice_get, refl, sym, ap, ◌∙◌, arith, subst, ⊎_elim}
use Rattle.std.specs.List.{position_from}
use Rattle.std.specs.Option.{option_or}
use Rattle.std.proofs.Math.Seq.{take-append_seam}
use Rattle.std.proofs.lemmas.Bool.{cases_lt, cases_eq, eq-eqb, ne_eqb}
use Rattle.std.proofs.lemmas.List.{length-append, length-take, take-append-le, take_more}
use Rattle.std.proofs.lemmas.List.Elements.{All-head, All-push, All-tail}
use Rattle.std.proofs.lemmas.Option.{slice_get-get_or, slice_get_within, same_Some}
use Rattle.feed_values.specs.declared.stop_time_update.StopTimeUpdate.{StopTimeUpdate}
use Rattle.propagation.specs.Matching.{AreMatches, AreOrdered, IsMatch, StandsAfter, is_at, matcher, next_from}
use Rattle.propagation.specs.Stops.{IsFirstFrom, Stop, names}
use Rattle.propagation.proofs.ListLemmas.{All-front, All-last, position_from-push, slice_get-left, slice_get-seam, some_within}
use Rattle.propagation.proofs.StopLemmas.{passes-past}

-- the first stop that an update names, from the places after all earlier matches on, is its match
pub is_match : (stops : List Stop) (u : StopTimeUpdate) (earlier : List (Option ℕ)) (from : ℕ) (m : Option ℕ)
    → ((j : ℕ) → from ≤ j → StandsAfter earlier j) → ((j : ℕ) → StandsAfter earlier j → from ≤ j)
    → IsFirstFrom (names u) stops from m → IsMatch stops u earlier m
is_match stops u earlier from None after least first = λ place may. absurd (cc (sym may.named ∙ first place (least place may.after)))
is_match stops u earlier from (Some place) after least first = (
  record { named = first.1; after = after place first.0 },
  λ other may. ⊎_elim (λ lt. absurd (cc (sym may.named ∙ first.2 other (least other may.after) lt))) (λ le. le) (cases_lt other place),
)

abbrev pub EachMatch : List Stop → List StopTimeUpdate → List (Option ℕ) → Type 0
EachMatch stops updates matches = (k : ℕ) (u : StopTimeUpdate) (m : Option ℕ) → slice_get updates k ≡ Some u → slice_get matches k ≡ Some m
    → IsMatch stops u (take k matches) m

each-last : (stops : List Stop) (updates : List StopTimeUpdate) (matches : List (Option ℕ)) (u : StopTimeUpdate) (x : Option ℕ)
    → slice_get updates (length matches) ≡ Some u → IsMatch stops u matches x
    → (v : StopTimeUpdate) (y : Option ℕ) → slice_get updates (length matches) ≡ Some v → slice_get (matches ++ x ∷ []) (length matches) ≡ Some y
    → IsMatch stops v (take (length matches) (matches ++ x ∷ [])) y
each-last stops updates matches u x at is v y av ay =
    subst (λ e. IsMatch stops v e y) (sym (take-append_seam matches (x ∷ [])))
    (subst (λ w. IsMatch stops w matches y) (same_Some u v (sym at ∙ av))
    (subst (λ z. IsMatch stops u matches z) (same_Some x y (sym (slice_get-seam matches x) ∙ ay)) is))

-- one more match
pub each-push : (stops : List Stop) (updates : List StopTimeUpdate) (matches : List (Option ℕ)) (u : StopTimeUpdate) (x : Option ℕ)
    → slice_get updates (length matches) ≡ Some u → IsMatch stops u matches x → EachMatch stops updates matches → EachMatch stops updates (matches ++ x ∷ [])
each-push stops updates matches u x at is each k v y av ay =
    ⊎_elim
    (λ lt. subst (λ e. IsMatch stops v e y) (sym (take-append-le k matches (x ∷ []) (omega arith)))
    (each k v y av (sym (slice_get-left matches (x ∷ []) k lt) ∙ ay)))
    (λ ge. let within = slice_get_within (matches ++ x ∷ []) k y ay in
    let size = length-append matches (x ∷ []) in
    let here : k ≡ length matches = omega (arith, within, size, ge) in
    subst (λ i. IsMatch stops v (take i (matches ++ x ∷ [])) y) (sym here)
    (each-last stops updates matches u x at is v y (subst (λ i. slice_get updates i ≡ Some v) here av) (subst (λ i. slice_get (matches ++ x ∷ []) i ≡ Some y) here ay)))
    (cases_lt k (length matches))

-- where the next match may stand
pub after-push : (matches : List (Option ℕ)) (x : Option ℕ) (j : ℕ) → StandsAfter matches j → IfSome x (λ place. place < j) → StandsAfter (matches ++ x ∷ []) j
after-push matches x j after lt = All-push (λ m. IfSome m (λ place. place < j)) matches x after lt

pub after-front : (matches : List (Option ℕ)) (x : Option ℕ) (j : ℕ) → StandsAfter (matches ++ x ∷ []) j → StandsAfter matches j
after-front matches x j after = All-front (λ m. IfSome m (λ place. place < j)) matches (x ∷ []) after

pub after-last : (matches : List (Option ℕ)) (place j : ℕ) → StandsAfter (matches ++ Some place ∷ []) j → place < j
after-last matches place j after = All-last (λ m. IfSome m (λ place. place < j)) matches (Some place) after

-- ---- the update that matches a stop
not_at : (place i : ℕ) (matches : List (Option ℕ)) → StandsAfter matches place → position_from (is_at place) i matches ≡ None
not_at place i [] after = refl
not_at place i (None ∷ matches) after = not_at place (i + 1) matches (All-tail (λ m. IfSome m (λ p. p < place)) None matches after)
not_at place i (Some m ∷ matches) after =
    let lt : m < place = All-head (λ m. IfSome m (λ p. p < place)) (Some m) matches after in
    let other : (m == place) ≡ false = ne_eqb m place (λ e. omega (arith, e, lt)) in
    rw other (not_at place (i + 1) matches (All-tail (λ m. IfSome m (λ p. p < place)) (Some m) matches after))

or_none : {A : Type 0} (o : Option A) → option_or o None ≡ o
or_none None = refl
or_none (Some x) = refl

-- one more match adds its update at its stop
pub matcher-push : (matches : List (Option ℕ)) (m : Option ℕ) (other : ℕ) → IfSome m (StandsAfter matches)
    → matcher (matches ++ m ∷ []) other ≡ cond (is_at other m) (Some (length matches)) (matcher matches other)
matcher-push matches None other after = position_from-push (is_at other) 0 matches None ∙ or_none (matcher matches other)
matcher-push matches (Some place) other after =
    ⊎_elim
    (λ same. let here : (place == other) ≡ true = eq-eqb place other same in
    position_from-push (is_at other) 0 matches (Some place) ∙ let e : 0 + length matches ≡ length matches = omega arith in rw (not_at other 0 matches (subst (StandsAfter matches) same after), here, e) refl)
    (λ ne. let there : (place == other) ≡ false = ne_eqb place other ne in
    position_from-push (is_at other) 0 matches (Some place) ∙ rw there (or_none (matcher matches other)))
    (cases_eq place other)

-- the places after all matches, with one more
pub after-next : (matches : List (Option ℕ)) (from : ℕ) (m : Option ℕ) → ((j : ℕ) → from ≤ j → StandsAfter matches j) → IfSome m (λ place. from ≤ place)
    → (j : ℕ) → next_from m from ≤ j → StandsAfter (matches ++ m ∷ []) j
after-next matches from None after le j low = after-push matches None j (after j low) tt
after-next matches from (Some place) after le j low = after-push matches (Some place) j (after j (omega (arith, le, low))) (omega (arith, low))

pub least-next : (matches : List (Option ℕ)) (from : ℕ) (m : Option ℕ) → ((j : ℕ) → StandsAfter matches j → from ≤ j)
    → (j : ℕ) → StandsAfter (matches ++ m ∷ []) j → next_from m from ≤ j
least-next matches from None least j after = least j (after-front matches None j after)
least-next matches from (Some place) least j after = let lt = after-last matches place j after in omega (arith, lt)

-- a first place is at or after where the search began
pub low-first : (test : Stop → Bool) (stops : List Stop) (from : ℕ) (m : Option ℕ) → IsFirstFrom test stops from m → IfSome m (λ place. from ≤ place)
low-first test stops from None first = tt
low-first test stops from (Some place) first = first.0

-- each match is a place of the trip, after the earlier ones
pub within-stops : (stops : List Stop) (u : StopTimeUpdate) (earlier : List (Option ℕ)) (m : Option ℕ) → IsMatch stops u earlier m → IfSome m (λ place. place < length stops)
within-stops stops u earlier None is = tt
within-stops stops u earlier (Some place) is =
    ⊎_elim (λ lt. lt) (λ past. absurd (cc (sym (passes-past (names u) stops place past) ∙ is.0.named))) (cases_lt place (length stops))

pub all-within : (stops : List Stop) (updates : List StopTimeUpdate) (matches : List (Option ℕ)) → AreMatches stops updates matches → All (λ m. IfSome m (λ place. place < length stops)) matches
all-within stops updates matches are k d within =
    let m = get_or matches k d in
    let update = some_within updates k (let e = are.size in omega (arith, e, within)) in
    within-stops stops update.0 (take k matches) m (are.each k update.0 m update.1 (slice_get-get_or matches k d within))

pub are-ordered : (stops : List Stop) (updates : List StopTimeUpdate) (matches : List (Option ℕ)) → AreMatches stops updates matches → AreOrdered matches
are-ordered stops updates matches are k place at =
    let update = some_within updates k (let e = are.size in let lt = slice_get_within matches k (Some place) at in omega (arith, e, lt)) in
    let is = are.each k update.0 (Some place) update.1 at in
    is.0.after

-- the updates of the stops, with one more match
pub matcher-next : (matches : List (Option ℕ)) (i : ℕ) (place : ℕ) (old new : Option ℕ) → i < length matches → AreOrdered matches
    → old ≡ matcher (take i matches) place → new ≡ cond (is_at place (get_or matches i None)) (Some i) old → new ≡ matcher (take (i + 1) matches) place
matcher-next matches i place old new within ordered was is =
    let m = get_or matches i None in
    let size : length (take i matches) ≡ i = let e = length-take i matches in omega (arith, e, within) in
    let here = slice_get-get_or matches i None within in
    let push = matcher-push (take i matches) m place (if_some_after m (λ p e. ordered i p (here ∙ ap Some e))) in
    is ∙ ap (λ o. cond (is_at place m) (Some i) o) was ∙ ap (λ n. cond (is_at place m) (Some n) (matcher (take i matches) place)) (sym size)
    ∙ sym push ∙ ap (λ l. matcher l place) (sym (take_more matches i None within))
  where
    if_some_after : (m : Option ℕ) → ((p : ℕ) → m ≡ Some p → StandsAfter (take i matches) p) → IfSome m (StandsAfter (take i matches))
    if_some_after None h = tt
    if_some_after (Some p) h = h p refl
