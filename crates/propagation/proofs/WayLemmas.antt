-- A way in which updates match stops.
use Rattle.std.proofs.Common.{◌≡◌, ◌<◌, ◌≤◌, ◌+◌, ◌∷◌, ◌++◌, [], ℕ, zero, suc, List, length, Bool, false, Some, None, Option, IfSome, slice_get, refl, sym, arith, subst, ⊎_elim}
use Rattle.std.proofs.lemmas.Bool.{cases_Bool, cases_eq}
use Rattle.std.proofs.lemmas.List.{length-append}
use Rattle.std.proofs.lemmas.List.Elements.{All-nil}
use Rattle.feed_values.specs.declared.stop_time_update.StopTimeUpdate.{StopTimeUpdate}
use Rattle.propagation.specs.Matching.{AreMatches, StandsAfter, next_from}
use Rattle.propagation.specs.Stops.{IsFirstFrom, Stop, names, passes}
use Rattle.propagation.proofs.ListLemmas.{some_within}
use Rattle.propagation.proofs.MatchLemmas.{EachMatch, after-next, each-push, is_match, least-next, low-first}
use Rattle.propagation.proofs.StopLemmas.{passes-past}

-- a search from the next place on is one from this place, where this doesn't pass
from_next : (test : Stop → Bool) (stops : List Stop) (from : ℕ) (m : Option ℕ) → passes test stops from ≡ false → IsFirstFrom test stops (from + 1) m → IsFirstFrom test stops from m
from_next test stops from None fails none = λ place low.
    ⊎_elim (λ same. subst (λ i. passes test stops i ≡ false) same fails) (λ other. none place (omega (arith, low, other))) (cases_eq from place)
from_next test stops from (Some first) fails found = (
  let le = found.0 in omega (arith, le),
  found.1,
  λ place low below.
      ⊎_elim (λ same. subst (λ i. passes test stops i ≡ false) same fails) (λ other. found.2 place (omega (arith, low, other)) below) (cases_eq from place),
)

search-from : (test : Stop → Bool) (stops : List Stop) (n from : ℕ) → length stops ≤ from + n → (m : Option ℕ) × IsFirstFrom test stops from m
search-from test stops zero from past = (None, λ place low. passes-past test stops place (omega (arith, past, low)))
search-from test stops (suc n) from past = ⊎_elim
    (λ at. (Some from, (omega arith, at, λ place low below. absurd (omega (arith, low, below)))))
    (λ fails. let later = search-from test stops n (from + 1) (omega (arith, past)) in (later.0, from_next test stops from later.0 fails later.1))
    (cases_Bool (passes test stops from))

-- the first so many updates are matched, and the next may match the stops from a place on
record AreMatchedTo (stops : List Stop) (updates : List StopTimeUpdate) (k : ℕ) : Type 0 where
  matches : List (Option ℕ)
  from : ℕ
  size : length matches ≡ k
  each : EachMatch stops updates matches
  after : (j : ℕ) → from ≤ j → StandsAfter matches j
  least : (j : ℕ) → StandsAfter matches j → from ≤ j

matched-to : (stops : List Stop) (updates : List StopTimeUpdate) (k : ℕ) → k ≤ length updates → AreMatchedTo stops updates k
matched-to stops updates zero h = record {
  matches = [];
  from = 0;
  size = refl;
  each = λ k u m at none. absurd (cc none);
  after = λ j low. All-nil (λ m. IfSome m (λ matched. matched < j));
  least = λ j after. omega arith;
}
matched-to stops updates (suc k) h =
    let before = matched-to stops updates k (omega (arith, h)) in
    let update = some_within updates k (omega (arith, h)) in
    let u = update.0 in
    let first = search-from (names u) stops (length stops) before.from (omega arith) in
    let is = is_match stops u before.matches before.from first.0 before.after before.least first.1 in
    let at = subst (λ i. slice_get updates i ≡ Some u) (sym before.size) update.1 in
    let longer = length-append before.matches (first.0 ∷ []) in
    let size = before.size in
    record {
      matches = before.matches ++ first.0 ∷ [];
      from = next_from first.0 before.from;
      size = omega (arith, longer, size);
      each = each-push stops updates before.matches u first.0 at is before.each;
      after = after-next before.matches before.from first.0 before.after (low-first (names u) stops before.from first.0 first.1);
      least = least-next before.matches before.from first.0 before.least;
    }

pub some-way : (stops : List Stop) (updates : List StopTimeUpdate) → (matches : List (Option ℕ)) × AreMatches stops updates matches
some-way stops updates =
    let all = matched-to stops updates (length updates) (omega arith) in
    (all.matches, record { size = all.size; each = all.each })
