-- Where the stops of a trip stand.
use Rattle.std.proofs.Common.{◌≡◌, ◌+◌, ◌<◌, ◌≤◌, ◌==◌, ◌∷◌, [], ℕ, zero, suc, List, length, map, Bool, true, false, T, cond, bytes_eq, subst, Some, None, Option, slice_get, option_map, unwrap_or, refl, sym, ap, ⊎_elim, ◌∙◌, arith}
use Rattle.std.proofs.lemmas.Bool.{cases_Bool, cases_lt, eq-eqb, ne_eqb}
use Rattle.std.specs.Cmp.Lexicographic.{bytes_decides}
use Rattle.std.proofs.lemmas.Option.{slice_get_past}
use Rattle.timetable.specs.Maps.{Text}
use Rattle.std.specs.FinMap.{entries, entries_sorted, is_sorted}
use Rattle.std.specs.Ordering.{nat_cmp}
use Rattle.timetable.specs.Numbers.{HasNumber}
use Rattle.timetable.specs.Times.{AreRising, BySequence, IsGapFor, StandsAt, keyed, sequence_at}
use Rattle.timetable.specs.declared.StopTime.{StopTime}
use Rattle.timetable.proofs.SequenceLemmas.{rises}
use Rattle.propagation.specs.Stops.{AreReached, IsFirstFrom, Reaches, Stop, passes, with_ids}

pub passes-past : (test : Stop → Bool) (stops : List Stop) (i : ℕ) → length stops ≤ i → passes test stops i ≡ false
passes-past test stops i h = rw (slice_get_past stops i h) refl

pub length-with_ids : (ids : List Text) (ts : List StopTime) → length (with_ids ids ts) ≡ length ts
length-with_ids ids [] = refl
length-with_ids ids (t ∷ ts) = ap suc (length-with_ids ids ts)

pub passes-sequence : (ids : List Text) (q : ℕ) (ts : List StopTime) (i : ℕ) → i < length ts → passes (λ s. s.sequence == q) (with_ids ids ts) i ≡ (sequence_at ts i == q)
passes-sequence ids q [] i h = absurd (omega arith)
passes-sequence ids q (t ∷ ts) zero h = refl
passes-sequence ids q (t ∷ ts) (suc i) h = passes-sequence ids q ts i (omega arith)

-- where the place has another sequence, or there is none, the stop hasn't the sequence
sequence-no : (ids : List Text) (q : ℕ) (ts : List StopTime) (i : ℕ) → (i < length ts → sequence_at ts i ≡ q → ⊥) → passes (λ s. s.sequence == q) (with_ids ids ts) i ≡ false
sequence-no ids q ts i other =
    ⊎_elim
    (λ within. let at = passes-sequence ids q ts i within in at ∙ ne_eqb (sequence_at ts i) q (other within))
    (λ past. passes-past (λ s. s.sequence == q) (with_ids ids ts) i (rw (length-with_ids ids ts) past))
    (cases_lt i (length ts))

sequence-yes : (ids : List Text) (q : ℕ) (ts : List StopTime) (i : ℕ) → StandsAt ts q i → passes (λ s. s.sequence == q) (with_ids ids ts) i ≡ true
sequence-yes ids q ts i at = passes-sequence ids q ts i at.in_range ∙ eq-eqb (sequence_at ts i) q at.has

-- a stop of rising ones that has the sequence is the only one
pub found_from : (ids : List Text) (q : ℕ) (ts : List StopTime) (from i : ℕ) → AreRising ts → StandsAt ts q i → from ≤ i → IsFirstFrom (λ s. s.sequence == q) (with_ids ids ts) from (Some i)
found_from ids q ts from i rising at le = (
  le,
  sequence-yes ids q ts i at,
  λ place low below. sequence-no ids q ts place (λ within same.
      let up = rises ts place i rising below at.in_range in omega (arith, up, same, at.has)),
)

pub found_before : (ids : List Text) (q : ℕ) (ts : List StopTime) (from i : ℕ) → AreRising ts → StandsAt ts q i → i < from → IsFirstFrom (λ s. s.sequence == q) (with_ids ids ts) from None
found_before ids q ts from i rising at lt = λ place low. sequence-no ids q ts place (λ within same.
    let up = rises ts i place rising (omega (arith, lt, low)) within in omega (arith, up, same, at.has))

pub not_found : (ids : List Text) (q : ℕ) (ts : List StopTime) (from i : ℕ) → IsGapFor ts q i → IsFirstFrom (λ s. s.sequence == q) (with_ids ids ts) from None
not_found ids q ts from i gap = λ place low. sequence-no ids q ts place (λ within same.
    ⊎_elim (λ lt. let less = gap.smaller place lt in omega (arith, less, same)) (λ le. let more = gap.greater place le within in omega (arith, more, same)) (cases_lt place i))

-- ---- the stop times of a trip
module _ {G : Type 0} where
  -- a number of a list of ids has an id
  pub an_id : (es : List (Text × G)) (n : ℕ) → n < length es → (id : Text) × HasNumber es n id
  an_id [] n h = absurd (omega arith)
  an_id (e ∷ es) zero h = (e.0, refl)
  an_id (e ∷ es) (suc n) h = an_id es n (omega arith)

from_T : (b : Bool) → T b → b ≡ true
from_T true h = refl
from_T false h = absurd h

pub rising-entries : (times : List StopTime) (m : BySequence) → keyed times ≡ entries m → AreRising times
rising-entries times m e = ap (is_sorted nat_cmp) e ∙ from_T (is_sorted nat_cmp (entries m)) (entries_sorted m)

values-keyed : (times : List StopTime) → map (λ entry. entry.1) (keyed times) ≡ times
values-keyed [] = refl
values-keyed (time ∷ times) = ap (λ ts. time ∷ ts) (values-keyed times)

pub with_ids-entries : (ids : List Text) (times : List StopTime) (m : BySequence) → keyed times ≡ entries m → with_ids ids times ≡ with_ids ids (map (λ entry. entry.1) (entries m))
with_ids-entries ids times m e = ap (with_ids ids) (sym (values-keyed times) ∙ ap (map (λ entry. entry.1)) e)

-- ---- stops that are gone through from a place on
-- none up to a place passes, nor does the one there
pub none_more : (test : Stop → Bool) (stops : List Stop) (from n : ℕ) → ((place : ℕ) → from ≤ place → place < n → passes test stops place ≡ false)
    → passes test stops n ≡ false → (place : ℕ) → from ≤ place → place < n + 1 → passes test stops place ≡ false
none_more test stops from n h k place low high =
    ⊎_elim
    (λ before. h place low before)
    (λ past. let is : place ≡ n = omega (arith, past, high) in subst (λ p. passes test stops p ≡ false) (sym is) k)
    (cases_lt place n)

-- none up to the end passes
pub none_passes : (test : Stop → Bool) (stops : List Stop) (from n : ℕ) → ((place : ℕ) → from ≤ place → place < n → passes test stops place ≡ false)
    → length stops ≤ n → IsFirstFrom test stops from None
none_passes test stops from n h end = λ place low.
    ⊎_elim (λ before. h place low before) (λ past. passes-past test stops place (omega (arith, past, end))) (cases_lt place n)

-- ---- stops by their id
passes-at : (test : Stop → Bool) (o : Option Stop) → unwrap_or (option_map test o) false ≡ true → (s : Stop) × (o ≡ Some s) × (test s ≡ true)
passes-at test None h = absurd (cc h)
passes-at test (Some s) h = (s, refl, h)

pub passes-true : (test : Stop → Bool) (stops : List Stop) (place : ℕ) → passes test stops place ≡ true → (s : Stop) × (slice_get stops place ≡ Some s) × (test s ≡ true)
passes-true test stops place h = passes-at test (slice_get stops place) h

no_from : (id : Text) (stops : List Stop) (last : Text → Option ℕ) (from place : ℕ) → AreReached stops last → (Reaches place (last id) → ⊥)
    → passes (λ s. bytes_eq id s.stop) stops place ≡ false
no_from id stops last from place reached none =
    ⊎_elim
    (λ yes. let at = passes-true (λ s. bytes_eq id s.stop) stops place yes in
    let s = at.0 in
    let same : id ≡ s.stop = (bytes_decides id s.stop).0 at.2 in
    absurd (none (subst (λ q. Reaches place (last q)) (sym same) (reached place s at.1))))
    (λ no. no)
    (cases_Bool (passes (λ s. bytes_eq id s.stop) stops place))

-- no stop has an id without a last place, and none after its last place has it
pub absent : (id : Text) (stops : List Stop) (last : Text → Option ℕ) (from : ℕ) → AreReached stops last → last id ≡ None → IsFirstFrom (λ s. bytes_eq id s.stop) stops from None
absent id stops last from reached none = λ place low. no_from id stops last from place reached (λ r. subst (Reaches place) none r)

pub gone : (id : Text) (stops : List Stop) (last : Text → Option ℕ) (from p : ℕ) → AreReached stops last → last id ≡ Some p → p < from → IsFirstFrom (λ s. bytes_eq id s.stop) stops from None
gone id stops last from p reached some lt = λ place low. no_from id stops last from place reached (λ r. let le : place ≤ p = subst (Reaches place) some r in omega (arith, le, lt, low))

-- one more stop is reached
pub reached-next : (place at : ℕ) (id q : Text) (old new : Option ℕ) → new ≡ cond (bytes_eq id q) (Some at) old → place ≤ at → (bytes_eq id q ≡ false → Reaches place old) → Reaches place new
reached-next place at id q old new e le rest =
    ⊎_elim
    (λ yes. let is : new ≡ Some at = e ∙ ap (λ b. cond b (Some at) old) yes in subst (Reaches place) (sym is) le)
    (λ no. let is : new ≡ old = e ∙ ap (λ b. cond b (Some at) old) no in subst (Reaches place) (sym is) (rest no))
    (cases_Bool (bytes_eq id q))

-- the stop at a place has its own id
pub own_id : (stops : List Stop) (at place : ℕ) (here there : Stop) → place ≡ at → slice_get stops at ≡ Some here → slice_get stops place ≡ Some there → bytes_eq here.stop there.stop ≡ false → ⊥
own_id stops at place here there same a b other =
    let one : Some here ≡ Some there = sym a ∙ ap (slice_get stops) (sym same) ∙ b in
    let is : here ≡ there = some_is here there one in
    let equal : bytes_eq here.stop there.stop ≡ true = (bytes_decides here.stop there.stop).1 (ap (λ s. s.stop) is) in
    cc (sym other ∙ equal)
  where
    some_is : (x y : Stop) → Some x ≡ Some y → x ≡ y
    some_is x y e = cc e
