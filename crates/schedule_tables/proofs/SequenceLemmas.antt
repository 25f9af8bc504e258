-- What stands at a place of rising stop times.
use Rattle.std.proofs.Common.{◌≡◌, ◌<◌, ◌≤◌, ◌∷◌, [], ℕ, zero, suc, List, length, get_or, Bool, true, false, ◌&&◌, Some, None, slice_get, refl, sym, ap, ◌∙◌, arith, IsTrue, subst, Result, Ok, Err, IfOk, IfErr, T, Less, Greater, All}
use Rattle.std.specs.List.{insert}
use Rattle.std.specs.List.Sorted.{IsSearchInRange, IsBinarySearchResult, IsNonDecreasingBy}
use Rattle.std.specs.Ordering.{nat_cmp, ordering_index, is_lt, eq_by_cmp}
use Rattle.std.proofs.lemmas.Cmp.{nat_cmp_total, ranked}
use Rattle.std.proofs.lemmas.List.Sorted.{IsNonDecreasingBy-from_default}
use Rattle.std.proofs.lemmas.Bool.Decides.{nat_tests}
use Rattle.std.specs.FinMap as map
use Rattle.std.specs.FinMap.{find, is_sorted, put}
use Rattle.std.specs.FinMap.Entries.{below_all, is_sorted-put}
use Rattle.schedule_tables.specs.Times.{AreRising, IsGapFor, StandsAt, keyed, no_time, sequence_at}
use Rattle.schedule_tables.specs.declared.stop_time.StopTime.{StopTime}

pub both_true : (a b : Bool) → IsTrue (a && b) → IsTrue a × IsTrue b
both_true true b h = (refl, h)
both_true false b h = cc h

pub less : (a b : ℕ) → IsTrue (is_lt (nat_cmp a b)) → a < b
less a b h = grind (arith, nat_tests, h)

-- each of the later ones is above the first
above : (n : ℕ) (ts : List StopTime) (j : ℕ) → IsTrue (below_all nat_cmp n (keyed ts)) → j < length ts → n < sequence_at ts j
above n [] j h in_range = absurd (omega arith)
above n (t ∷ ts) zero h in_range = less n t.sequence (both_true _ _ h).0
above n (t ∷ ts) (suc j) h in_range = above n ts j (both_true _ _ h).1 (omega arith)

pub rises : (ts : List StopTime) (i j : ℕ) → AreRising ts → i < j → j < length ts → sequence_at ts i < sequence_at ts j
rises [] i j h lt in_range = absurd (omega arith)
rises (t ∷ ts) i zero h lt in_range = absurd (omega arith)
rises (t ∷ ts) zero (suc j) h lt in_range = above t.sequence ts j (both_true _ _ h).0 (omega arith)
rises (t ∷ ts) (suc i) (suc j) h lt in_range = rises ts i j (both_true _ _ h).1 (omega arith) (omega arith)

-- comparisons with a sequence rise along the list, as a binary search asks
comparisons_rise : (ts : List StopTime) (q : ℕ) → AreRising ts → IsNonDecreasingBy (λ t. ordering_index (nat_cmp t.sequence q)) ts
comparisons_rise ts q rising = IsNonDecreasingBy-from_default (λ t. ordering_index (nat_cmp t.sequence q)) ts no_time (λ i j le in_range.
    let keys_rise : sequence_at ts i ≤ sequence_at ts j = grind (arith, rises ts i j rising, λ (same : i ≡ j). ap (sequence_at ts) same) in
    grind (arith, nat_tests))

-- a binary search ends at the sequence, or at the gap for it
pub searched : (ts : List StopTime) (q : ℕ) (r : Result ℕ ℕ) → AreRising ts → IsSearchInRange r (length ts) → IsBinarySearchResult (λ t. nat_cmp t.sequence q) ts r
    → record { found : IfOk r (StandsAt ts q); absent : IfErr r (IsGapFor ts q) }
searched ts q (Ok at) rising in_range equal = record { found = record { in_range = in_range; has = ranked _ q _ (sym (equal no_time)) }; absent = tt }
searched ts q (Err at) rising in_range parted = record {
  found = tt;
  absent = record {
    in_range = in_range;
    smaller = λ j lt. ranked _ q _ (sym ((parted (comparisons_rise ts q rising)).0 j no_time (omega arith) lt));
    greater = λ j le lt. ranked _ q _ (sym ((parted (comparisons_rise ts q rising)).1 j no_time le lt));
  };
}

-- the stop time at the place is found
pub find_at : (ts : List StopTime) (q i : ℕ) → AreRising ts → StandsAt ts q i → find nat_cmp q (keyed ts) ≡ slice_get ts i
find_at [] q i rising at = absurd (omega (arith, at.in_range))
find_at (t ∷ ts) q zero rising at = grind (arith, nat_tests, at.has)
find_at (t ∷ ts) q (suc i) rising at =
    let below = rises (t ∷ ts) 0 (suc i) rising (omega arith) at.in_range in
    let rest : find nat_cmp q (keyed ts) ≡ slice_get ts i = find_at ts q i (both_true _ _ rising).1 (record { in_range = omega (arith, at.in_range); has = at.has }) in
    let other : eq_by_cmp nat_cmp q t.sequence ≡ false = grind (arith, nat_tests, at.has, below) in
    rw (other, rest) refl

gap_after_first : (t : StopTime) (ts : List StopTime) (q : ℕ) → IsGapFor (t ∷ ts) q 0 → IsGapFor ts q 0
gap_after_first t ts q gap = record {
  in_range = omega arith;
  smaller = λ j lt. absurd (omega arith);
  greater = λ j le lt. gap.greater (suc j) (omega arith) (omega arith);
}

gap_in_rest : (t : StopTime) (ts : List StopTime) (q i : ℕ) → IsGapFor (t ∷ ts) q (suc i) → IsGapFor ts q i
gap_in_rest t ts q i gap = record {
  in_range = omega (arith, gap.in_range);
  smaller = λ j lt. gap.smaller (suc j) (omega arith);
  greater = λ j le lt. gap.greater (suc j) (omega arith) (omega arith);
}

-- a sequence that has a gap is not found
pub find_none : (ts : List StopTime) (q i : ℕ) → IsGapFor ts q i → find nat_cmp q (keyed ts) ≡ None
find_none [] q i gap = refl
find_none (t ∷ ts) q zero gap =
    let first = gap.greater 0 (omega arith) (omega arith) in
    let other : eq_by_cmp nat_cmp q t.sequence ≡ false = grind (arith, nat_tests, first) in
    rw other (find_none ts q 0 (gap_after_first t ts q gap))
find_none (t ∷ ts) q (suc i) gap =
    let first = gap.smaller 0 (omega arith) in
    let other : eq_by_cmp nat_cmp q t.sequence ≡ false = grind (arith, nat_tests, first) in
    rw other (find_none ts q i (gap_in_rest t ts q i gap))

-- to put a stop time into its gap is to insert it
pub put_in_gap : (ts : List StopTime) (t : StopTime) (i : ℕ) → IsGapFor ts t.sequence i → keyed (insert ts i t) ≡ put nat_cmp t.sequence t (keyed ts)
put_in_gap [] t zero gap = refl
put_in_gap [] t (suc i) gap = absurd (omega (arith, gap.in_range))
put_in_gap (x ∷ ts) t zero gap =
    let first = gap.greater 0 (omega arith) (omega arith) in
    let below : nat_cmp t.sequence x.sequence ≡ Less = grind (arith, nat_tests, first) in
    rw below refl
put_in_gap (x ∷ ts) t (suc i) gap =
    let first = gap.smaller 0 (omega arith) in
    let over : nat_cmp t.sequence x.sequence ≡ Greater = grind (arith, nat_tests, first) in
    rw over (ap (λ es. (x.sequence, x) ∷ es) (put_in_gap ts t i (gap_in_rest x ts t.sequence i gap)))

-- ---- the same of the finite map

pub rising_list : (ts : List StopTime) → AreRising ts → T (is_sorted nat_cmp (keyed ts))
rising_list ts rising = subst T (sym rising) tt

pub all_entries : (ts : List StopTime) → AreRising ts → keyed ts ≡ map.entries (map.from_sorted {R = nat_cmp} (keyed ts))
all_entries ts rising = sym (map.entries-from_sorted nat_cmp (keyed ts) (rising_list ts rising))

pub get_at : (ts : List StopTime) (q i : ℕ) → AreRising ts → StandsAt ts q i → slice_get ts i ≡ map.get (map.from_sorted {R = nat_cmp} (keyed ts)) q
get_at ts q i rising at = sym (map.get-from_sorted nat_cmp (keyed ts) q (rising_list ts rising) ∙ find_at ts q i rising at)

pub get_none : (ts : List StopTime) (q i : ℕ) → AreRising ts → IsGapFor ts q i → map.get (map.from_sorted {R = nat_cmp} (keyed ts)) q ≡ None
get_none ts q i rising gap = map.get-from_sorted nat_cmp (keyed ts) q (rising_list ts rising) ∙ find_none ts q i gap

pub still_rising : (ts : List StopTime) (t : StopTime) (i : ℕ) → AreRising ts → IsGapFor ts t.sequence i → AreRising (insert ts i t)
still_rising ts t i rising gap = rw (put_in_gap ts t i gap) (from_T _ (is_sorted-put nat_cmp nat_cmp_total t.sequence t (keyed ts) (rising_list ts rising)))
  where
    from_T : (b : Bool) → T b → b ≡ true
    from_T true h = refl
    from_T false h = absurd h

pub no_entries : map.from_sorted {R = nat_cmp} (keyed []) ≡ map.empty
no_entries = map.empty_of_len _ (map.len-entries _ ∙ ap length (map.entries-from_sorted nat_cmp (keyed []) tt))

some_at : (xs : List StopTime) (j : ℕ) (d : StopTime) → j < length xs → slice_get xs j ≡ Some (get_or xs j d)
some_at [] j d h = absurd (omega arith)
some_at (x ∷ xs) zero d h = refl
some_at (x ∷ xs) (suc j) d h = some_at xs j d (omega arith)

-- the stop time that was read at a place is the map's
pub read_at : (ts : List StopTime) (q i : ℕ) (t : StopTime) → AreRising ts → StandsAt ts q i → t ≡ get_or ts i t → Some t ≡ map.get (map.from_sorted {R = nat_cmp} (keyed ts)) q
read_at ts q i t rising at is = ap Some is ∙ sym (some_at ts i t at.in_range) ∙ get_at ts q i rising at

-- each stop time is the one of its sequence
pub each_held : (ts : List StopTime) → AreRising ts → All (λ t. map.get (map.from_sorted {R = nat_cmp} (keyed ts)) t.sequence ≡ Some t) ts
each_held ts rising k d within =
    let here = some_at ts k d within in
    let there = some_at ts k no_time within in
    let same : get_or ts k no_time ≡ get_or ts k d = cc (sym there ∙ here) in
    sym (get_at ts (let t = get_or ts k d in t.sequence) k rising (record { in_range = within; has = ap (λ t. t.sequence) same })) ∙ here

pub entries-empty : map.entries (map.empty {X = StopTime} {R = nat_cmp}) ≡ []
entries-empty = ap map.entries (sym no_entries) ∙ map.entries-from_sorted nat_cmp (keyed []) tt
