-- Stop times of a trip that come in any order.
use Rattle.std.proofs.Common.{◌≡◌, ◌<◌, ℕ, zero, suc, List, [], ◌∷◌, ◌++◌, map, Bool, true, false, cond, ◌||◌, Option, Some, None, is_some, Less, Equal, Greater, Ordering, refl, sym, ap, subst, ◌∙◌, arith, IsTrue, append-nil, append_assoc, length, slice_get}
use Rattle.std.proofs.lemmas.Bool.Decides.{nat_tests}
use Rattle.std.proofs.lemmas.Cmp.{nat_cmp_total}
use Rattle.std.proofs.lemmas.List.{map-append}
use Rattle.std.proofs.lemmas.Map.Keys.{sorted_head, sorted_tail}
use Rattle.std.specs.BTreeMap.{insert_entry, is_at}
use Rattle.std.specs.Cmp.{eq_by_cmp_equiv}
use Rattle.std.specs.FinMap as fin
use Rattle.std.specs.FinMap.{find, is_sorted, nat_cmp-IsAntisymmetric}
use Rattle.std.specs.FinMap.Entries.{below_all}
use Rattle.std.specs.List.{AllByRecursion, insert}
use Rattle.std.specs.List.Sorted.{IsStrictlySortedBy}
use Rattle.std.specs.Map.{keys_of, lookup}
use Rattle.std.specs.Ordering.{eq_by_cmp, nat_cmp}
use Rattle.schedule_tables.proofs.SequenceLemmas.{both_true, find_at, less, rising_list, still_rising}
use Rattle.schedule_tables.specs.Times.{AreKeyed, AreRising, BySequence, IsGapFor, StandsAt, by_sequence, keyed, sequences}
use Rattle.schedule_tables.specs.declared.stop_time.StopTime.{StopTime}

abbrev Entries : Type 0
Entries = List (ℕ × StopTime)

-- the entries fs have the time at its key, and elsewhere what es have
abbrev Writes : ℕ → StopTime → Entries → Entries → Type 0
Writes k t es fs = (q : ℕ) → find nat_cmp q fs ≡ cond (eq_by_cmp nat_cmp q k) (Some t) (find nat_cmp q es)

not_first : (b : Bool) (v : StopTime) (o : Option StopTime) → cond b (Some v) o ≡ None → (b ≡ false) × (o ≡ None)
not_first true v o h = cc h
not_first false v o h = (refl, h)

-- a write behind entries that don't have the key
behind : (k : ℕ) (t : StopTime) (xs es fs : Entries) → find nat_cmp k xs ≡ None → Writes k t es fs → Writes k t (xs ++ es) (xs ++ fs)
behind k t [] es fs none writes q = writes q
behind k t (x ∷ xs) es fs none writes q =
    let apart = not_first (eq_by_cmp nat_cmp k x.0) x.1 (find nat_cmp k xs) none in
    by apart.0 (behind k t xs es fs apart.1 writes q) (eq_by_cmp nat_cmp q x.0) refl (eq_by_cmp nat_cmp q k) refl
  where
    by : eq_by_cmp nat_cmp k x.0 ≡ false → find nat_cmp q (xs ++ fs) ≡ cond (eq_by_cmp nat_cmp q k) (Some t) (find nat_cmp q (xs ++ es))
        → (b : Bool) → eq_by_cmp nat_cmp q x.0 ≡ b → (c : Bool) → eq_by_cmp nat_cmp q k ≡ c
        → cond b (Some x.1) (find nat_cmp q (xs ++ fs)) ≡ cond c (Some t) (cond b (Some x.1) (find nat_cmp q (xs ++ es)))
    by apart rest true here true there = absurd (grind (arith, nat_tests, here, there, apart))
    by apart rest true here false there = refl
    by apart rest false here c there = rest ∙ ap (λ b. cond b (Some t) (find nat_cmp q (xs ++ es))) there

inserted : (k : ℕ) (t : StopTime) (es fs : Entries) → Writes k t es fs → by_sequence fs ≡ fin.insert (by_sequence es) k t
inserted k t es fs writes = fin.same_map nat_cmp_total nat_cmp-IsAntisymmetric _ _ (λ q.
    fin.get-from_entries nat_cmp_total fs q ∙ writes q
    ∙ ap (cond (eq_by_cmp nat_cmp q k) (Some t)) (sym (fin.get-from_entries nat_cmp_total es q))
    ∙ sym (fin.get-insert nat_cmp_total (by_sequence es) k t q))

pub find-lookup : (es : Entries) (q : ℕ) → find nat_cmp q es ≡ lookup (is_at (nat_cmp q)) es
find-lookup [] q = refl
find-lookup (e ∷ es) q = ap (cond (eq_by_cmp nat_cmp q e.0) (Some e.1)) (find-lookup es q)

-- a write over an entry with the key
over : (k q : ℕ) (t v : StopTime) (b : Bool) → eq_by_cmp nat_cmp q k ≡ b → (o : Option StopTime)
    → cond b (Some t) o ≡ cond (eq_by_cmp nat_cmp q k) (Some t) (cond b (Some v) o)
over k q t v true is o = rw is refl
over k q t v false is o = rw is refl

-- and a write behind one with another key
beside : (k e q : ℕ) (t v : StopTime) → eq_by_cmp nat_cmp k e ≡ false → (b : Bool) → eq_by_cmp nat_cmp q e ≡ b → (c : Bool) → eq_by_cmp nat_cmp q k ≡ c → (o p : Option StopTime)
    → o ≡ cond c (Some t) p → cond b (Some v) o ≡ cond c (Some t) (cond b (Some v) p)
beside k e q t v apart true here true there o p is = absurd (grind (arith, nat_tests, here, there, apart))
beside k e q t v apart true here false there o p is = refl
beside k e q t v apart false here c there o p is = is

greater : (k e : ℕ) → nat_cmp k e ≡ Greater → eq_by_cmp nat_cmp k e ≡ false
greater k e is = rw is refl

-- an entry is written at its key
written : (k : ℕ) (t : StopTime) (es : Entries) → Writes k t es (insert_entry nat_cmp es k t)
written k t [] q = refl
written k t (e ∷ es) q = by (nat_cmp k e.0) refl (written k t es q)
  where
    by : (r : Ordering) → nat_cmp k e.0 ≡ r → find nat_cmp q (insert_entry nat_cmp es k t) ≡ cond (eq_by_cmp nat_cmp q k) (Some t) (find nat_cmp q es)
        → find nat_cmp q (insert_entry nat_cmp (e ∷ es) k t) ≡ cond (eq_by_cmp nat_cmp q k) (Some t) (find nat_cmp q (e ∷ es))
    by Less is rest = rw is refl
    by Equal is rest = rw is (over k q t e.1 (eq_by_cmp nat_cmp q e.0) (ap (eq_by_cmp nat_cmp q) (nat_cmp-IsAntisymmetric k e.0 is)) (find nat_cmp q es))
    by Greater is rest = rw is (beside k e.0 q t e.1 (greater k e.0 is) (eq_by_cmp nat_cmp q e.0) refl (eq_by_cmp nat_cmp q k) refl _ _ rest)

-- a stop time put at the end of those that rise
pub put_last : (ts : List StopTime) (es : Entries) (t : StopTime) → find nat_cmp t.sequence (keyed ts) ≡ None
    → by_sequence (keyed (ts ++ t ∷ []) ++ es) ≡ fin.insert (by_sequence (keyed ts ++ es)) t.sequence t
put_last ts es t none =
    ap by_sequence (ap (λ xs. xs ++ es) (map-append (λ x. (x.sequence, x)) ts (t ∷ [])) ∙ append_assoc (keyed ts) ((t.sequence, t) ∷ []) es)
    ∙ inserted t.sequence t (keyed ts ++ es) (keyed ts ++ (t.sequence, t) ∷ es) (behind t.sequence t (keyed ts) es ((t.sequence, t) ∷ es) none (λ q. refl))

-- and one put among the others
pub put_late : (ts : List StopTime) (es : Entries) (t : StopTime) → find nat_cmp t.sequence (keyed ts) ≡ None
    → by_sequence (keyed ts ++ insert_entry nat_cmp es t.sequence t) ≡ fin.insert (by_sequence (keyed ts ++ es)) t.sequence t
put_late ts es t none =
    let fs = insert_entry nat_cmp es t.sequence t in
    inserted t.sequence t (keyed ts ++ es) (keyed ts ++ fs) (behind t.sequence t (keyed ts) es fs none (written t.sequence t es))

-- no sequence below all is found
find_below : (k : ℕ) (ts : List StopTime) → IsTrue (below_all nat_cmp k (keyed ts)) → find nat_cmp k (keyed ts) ≡ None
find_below k [] h = refl
find_below k (t ∷ ts) h =
    let parts = both_true _ _ h in
    let under = less k t.sequence parts.0 in
    let other : eq_by_cmp nat_cmp k t.sequence ≡ false = grind (arith, nat_tests, under) in
    rw other (find_below k ts parts.1)

-- so it doesn't matter where a stop time goes
pub moved_over : (ts : List StopTime) (es fs : Entries) (t : StopTime) → AreRising (t ∷ ts) → fs ≡ insert_entry nat_cmp es t.sequence t
    → by_sequence (keyed ts ++ fs) ≡ by_sequence (keyed (t ∷ ts) ++ es)
moved_over ts es fs t rising is =
    ap (λ more. by_sequence (keyed ts ++ more)) is ∙ put_late ts es t (find_below t.sequence ts (both_true _ _ rising).0)

found_in_either : (xs es : Entries) (q : ℕ) → is_some (find nat_cmp q (xs ++ es)) ≡ (is_some (find nat_cmp q xs) || is_some (find nat_cmp q es))
found_in_either [] es q = refl
found_in_either (x ∷ xs) es q = by (eq_by_cmp nat_cmp q x.0) (found_in_either xs es q)
  where
    by : (b : Bool) → is_some (find nat_cmp q (xs ++ es)) ≡ (is_some (find nat_cmp q xs) || is_some (find nat_cmp q es))
        → is_some (cond b (Some x.1) (find nat_cmp q (xs ++ es))) ≡ (is_some (cond b (Some x.1) (find nat_cmp q xs)) || is_some (find nat_cmp q es))
    by true rest = refl
    by false rest = rest

held_in_either : (xs es : Entries) (q : ℕ) → is_some (fin.get (by_sequence (xs ++ es)) q) ≡ (is_some (find nat_cmp q xs) || is_some (find nat_cmp q es))
held_in_either xs es q = ap is_some (fin.get-from_entries nat_cmp_total (xs ++ es) q) ∙ found_in_either xs es q

or_true : (b : Bool) → (b || true) ≡ true
or_true true = refl
or_true false = refl

-- whether a sequence is held, by where it was looked for
pub held_late : (ts : List StopTime) (es : Entries) (q : ℕ) → is_some (find nat_cmp q es) ≡ true → is_some (fin.get (by_sequence (keyed ts ++ es)) q) ≡ true
held_late ts es q there = held_in_either (keyed ts) es q ∙ ap (λ b. is_some (find nat_cmp q (keyed ts)) || b) there ∙ or_true _

pub held_rising : (ts : List StopTime) (es : Entries) (q i : ℕ) → AreRising ts → StandsAt ts q i → is_some (fin.get (by_sequence (keyed ts ++ es)) q) ≡ true
held_rising ts es q i rising at = held_in_either (keyed ts) es q ∙ ap (λ o. is_some o || is_some (find nat_cmp q es)) (find_at ts q i rising at) ∙ ap (λ b. b || is_some (find nat_cmp q es)) (at_place ts i at.in_range)
  where
    at_place : (xs : List StopTime) (j : ℕ) → j < length xs → is_some (slice_get xs j) ≡ true
    at_place [] j h = absurd (omega arith)
    at_place (x ∷ xs) zero h = refl
    at_place (x ∷ xs) (suc j) h = at_place xs j (omega arith)

pub held_nowhere : (ts : List StopTime) (es : Entries) (q : ℕ) → find nat_cmp q (keyed ts) ≡ None → is_some (find nat_cmp q es) ≡ false → is_some (fin.get (by_sequence (keyed ts ++ es)) q) ≡ false
held_nowhere ts es q none absent = held_in_either (keyed ts) es q ∙ ap (λ o. is_some o || is_some (find nat_cmp q es)) none ∙ absent

-- ---- entries under their own sequences

pub unkeyed : (ts : List StopTime) → map (λ e. e.1) (keyed ts) ≡ ts
unkeyed [] = refl
unkeyed (t ∷ ts) = ap (λ rest. t ∷ rest) (unkeyed ts)

put_keyed : (ts : List StopTime) (t : StopTime) → (us : List StopTime) × (insert_entry nat_cmp (keyed ts) t.sequence t ≡ keyed us)
put_keyed [] t = (t ∷ [], refl)
put_keyed (x ∷ ts) t = by (nat_cmp t.sequence x.sequence) refl (put_keyed ts t)
  where
    by : (r : Ordering) → nat_cmp t.sequence x.sequence ≡ r → (us : List StopTime) × (insert_entry nat_cmp (keyed ts) t.sequence t ≡ keyed us)
        → (us : List StopTime) × (insert_entry nat_cmp (keyed (x ∷ ts)) t.sequence t ≡ keyed us)
    by Less is rest = (t ∷ x ∷ ts, rw is refl)
    by Equal is rest = (t ∷ ts, rw is (ap (λ n. (n, t) ∷ keyed ts) (sym (nat_cmp-IsAntisymmetric t.sequence x.sequence is))))
    by Greater is rest = (x ∷ rest.0, rw is (ap (λ es. (x.sequence, x) ∷ es) rest.1))

pub still_keyed : (es fs : Entries) (t : StopTime) → AreKeyed es → fs ≡ insert_entry nat_cmp es t.sequence t → AreKeyed fs
still_keyed es fs t are is =
    let more = put_keyed (map (λ e. e.1) es) t in
    let same : fs ≡ keyed more.0 = is ∙ ap (λ xs. insert_entry nat_cmp xs t.sequence t) (sym are) ∙ more.1 in
    rw same (ap keyed (unkeyed more.0))

-- ---- and all of them by rising sequence

sorted_entries : (es : Entries) → IsStrictlySortedBy nat_cmp (keys_of es) → is_sorted nat_cmp es ≡ true
sorted_entries [] h = refl
sorted_entries (e ∷ es) h = rw (above es (sorted_head nat_cmp e.0 (keys_of es) h)) (sorted_entries es (sorted_tail nat_cmp e.0 (keys_of es) h))
  where
    above : (fs : Entries) → AllByRecursion (λ k. nat_cmp e.0 k ≡ Less) (keys_of fs) → below_all nat_cmp e.0 fs ≡ true
    above [] all = refl
    above (f ∷ fs) all = rw all.0 (above fs all.1)

pub rising_entries : (ts : List StopTime) (es : Entries) → keyed ts ≡ es → IsStrictlySortedBy nat_cmp (keys_of es) → AreRising ts
rising_entries ts es is sorted = rw is (sorted_entries es sorted)

-- of times that rise both maps are one
pub one_map : (ts : List StopTime) → AreRising ts → fin.from_sorted {R = nat_cmp} (keyed ts) ≡ by_sequence (keyed ts)
one_map ts rising = fin.same_map nat_cmp_total nat_cmp-IsAntisymmetric _ _ (λ q.
    fin.get-from_sorted nat_cmp (keyed ts) q (rising_list ts rising) ∙ sym (fin.get-from_entries nat_cmp_total (keyed ts) q))

pub only_rising : (ts : List StopTime) (es : Entries) → AreRising ts → [] ≡ es → fin.from_sorted {R = nat_cmp} (keyed ts) ≡ by_sequence (keyed ts ++ es)
only_rising ts es rising none = one_map ts rising ∙ ap by_sequence (sym (append-nil (keyed ts))) ∙ ap (λ more. by_sequence (keyed ts ++ more)) none

-- ---- one more row

pub no_more : (trip view : BySequence) (time : StopTime) → view ≡ trip → is_some (fin.get view time.sequence) ≡ true → sequences.more trip time ≡ None
no_more trip view time is held = ap (λ t. sequences.more t time) (sym is) ∙ ap (λ there. cond there None (Some (fin.insert view time.sequence time))) held

pub one_more : (trip view now : BySequence) (time : StopTime) → view ≡ trip → is_some (fin.get view time.sequence) ≡ false → now ≡ fin.insert view time.sequence time
    → sequences.more trip time ≡ Some now
one_more trip view now time is absent inserted =
    ap (λ t. sequences.more t time) (sym is) ∙ ap (λ there. cond there None (Some (fin.insert view time.sequence time))) absent ∙ ap Some (sym inserted)

insert_last : (ts : List StopTime) (t : StopTime) → insert ts (length ts) t ≡ ts ++ t ∷ []
insert_last [] t = refl
insert_last (x ∷ ts) t = ap (λ rest. x ∷ rest) (insert_last ts t)

-- one more stop time at the end
pub rising_last : (ts : List StopTime) (t : StopTime) (i : ℕ) → AreRising ts → IsGapFor ts t.sequence i → i ≡ length ts → AreRising (ts ++ t ∷ [])
rising_last ts t i rising gap last = rw (← insert_last ts t) (subst (λ j. AreRising (insert ts j t)) last (still_rising ts t i rising gap))

pub later_rising : (t : StopTime) (ts : List StopTime) → AreRising (t ∷ ts) → AreRising ts
later_rising t ts rising = (both_true _ _ rising).1
