-- What names with marks have.
use Rattle.std.proofs.Common.{◌≡◌, ℕ, Bool, true, false, List, [], ◌∷◌, cond, fold, Option, Some, refl, sym, ap, ◌∙◌}
use Rattle.std.specs.Cmp.Lexicographic.{slice_cmp, nat_list_cmp_total, texts_ties}
use Rattle.std.specs.List.{AllByRecursion}
use Rattle.std.specs.List.Sorted.{IsStrictlySortedBy}
use Rattle.std.specs.Map.{keys_of, lookup}
use Rattle.std.specs.Ordering.{is_eq, match_ordering, nat_cmp, ordering_reverse}
use Rattle.std.specs.Cmp.{IsTotalOrder}
use Rattle.std.specs.Str.{bytes_eq}
use Rattle.std.specs.declared.cmp.Ordering.{Ordering}
use Rattle.std.specs.declared.cmp.Ordering.TheVariants.{Equal, Greater, Less}
use Rattle.std.proofs.lemmas.Slice.Eq.{bytes_eq-Decides}
use Rattle.rule_tally.specs.Laws.{last_mark}
use Rattle.rule_tally.specs.Names.{Marks, marks_of, with_mark}

-- bytes are the same where they compare so
tie : (x y : List ℕ) (o : Ordering) → slice_cmp nat_cmp x y ≡ o → bytes_eq x y ≡ is_eq o
tie x y o h = texts_ties x y ∙ ap is_eq h

-- a name and another, of which one may be looked for
other : (name k k1 : List ℕ) (v w : Bool) (rest : Option Bool) (b : Bool) → bytes_eq name k ≡ b → bytes_eq k k1 ≡ false
    → cond (bytes_eq name k1) (Some w) (cond b (Some v) rest) ≡ cond b (Some v) (cond (bytes_eq name k1) (Some w) rest)
other name k k1 v w rest true h apart =
    let same : name ≡ k = (bytes_eq-Decides name k).0 h in
    let none : bytes_eq name k1 ≡ false = ap (λ n. bytes_eq n k1) same ∙ apart in
    rw none refl
other name k k1 v w rest false h apart = refl

lookup-with_mark : (name : List ℕ) (es : Marks) (k : List ℕ) (v : Bool) → lookup (bytes_eq name) (with_mark es k v) ≡ cond (bytes_eq name k) (Some v) (lookup (bytes_eq name) es)
lookup-with_mark name [] k v = refl
lookup-with_mark name (e ∷ es) k v = by (lookup-with_mark name es k v) (slice_cmp nat_cmp k e.0) refl
  where
    by : lookup (bytes_eq name) (with_mark es k v) ≡ cond (bytes_eq name k) (Some v) (lookup (bytes_eq name) es) → (o : Ordering) → slice_cmp nat_cmp k e.0 ≡ o
        → lookup (bytes_eq name) (match_ordering o ((k, v) ∷ e ∷ es) ((e.0, v) ∷ es) (e ∷ with_mark es k v)) ≡ cond (bytes_eq name k) (Some v) (lookup (bytes_eq name) (e ∷ es))
    by rest Less h = refl
    by rest Equal h =
        let same : k ≡ e.0 = (bytes_eq-Decides k e.0).0 (tie k e.0 Equal h) in
        found (bytes_eq name e.0) ∙ ap (λ n. cond (bytes_eq name n) (Some v) (cond (bytes_eq name e.0) (Some e.1) (lookup (bytes_eq name) es))) (sym same)
      where
        found : (b : Bool) → cond b (Some v) (lookup (bytes_eq name) es) ≡ cond b (Some v) (cond b (Some e.1) (lookup (bytes_eq name) es))
        found true = refl
        found false = refl
    by rest Greater h =
        ap (cond (bytes_eq name e.0) (Some e.1)) rest ∙ other name k e.0 v e.1 (lookup (bytes_eq name) es) (bytes_eq name k) refl (tie k e.0 Greater h)

pub all_marked : (name : List ℕ) (es given : Marks) → lookup (bytes_eq name) (fold (λ (done : Marks) (p : List ℕ × Bool). with_mark done p.0 p.1) es given) ≡ last_mark name (lookup (bytes_eq name) es) given
all_marked name es [] = refl
all_marked name es (g ∷ given) = all_marked name (with_mark es g.0 g.1) given ∙ ap (λ m. last_mark name m given) (lookup-with_mark name es g.0 g.1)

-- ---- names rise
order : IsTotalOrder (slice_cmp nat_cmp)
order = nat_list_cmp_total

abbrev Below : List ℕ → List (List ℕ) → Type 0
Below x ys = AllByRecursion (λ y. slice_cmp nat_cmp x y ≡ Less) ys

below_more : (x : List ℕ) (es : Marks) (k : List ℕ) (v : Bool) → Below x (keys_of es) → slice_cmp nat_cmp x k ≡ Less → Below x (keys_of (with_mark es k v))
below_more x [] k v all less = (less, tt)
below_more x (e ∷ es) k v all less = by (below_more x es k v all.1 less) (slice_cmp nat_cmp k e.0)
  where
    by : Below x (keys_of (with_mark es k v)) → (o : Ordering) → Below x (keys_of (match_ordering o ((k, v) ∷ e ∷ es) ((e.0, v) ∷ es) (e ∷ with_mark es k v)))
    by more Less = (less, all)
    by more Equal = all
    by more Greater = (all.0, more)

below_all : (k x : List ℕ) (ys : List (List ℕ)) → slice_cmp nat_cmp k x ≡ Less → Below x ys → Below k ys
below_all k x [] less all = tt
below_all k x (y ∷ ys) less all = (order.trans k x y less all.0, below_all k x ys less all.1)

rises-with_mark : (es : Marks) (k : List ℕ) (v : Bool) → IsStrictlySortedBy (slice_cmp nat_cmp) (keys_of es) → IsStrictlySortedBy (slice_cmp nat_cmp) (keys_of (with_mark es k v))
unfolding IsStrictlySortedBy
rises-with_mark [] k v h = (tt, tt)
rises-with_mark (e ∷ es) k v h = by (rises-with_mark es k v h.1) (slice_cmp nat_cmp k e.0) refl
  where
    by : IsStrictlySortedBy (slice_cmp nat_cmp) (keys_of (with_mark es k v)) → (o : Ordering) → slice_cmp nat_cmp k e.0 ≡ o → IsStrictlySortedBy (slice_cmp nat_cmp) (keys_of (match_ordering o ((k, v) ∷ e ∷ es) ((e.0, v) ∷ es) (e ∷ with_mark es k v)))
    by more Less is = ((is, below_all k e.0 (keys_of es) is h.0), h)
    by more Equal is = h
    by more Greater is = (below_more e.0 es k v h.0 (order.antisymm e.0 k ∙ ap ordering_reverse is), more)

all_rise : (es given : Marks) → IsStrictlySortedBy (slice_cmp nat_cmp) (keys_of es)
    → IsStrictlySortedBy (slice_cmp nat_cmp) (keys_of (fold (λ (done : Marks) (p : List ℕ × Bool). with_mark done p.0 p.1) es given))
all_rise es [] h = h
all_rise es (g ∷ given) h = all_rise (with_mark es g.0 g.1) given (rises-with_mark es g.0 g.1 h)

none_rise : IsStrictlySortedBy (slice_cmp nat_cmp) []
unfolding IsStrictlySortedBy
none_rise = tt

pub marks_rise : (given : Marks) → IsStrictlySortedBy (slice_cmp nat_cmp) (keys_of (marks_of given))
marks_rise given = all_rise [] given none_rise
