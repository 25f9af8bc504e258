-- Entries of a hash map, and the finite map that they make by a number or a text that stands for each key.
use Rattle.std.proofs.Common.{◌≡◌, List, [], ◌∷◌, Some, map, cond, Bool, true, Ordering, Less, Equal, Greater, refl, sym, ap, ◌∙◌}
use Rattle.std.specs.Cmp.{IsTotalOrder, eq_by_cmp_equiv}
use Rattle.std.specs.Ordering.{eq_by_cmp, is_eq}
use Rattle.std.specs.Map.{lookup}
use Rattle.std.specs.FinMap.{IsAntisymmetric, find, from_entries, get, get-from_entries, get-insert, insert, same_map}

-- what stands for a key is found by a test on the keys
pub record IsKeyed {K Q : Type 0} (cmp : Q → Q → Ordering) (key : K → Q) (test : Q → K → Bool) : Type 0 where
  pub total : IsTotalOrder cmp
  pub same : IsAntisymmetric cmp
  pub tests : (q : Q) (k : K) → eq_by_cmp cmp q (key k) ≡ test q k

abbrev pub keyed : {K Q V : Type 0} → (K → Q) → List (K × V) → List (Q × V)
keyed key es = map (λ e. (key e.0, e.1)) es

find-keyed : {K Q V : Type 0} (cmp : Q → Q → Ordering) (key : K → Q) (test : Q → K → Bool) → IsKeyed cmp key test → (es : List (K × V)) (q : Q)
    → find cmp q (keyed key es) ≡ lookup (test q) es
find-keyed cmp key test is [] q = refl
find-keyed cmp key test is (e ∷ es) q = rw (is.tests q e.0, find-keyed cmp key test is es q) refl

-- the map has at a key what a scan of the entries finds
pub lookup-keyed : {K Q V : Type 0} (cmp : Q → Q → Ordering) (key : K → Q) (test : Q → K → Bool) → IsKeyed cmp key test → (es : List (K × V)) (q : Q)
    → lookup (test q) es ≡ get {R = cmp} (from_entries (keyed key es)) q
lookup-keyed cmp key test is es q = sym (get-from_entries is.total (keyed key es) q ∙ find-keyed cmp key test is es q)

-- entries that differ from others at one key alone make the map with that key written
pub from_entries-keyed : {K Q V : Type 0} (cmp : Q → Q → Ordering) (key : K → Q) (test : Q → K → Bool) → IsKeyed cmp key test → (old new : List (K × V)) (k : Q) (v : V)
    → ((q : Q) → lookup (test q) new ≡ cond (eq_by_cmp cmp k q) (Some v) (lookup (test q) old))
    → from_entries (keyed key new) ≡ insert {R = cmp} (from_entries (keyed key old)) k v
from_entries-keyed cmp key test is old new k v writes = same_map is.total is.same _ _ (λ q.
    sym (lookup-keyed cmp key test is new q) ∙ writes q
    ∙ ap (cond (eq_by_cmp cmp k q) (Some v)) (lookup-keyed cmp key test is old q)
    ∙ ap (λ b. cond b (Some v) (get {R = cmp} (from_entries (keyed key old)) q)) ((eq_by_cmp_equiv is.total).symm k q)
    ∙ sym (get-insert is.total (from_entries (keyed key old)) k v q))

equal_of : (r : Ordering) → is_eq r ≡ true → r ≡ Equal
equal_of Less h = cc h
equal_of Equal h = refl
equal_of Greater h = cc h

-- keys that compare as equal are one key
pub one_key : {Q : Type 0} (cmp : Q → Q → Ordering) → IsAntisymmetric cmp → (p q : Q) → eq_by_cmp cmp p q ≡ true → p ≡ q
one_key cmp same p q h = same p q (equal_of (cmp p q) h)
