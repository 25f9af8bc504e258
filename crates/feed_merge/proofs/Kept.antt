-- The union has the entities of all feeds, each once.
use Rattle.std.proofs.Common.{◌≡◌, ◌≢◌, ℕ, zero, suc, ◌+◌, ◌≤◌, ◌<◌, Bool, true, false, cond, List, [], ◌∷◌, ◌++◌, map, length, filter, slice_get, bytes_eq, refl, ap, sym, ◌∙◌, subst, Some, None, arith, append-nil, length-append}
use Rattle.std.specs.declared.option.Option.{Option}
use Rattle.std.specs.Option.{option_map}
use Rattle.std.specs.List.{AllByRecursion, sum_by}
use Rattle.std.proofs.lemmas.Bool.Decides.{same_from_decides}
use Rattle.std.proofs.lemmas.Slice.Eq.{bytes_eq-Decides}
use Rattle.std.proofs.lemmas.List.{append_cancel_left, length-map}
use Rattle.std.proofs.lemmas.List.Elements.{filter-append}
use Rattle.std.proofs.lemmas.List.Sums.{sum_by-cons}
use Rattle.std.proofs.lemmas.Option.{slice_get-map}
use Rattle.feed_values.specs.Schema.{Value}
use Rattle.feed_values.specs.Messages.{feed_message, entity}
use Rattle.feed_merge.specs.Union.{feed_limit, prefix, prefixed_id, prefixed, entities_in, united_from}
use Rattle.feed_merge.specs.Laws.{with_id, entity_under, ComesFrom, UnionKeepsEntities}
use Rattle.feed_merge.proofs.Ids.{feed_same}

-- ---- found by its id and its occurrence
slice_get_at : (xs : List (Value entity)) (y : Value entity) (ys : List (Value entity)) → slice_get (xs ++ y ∷ ys) (length xs) ≡ Some y
slice_get_at [] y ys = refl
slice_get_at (x ∷ xs) y ys = slice_get_at xs y ys

kept_first : (b : Bool) (e : Value entity) (rest : List (Value entity)) → b ≡ true → cond b (e ∷ rest) rest ≡ e ∷ rest
kept_first true e rest is = refl
kept_first false e rest is = absurd (cc is)

dropped_first : (b : Bool) (e : Value entity) (rest : List (Value entity)) → b ≡ false → cond b (e ∷ rest) rest ≡ rest
dropped_first false e rest is = refl
dropped_first true e rest is = absurd (cc is)

eq_self : (id : List ℕ) → bytes_eq id id ≡ true
eq_self id = (bytes_eq-Decides id id).1 refl

found_under : (before after : List (Value entity)) (e : Value entity) → entity_under e.0 (length (with_id e.0 before)) (before ++ e ∷ after) ≡ Some e
found_under before after e =
    ap (λ xs. slice_get xs (length (with_id e.0 before)))
    (filter-append (λ (x : Value entity). bytes_eq x.0 e.0) before (e ∷ after)
    ∙ ap (λ xs. with_id e.0 before ++ xs) (kept_first (bytes_eq e.0 e.0) e (with_id e.0 after) (eq_self e.0)))
    ∙ slice_get_at (with_id e.0 before) e (with_id e.0 after)

-- ---- the entities of an id
not_equal : (a b : List ℕ) → a ≢ b → bytes_eq a b ≡ false
not_equal a b not = from (bytes_eq a b) (bytes_eq-Decides a b).0
  where
    from : (t : Bool) → (t ≡ true → a ≡ b) → t ≡ false
    from false is = refl
    from true is = absurd (not (is refl))

same_test : (f : ℕ) (a b : List ℕ) → bytes_eq (prefixed_id f a) (prefixed_id f b) ≡ bytes_eq a b
same_test f a b =
    same_from_decides (bytes_eq (prefixed_id f a) (prefixed_id f b)) (bytes_eq a b)
    ((λ e. append_cancel_left (prefix f) a b ((bytes_eq-Decides (prefixed_id f a) (prefixed_id f b)).0 e)), (λ e. (bytes_eq-Decides (prefixed_id f a) (prefixed_id f b)).1 (ap (prefixed_id f) e)))
    (bytes_eq-Decides a b)

-- of the feed of the id
own : (f : ℕ) (id : List ℕ) (es : List (Value entity)) → with_id (prefixed_id f id) (map (prefixed f) es) ≡ map (prefixed f) (with_id id es)
own f id [] = refl
own f id (e ∷ es) =
    ap (λ b. cond b (prefixed f e ∷ with_id (prefixed_id f id) (map (prefixed f) es)) (with_id (prefixed_id f id) (map (prefixed f) es))) (same_test f e.0 id)
    ∙ ap (λ xs. cond (bytes_eq e.0 id) (prefixed f e ∷ xs) xs) (own f id es)
    ∙ inside (bytes_eq e.0 id)
  where
    inside : (b : Bool) → cond b (prefixed f e ∷ map (prefixed f) (with_id id es)) (map (prefixed f) (with_id id es)) ≡ map (prefixed f) (cond b (e ∷ with_id id es) (with_id id es))
    inside true = refl
    inside false = refl

-- of another feed
other : (f g : ℕ) (id : List ℕ) (es : List (Value entity)) → f < feed_limit → g < feed_limit → g ≢ f → with_id (prefixed_id f id) (map (prefixed g) es) ≡ []
other f g id [] fits too apart = refl
other f g id (e ∷ es) fits too apart =
    dropped_first (bytes_eq (prefixed_id g e.0) (prefixed_id f id)) (prefixed g e) (with_id (prefixed_id f id) (map (prefixed g) es))
    (not_equal (prefixed_id g e.0) (prefixed_id f id) (λ same. apart (feed_same g f e.0 id too fits same)))
    ∙ other f g id es fits too apart

-- of the feeds behind it
behind : (f g : ℕ) (id : List ℕ) (vs : List (Value feed_message)) → f < g → g + length vs ≤ feed_limit → with_id (prefixed_id f id) (united_from g vs) ≡ []
behind f g id [] l few = refl
behind f g id (v ∷ vs) l few =
    filter-append (λ (x : Value entity). bytes_eq x.0 (prefixed_id f id)) (map (prefixed g) (entities_in v)) (united_from (g + 1) vs)
    ∙ ap (λ xs. xs ++ with_id (prefixed_id f id) (united_from (g + 1) vs)) (other f g id (entities_in v) (omega arith) (omega arith) (λ e. omega arith))
    ∙ behind f (g + 1) id vs (omega arith) (omega arith)

of_feed : (n g k : ℕ) (id : List ℕ) (vs : List (Value feed_message)) (v : Value feed_message) → n ≡ g + k → g + length vs ≤ feed_limit → slice_get vs k ≡ Some v →
    with_id (prefixed_id n id) (united_from g vs) ≡ map (prefixed n) (with_id id (entities_in v))
of_feed n g k id [] v is few there = absurd (cc there)
of_feed n g zero id (w ∷ vs) v is few there =
    let here : g ≡ n = omega arith in
    let same : w ≡ v = cc there in
    filter-append (λ (x : Value entity). bytes_eq x.0 (prefixed_id n id)) (map (prefixed g) (entities_in w)) (united_from (g + 1) vs)
    ∙ ap (λ xs. with_id (prefixed_id n id) (map (prefixed g) (entities_in w)) ++ xs) (behind n (g + 1) id vs (omega arith) (omega arith))
    ∙ append-nil (with_id (prefixed_id n id) (map (prefixed g) (entities_in w)))
    ∙ ap (λ m. with_id (prefixed_id n id) (map (prefixed m) (entities_in w))) here
    ∙ own n id (entities_in w)
    ∙ ap (λ (x : Value feed_message). map (prefixed n) (with_id id (entities_in x))) same
of_feed n g (suc k) id (w ∷ vs) v is few there =
    filter-append (λ (x : Value entity). bytes_eq x.0 (prefixed_id n id)) (map (prefixed g) (entities_in w)) (united_from (g + 1) vs)
    ∙ ap (λ xs. xs ++ with_id (prefixed_id n id) (united_from (g + 1) vs)) (other n g id (entities_in w) (within k vs there) (omega arith) (λ e. omega arith))
    ∙ of_feed n (g + 1) k id vs v (omega arith) (omega arith) there
  where
    below : (k : ℕ) (vs : List (Value feed_message)) → slice_get vs k ≡ Some v → k < length vs
    below k [] e = absurd (cc e)
    below zero (x ∷ vs) e = omega arith
    below (suc k) (x ∷ vs) e = let l : k < length vs = below k vs e in omega arith

    within : (k : ℕ) (us : List (Value feed_message)) → slice_get vs k ≡ Some v → n < feed_limit
    within j us e = let l : k < length vs = below k vs there in omega arith

kept : (vs : List (Value feed_message)) (f : ℕ) (v : Value feed_message) → length vs ≤ feed_limit → slice_get vs f ≡ Some v →
    (id : List ℕ) (occurrence : ℕ) → entity_under (prefixed_id f id) occurrence (united_from 0 vs) ≡ option_map (prefixed f) (entity_under id occurrence (entities_in v))
kept vs f v few there id occurrence =
    ap (λ xs. slice_get xs occurrence) (of_feed f 0 f id vs v (omega arith) (omega arith) there) ∙ slice_get-map (prefixed f) (with_id id (entities_in v)) occurrence

-- ---- nothing else
-- an entity of feeds, of which the first has a number
record From (g : ℕ) (vs : List (Value feed_message)) (x : Value entity) : Type 0 where
  at : ℕ
  snapshot : Value feed_message
  e : Value entity
  there : slice_get vs at ≡ Some snapshot
  is : x ≡ prefixed (g + at) e

from_first : (g : ℕ) (v : Value feed_message) (vs : List (Value feed_message)) (es : List (Value entity)) → AllByRecursion (From g (v ∷ vs)) (map (prefixed g) es)
from_first g v vs [] = tt
from_first g v vs (e ∷ es) = (record { at = 0; snapshot = v; e = e; there = refl; is = ap (λ n. prefixed n e) here }, from_first g v vs es)
  where
    here : g ≡ g + 0
    here = omega arith

from_later : (g : ℕ) (v : Value feed_message) (vs : List (Value feed_message)) (xs : List (Value entity)) → AllByRecursion (From (g + 1) vs) xs → AllByRecursion (From g (v ∷ vs)) xs
from_later g v vs [] all = tt
from_later g v vs (x ∷ xs) all =
    (record { at = suc all.0.at; snapshot = all.0.snapshot; e = all.0.e; there = all.0.there; is = all.0.is ∙ ap (λ n. prefixed n all.0.e) (next all.0.at) }, from_later g v vs xs all.1)
  where
    next : (n : ℕ) → (g + 1) + n ≡ g + suc n
    next n = omega arith

both : (P : Value entity → Type 0) (xs ys : List (Value entity)) → AllByRecursion P xs → AllByRecursion P ys → AllByRecursion P (xs ++ ys)
both P [] ys one two = two
both P (x ∷ xs) ys one two = (one.0, both P xs ys one.1 two)

all_from : (g : ℕ) (vs : List (Value feed_message)) → AllByRecursion (From g vs) (united_from g vs)
all_from g [] = tt
all_from g (v ∷ vs) = both (From g (v ∷ vs)) (map (prefixed g) (entities_in v)) (united_from (g + 1) vs) (from_first g v vs (entities_in v)) (from_later g v vs (united_from (g + 1) vs) (all_from (g + 1) vs))

filtered : (P : Value entity → Type 0) (test : Value entity → Bool) (xs : List (Value entity)) → AllByRecursion P xs → AllByRecursion (λ x. P x × (test x ≡ true)) (filter test xs)
filtered P test [] all = tt
filtered P test (x ∷ xs) all = at (test x) refl (filtered P test xs all.1)
  where
    at : (b : Bool) → test x ≡ b → AllByRecursion (λ y. P y × (test y ≡ true)) (filter test xs) →
        AllByRecursion (λ y. P y × (test y ≡ true)) (cond b (x ∷ filter test xs) (filter test xs))
    at true e rest = ((all.0, e), rest)
    at false e rest = rest

at_place : (P : Value entity → Type 0) (xs : List (Value entity)) (k : ℕ) (x : Value entity) → AllByRecursion P xs → slice_get xs k ≡ Some x → P x
at_place P [] k x all e = absurd (cc e)
at_place P (y ∷ xs) zero x all e = let same : y ≡ x = cc e in subst P same all.0
at_place P (y ∷ xs) (suc k) x all e = at_place P xs k x all.1 e

mapped : (f : ℕ) (o : Option (Value entity)) (x : Value entity) → option_map (prefixed f) o ≡ Some x → (e : Value entity) × (o ≡ Some e) × (x ≡ prefixed f e)
mapped f None x e = absurd (cc e)
mapped f (Some y) x e = let same : prefixed f y ≡ x = cc e in (y, refl, sym same)

only : (vs : List (Value feed_message)) → length vs ≤ feed_limit → (id : List ℕ) (occurrence : ℕ) (x : Value entity) → entity_under id occurrence (united_from 0 vs) ≡ Some x → ComesFrom vs id occurrence x
only vs few id occurrence x e =
    let one = at_place (λ y. From 0 vs y × (bytes_eq y.0 id ≡ true)) (with_id id (united_from 0 vs)) occurrence x
    (filtered (From 0 vs) (λ y. bytes_eq y.0 id) (united_from 0 vs) (all_from 0 vs)) e in
    let at = one.0.at in
    let old = one.0.e in
    let id_is : id ≡ prefixed_id at old.0 = sym ((bytes_eq-Decides x.0 id).0 one.1) ∙ ap (λ (y : Value entity). y.0) one.0.is ∙ ap (λ n. prefixed_id n old.0) (none_before at) in
    let under : entity_under (prefixed_id at old.0) occurrence (united_from 0 vs) ≡ Some x = ap (λ i. entity_under i occurrence (united_from 0 vs)) (sym id_is) ∙ e in
    let found = mapped at (entity_under old.0 occurrence (entities_in one.0.snapshot)) x (sym (kept vs at one.0.snapshot few one.0.there old.0 occurrence) ∙ under) in
    record { feed = at; snapshot = one.0.snapshot; old_id = old.0; e = found.0; feed_is = one.0.there; id_is = id_is; entity_is = found.1; same = found.2 }
  where
    none_before : (n : ℕ) → 0 + n ≡ n
    none_before n = omega arith

-- ---- as many
as_many : (g : ℕ) (vs : List (Value feed_message)) → length (united_from g vs) ≡ sum_by (λ v. length (entities_in v)) vs
as_many g [] = refl
as_many g (v ∷ vs) =
    length-append (map (prefixed g) (entities_in v)) (united_from (g + 1) vs)
    ∙ ap (λ n. n + length (united_from (g + 1) vs)) (length-map (entities_in v) (prefixed g))
    ∙ ap (λ n. length (entities_in v) + n) (as_many (g + 1) vs)
    ∙ sym (sum_by-cons (λ (w : Value feed_message). length (entities_in w)) v vs)

pub union_keeps_entities : UnionKeepsEntities
union_keeps_entities = record { found = found_under; kept = kept; only = only; as_many = as_many 0 }
