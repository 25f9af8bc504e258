-- Along the ids in order each key counts those that stand directly before it; that is what it should.
use Rattle.std.specs.Prelude.{◌≡◌, ◌<◌, ◌≤◌, ◌+◌, ◌-◌, drop, get_or, slice_get, ℕ, Bool, true, false, List, [], ◌∷◌, ◌++◌, Option, Some, None, length, map, cond, bytes_eq, refl}
use Rattle.std.specs.Ordering.{nat_cmp, is_lt, is_eq, ordering_then, ordering_reverse}
use Rattle.std.specs.declared.cmp.Ordering.{Ordering}
use Rattle.std.specs.declared.cmp.Ordering.TheVariants as order
use Rattle.std.specs.Cmp.Lexicographic.{slice_cmp, nat_list_cmp_total}
use Rattle.std.proofs.Common.{sym, ap, ◌∙◌, arith, subst}
use Rattle.std.proofs.lemmas.Bool.Decides.{nat_tests}
use Rattle.std.proofs.lemmas.List.{append-nil, append_assoc, drop_all, drop_more, get_or_push, length_push}
use Rattle.std.proofs.lemmas.Option.{slice_get-get_or}
use Rattle.std.proofs.lemmas.Slice.Eq.{bytes_eq-Decides}
use Rattle.std.proofs.lemmas.Map.Text.{is_eq-slice_cmp}
use Rattle.feed_values.specs.Schema.{Value}
use Rattle.feed_values.specs.Messages.{entity}
use Rattle.rule_table.specs.declared.key.EntityKey.{EntityKey}
use Rattle.rule_table.specs.Groups.{Each}
use Rattle.rule_table.specs.Order.{key_cmp}
use Rattle.judging.specs.Seats.{Rising, Seat, count_id, id_of, seated_after}
use Rattle.judging.proofs.Counted.{count_last}
use Rattle.snapshot_keys.specs.declared.placing.EntityPlace.{EntityPlace}
use Rattle.snapshot_keys.specs.declared.placing.NamedEntity.{NamedEntity}
use Rattle.snapshot_keys.specs.Places.{AreWithin, Places, entity_at, placed}
use Rattle.snapshot_keys.specs.ById.{IsNamed, entities_at, key_behind}

-- the place of an entity behind the last one
abbrev pub place_behind : ℕ → Option EntityPlace → NamedEntity → EntityPlace
place_behind f last n = record { key = key_behind f last n.id.now; number = n.number }

-- the places of entities, one behind the other
abbrev pub walk : ℕ → Option EntityPlace → List NamedEntity → Places
walk f last [] = []
walk f last (n ∷ ns) = place_behind f last n ∷ walk f (Some (place_behind f last n)) ns

-- ---- one place more
abbrev pub last : Places → Option EntityPlace
last ps = slice_get ps (length ps - 1)

last_more : (ps : Places) (p : EntityPlace) → last (ps ++ p ∷ []) ≡ Some p
last_more ps p =
    let more = length_push ps p in
    slice_get-get_or (ps ++ p ∷ []) (length (ps ++ p ∷ []) - 1) p (omega (arith, more)) ∙ ap Some (get_or_push ps p p (length (ps ++ p ∷ []) - 1) (omega (arith, more)))

pub walk_next : (f : ℕ) (ps : Places) (ns : List NamedEntity) (i : ℕ) (n : NamedEntity) (before : Option EntityPlace) (key : EntityKey) (all : Places) → i < length ns
    → before ≡ last ps → key ≡ key_behind f before (get_or ns i n).id.now → ps ++ walk f (last ps) (drop i ns) ≡ all
    → (ps ++ record { key = key; number = (get_or ns i n).number } ∷ []) ++ walk f (last (ps ++ record { key = key; number = (get_or ns i n).number } ∷ [])) (drop (i + 1) ns) ≡ all
walk_next f ps ns i n before key all l was is so_far =
    ap (λ o. (ps ++ here key ∷ []) ++ walk f o (drop (i + 1) ns)) (last_more ps (here key)) ∙ append_assoc ps (here key ∷ []) (walk f (Some (here key)) (drop (i + 1) ns))
    ∙ ap (λ k. ps ++ here k ∷ walk f (Some (here k)) (drop (i + 1) ns)) (is ∙ ap (λ o. key_behind f o (get_or ns i n).id.now) was)
    ∙ sym (ap (λ xs. ps ++ walk f (last ps) xs) (drop_more ns i n l)) ∙ so_far
  where
    here : EntityKey → EntityPlace
    here k = record { key = k; number = (get_or ns i n).number }

-- behind the last entity they are all
pub walk_all : (f : ℕ) (ps : Places) (ns : List NamedEntity) (i : ℕ) (all : Places) → length ns ≤ i → ps ++ walk f (last ps) (drop i ns) ≡ all → ps ≡ all
walk_all f ps ns i all l before = sym (append-nil ps) ∙ sym (ap (λ xs. ps ++ walk f (last ps) xs) (drop_all i ns l)) ∙ before

-- ---- ids in order
abbrev below : List ℕ → List ℕ → Bool
below a b = is_lt (slice_cmp nat_cmp a b)

-- none is below another
abbrev pub NoneBelow : List ℕ → List (List ℕ) → Type 0
NoneBelow id ids = Each (λ x. below x id ≡ false) ids

abbrev pub Ascend : List (List ℕ) → Type 0
Ascend [] = Unit {0}
Ascend (id ∷ ids) = NoneBelow id ids × Ascend ids

abbrev pub ids_of : List NamedEntity → List (List ℕ)
ids_of ns = map (λ n. n.id.now) ns

-- neither is below the other
same_id : (a b : List ℕ) → below a b ≡ false → below b a ≡ false → a ≡ b
same_id a b h g = (bytes_eq-Decides a b).0 (sym (is_eq-slice_cmp a b) ∙ either (slice_cmp nat_cmp a b) refl)
  where
    either : (o : Ordering) → slice_cmp nat_cmp a b ≡ o → is_eq o ≡ true
    either order.Less e = let t : below a b ≡ true = ap is_lt e in cc (t, h)
    either order.Equal e = refl
    either order.Greater e = let t : below b a ≡ true = ap is_lt (nat_list_cmp_total.antisymm b a ∙ ap ordering_reverse e) in cc (t, g)

-- ---- the occurrences are counts
-- the key that each would have directly behind the last one counts those that stand before
abbrev pub Counted : ℕ → List (Value entity) → Option EntityPlace → List NamedEntity → Type 0
Counted f done last ns = Each (λ n. (key_behind f last n.id.now).occurrence ≡ count_id done n.id.now) ns

abbrev NoneBefore : Option EntityPlace → List NamedEntity → Type 0
NoneBefore None ns = Unit {0}
NoneBefore (Some last) ns = NoneBelow last.key.id (ids_of ns)

named_id : (f : ℕ) (last : Option EntityPlace) (id : List ℕ) → (key_behind f last id).id ≡ id
named_id f None id = refl
named_id f (Some p) id = refl

named_feed : (f : ℕ) (last : Option EntityPlace) (id : List ℕ) → (key_behind f last id).feed ≡ f
named_feed f None id = refl
named_feed f (Some p) id = refl

key_is : (f : ℕ) (last : Option EntityPlace) (id : List ℕ) (n : ℕ) → (key_behind f last id).occurrence ≡ n → key_behind f last id ≡ record { feed = f; id = id; occurrence = n }
key_is f None id n h = ap (λ x. let k : EntityKey = record { feed = f; id = id; occurrence = x } in k) h
key_is f (Some p) id n h = ap (λ x. let k : EntityKey = record { feed = f; id = id; occurrence = x } in k) h

-- an id behind another one isn't one that stands before that
fresh : (f : ℕ) (last : Option EntityPlace) (id other : List ℕ) → (n : NamedEntity) (ns : List NamedEntity) → n.id.now ≡ id → NoneBefore last (n ∷ ns) → below other id ≡ false → bytes_eq id other ≡ false → (key_behind f last other).occurrence ≡ 0
fresh f None id other n ns is before above apart = refl
fresh f (Some p) id other n ns is before above apart = either (bytes_eq p.key.id other) refl
  where
    either : (b : Bool) → bytes_eq p.key.id other ≡ b → cond b (p.key.occurrence + 1) 0 ≡ 0
    either true h =
        let last_is : p.key.id ≡ other = (bytes_eq-Decides p.key.id other).0 h in
        let one : id ≡ other = same_id id other (ap (below id) (sym last_is) ∙ ap (λ x. below x p.key.id) (sym is) ∙ before.0) above in
        let same : bytes_eq id other ≡ true = (bytes_eq-Decides id other).1 one in
        cc (same, apart)
    either false h = refl

counted_next : (f : ℕ) (done : List (Value entity)) (e : Value entity) (last : Option EntityPlace) (n : NamedEntity) (ns : List NamedEntity) → n.id.now ≡ id_of e → NoneBefore last (n ∷ ns) → NoneBelow n.id.now (ids_of ns)
    → (key_behind f last n.id.now).occurrence ≡ count_id done n.id.now → Counted f done last ns → Counted f (done ++ e ∷ []) (Some (place_behind f last n)) ns
counted_next f done e last n ns named before above here counts = go ns above counts
  where
    id : List ℕ
    id = n.id.now

    one : (m : NamedEntity) → below m.id.now id ≡ false → (key_behind f last m.id.now).occurrence ≡ count_id done m.id.now
        → (key_behind f (Some (place_behind f last n)) m.id.now).occurrence ≡ count_id (done ++ e ∷ []) m.id.now
    one m up count = ap (λ x. cond (bytes_eq x m.id.now) ((key_behind f last id).occurrence + 1) 0) (named_id f last id) ∙ either (bytes_eq id m.id.now) refl ∙ sym (count_last done e m.id.now ∙ ap (λ x. cond (bytes_eq x m.id.now) 1 0 + count_id done m.id.now) (sym named))
      where
        either : (b : Bool) → bytes_eq id m.id.now ≡ b → cond b ((key_behind f last id).occurrence + 1) 0 ≡ cond b 1 0 + count_id done m.id.now
        either true h = let count_is = ap (count_id done) ((bytes_eq-Decides id m.id.now).0 h) in omega (arith, here, count_is)
        either false h = let none = fresh f last id m.id.now n ns refl before up h in omega (arith, none, count)

    go : (ms : List NamedEntity) → NoneBelow id (ids_of ms) → Counted f done last ms → Counted f (done ++ e ∷ []) (Some (place_behind f last n)) ms
    go [] a c = tt
    go (m ∷ ms) a c = (one m a.0 c.0, go ms a.1 c.1)

-- the entities along a walk have the keys that they would have in this order
pub walk_seats : (bytes : List ℕ) (f : ℕ) (done : List (Value entity)) (last : Option EntityPlace) (ns : List NamedEntity) → Each (IsNamed bytes) ns → Ascend (ids_of ns) → NoneBefore last ns → Counted f done last ns
    → placed bytes (walk f last ns) ≡ seated_after f done (entities_at bytes ns)
walk_seats bytes f done last [] named up before counts = refl
walk_seats bytes f done last (n ∷ ns) named up before counts =
    ap (λ k. let s : Seat = (k, e) in s ∷ placed bytes (walk f (Some (place_behind f last n)) ns)) (key_is f last n.id.now (count_id done n.id.now) counts.0)
    ∙ ap (λ id. let s : Seat = (record { feed = f; id = id; occurrence = count_id done id }, e) in s ∷ placed bytes (walk f (Some (place_behind f last n)) ns)) named.0.id
    ∙ ap (λ xs. let s : Seat = (record { feed = f; id = id_of e; occurrence = count_id done (id_of e) }, e) in s ∷ xs)
    (walk_seats bytes f (done ++ e ∷ []) (Some (place_behind f last n)) ns named.1 up.1 (ap_none (named_id f last n.id.now)) (counted_next f done e last n ns named.0.id before up.0 counts.0 counts.1))
  where
    e : Value entity
    e = entity_at bytes n.number

    ap_none : (key_behind f last n.id.now).id ≡ n.id.now → NoneBelow (key_behind f last n.id.now).id (ids_of ns)
    ap_none q = subst (λ id. NoneBelow id (ids_of ns)) (sym q) up.0

pub walk_within : (bytes : List ℕ) (f : ℕ) (last : Option EntityPlace) (ns : List NamedEntity) → Each (IsNamed bytes) ns → AreWithin bytes (walk f last ns)
walk_within bytes f last [] named = tt
walk_within bytes f last (n ∷ ns) named = (named.0.within, walk_within bytes f (Some (place_behind f last n)) ns named.1)

-- ---- entities whose ids are in order have their keys in order
above : (f : ℕ) (e : Value entity) (n : ℕ) (done es : List (Value entity)) → n < count_id done (id_of e) → NoneBelow (id_of e) (map id_of es)
    → Each (λ s. key_cmp (record { feed = f; id = id_of e; occurrence = n }) s.0 ≡ order.Less) (seated_after f done es)
above f e n done [] l h = tt
above f e n done (x ∷ xs) l h = (first, above f e n (done ++ x ∷ []) xs (more (count_last done x (id_of e))) h.1)
  where
    more : count_id (done ++ x ∷ []) (id_of e) ≡ cond (bytes_eq (id_of x) (id_of e)) 1 0 + count_id done (id_of e) → n < count_id (done ++ x ∷ []) (id_of e)
    more q = omega (arith, q, l)

    itself : nat_cmp f f ≡ order.Equal
    itself = grind (arith, nat_tests)

    fewer : (m : ℕ) → n < m → nat_cmp n m ≡ order.Less
    fewer m q = grind (arith, nat_tests)

    either : (o : Ordering) → slice_cmp nat_cmp (id_of e) (id_of x) ≡ o → ordering_then o (nat_cmp n (count_id done (id_of x))) ≡ order.Less
    either order.Less q = refl
    either order.Equal q =
        let same : id_of e ≡ id_of x = (bytes_eq-Decides (id_of e) (id_of x)).0 (sym (is_eq-slice_cmp (id_of e) (id_of x)) ∙ ap is_eq q) in
        fewer (count_id done (id_of x)) (subst (λ id. n < count_id done id) same l)
    either order.Greater q = let t : below (id_of x) (id_of e) ≡ true = ap is_lt (nat_list_cmp_total.antisymm (id_of x) (id_of e) ∙ ap ordering_reverse q) in let n : below (id_of x) (id_of e) ≡ false = h.0 in cc (t, n)

    first : key_cmp (record { feed = f; id = id_of e; occurrence = n }) (record { feed = f; id = id_of x; occurrence = count_id done (id_of x) }) ≡ order.Less
    first = ap (λ o. ordering_then o (ordering_then (slice_cmp nat_cmp (id_of e) (id_of x)) (nat_cmp n (count_id done (id_of x))))) itself ∙ either (slice_cmp nat_cmp (id_of e) (id_of x)) refl

pub seats_rise : (f : ℕ) (done es : List (Value entity)) → Ascend (map id_of es) → Rising (seated_after f done es)
seats_rise f done [] up = tt
seats_rise f done (e ∷ es) up = (above f e (count_id done (id_of e)) (done ++ e ∷ []) es (more (count_last done e (id_of e)) ((bytes_eq-Decides (id_of e) (id_of e)).1 refl)) up.0, seats_rise f (done ++ e ∷ []) es up.1)
  where
    more : count_id (done ++ e ∷ []) (id_of e) ≡ cond (bytes_eq (id_of e) (id_of e)) 1 0 + count_id done (id_of e) → bytes_eq (id_of e) (id_of e) ≡ true → count_id done (id_of e) < count_id (done ++ e ∷ []) (id_of e)
    more q t = let one = ap (λ b. cond b 1 0 + count_id done (id_of e)) t in omega (arith, q, one)
