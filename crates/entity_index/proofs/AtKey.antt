-- What lists of entries have under keys.
use Rattle.std.specs.Prelude.{◌≡◌, Bool, true, false, cond, List, [], ◌∷◌, map, filter, length, Some, None, option_map, is_some, refl}
use Rattle.std.specs.List.{find}
use Rattle.std.specs.Option.{option_or}
use Rattle.std.proofs.Common.{◌∙◌, ap, sym, subst, arith}
use Rattle.std.specs.declared.cmp.Ordering.TheVariants as order
use Rattle.std.specs.Ordering.{match_ordering, ordering_reverse}
use Rattle.std.specs.BTreeMap.{insert_entry}
use Rattle.rule_table.specs.declared.key.EntityKey.{EntityKey}
use Rattle.rule_table.specs.Groups.{Each}
use Rattle.rule_table.specs.Rises.{Rising}
use Rattle.rule_table.specs.Order.{key_cmp, same_key}
use Rattle.rule_table.specs.GroupLaws.{each_weaken}
use Rattle.rule_history.specs.History.{ordered_after}
use Rattle.rule_history.proofs.Keyed.{insert-mapped}
use Rattle.engine_laws.specs.HeldFeeds.{AreApart}
use Rattle.engine_laws.proofs.Sorted.{keys_total, key_cmp_self, cmp_equal}
use Rattle.engine_laws.proofs.Spots.{is_false, key_is, key_self, key_other}
use Rattle.entity_index.specs.Held.{at_key}

pub at_first : {A : Type 0} (e : EntityKey × A) (es : List (EntityKey × A)) (k : EntityKey) → same_key e.0 k ≡ true → at_key k (e ∷ es) ≡ Some e.1
at_first {A} e es k h = ap (λ b. option_map (λ (x : EntityKey × A). x.1) (cond b (Some e) (find (λ x. same_key x.0 k) es))) h

pub at_later : {A : Type 0} (e : EntityKey × A) (es : List (EntityKey × A)) (k : EntityKey) → same_key e.0 k ≡ false → at_key k (e ∷ es) ≡ at_key k es
at_later {A} e es k h = ap (λ b. option_map (λ (x : EntityKey × A). x.1) (cond b (Some e) (find (λ x. same_key x.0 k) es))) h

-- nothing is under a key that is none of theirs
pub none_at : {A : Type 0} (es : List (EntityKey × A)) (k : EntityKey) → Each (λ e. same_key e.0 k ≡ false) es → at_key k es ≡ None
none_at [] k h = refl
none_at (e ∷ es) k h = at_later e es k h.0 ∙ none_at es k h.1

-- values mapped, each with its key, are under their keys as they are mapped
pub at-mapped : {A B : Type 0} (g : EntityKey → A → B) (es : List (EntityKey × A)) (k : EntityKey) → at_key k (map {B = EntityKey × B} (λ e. (e.0, g e.0 e.1)) es) ≡ option_map (g k) (at_key k es)
at-mapped g [] k = refl
at-mapped {A} {B} g (e ∷ es) k = either (same_key e.0 k) refl (at-mapped g es k)
  where
    either : (b : Bool) → same_key e.0 k ≡ b → at_key k (map {B = EntityKey × B} (λ d. (d.0, g d.0 d.1)) es) ≡ option_map (g k) (at_key k es) →
        at_key k (map {B = EntityKey × B} (λ d. (d.0, g d.0 d.1)) (e ∷ es)) ≡ option_map (g k) (at_key k (e ∷ es))
    either true h rest = at_first (e.0, g e.0 e.1) (map {B = EntityKey × B} (λ d. (d.0, g d.0 d.1)) es) k h ∙ ap (λ x. Some (g x e.1)) (key_is e.0 k h) ∙ sym (ap (option_map (g k)) (at_first e es k h))
    either false h rest = at_later (e.0, g e.0 e.1) (map {B = EntityKey × B} (λ d. (d.0, g d.0 d.1)) es) k h ∙ rest ∙ sym (ap (option_map (g k)) (at_later e es k h))

-- what holds of all values holds of one that is found
pub each_at : {A : Type 0} (P : A → Type 0) (k : EntityKey) (es : List (EntityKey × A)) (x : A) → Each (λ e. P e.1) es → at_key k es ≡ Some x → P x
each_at P k [] x h q = cc
each_at {A} P k (e ∷ es) x h q = either (same_key e.0 k) refl (each_at P k es x h.1)
  where
    inside : (a b : A) → Some a ≡ Some b → a ≡ b
    inside a b s = cc

    either : (b : Bool) → same_key e.0 k ≡ b → (at_key k es ≡ Some x → P x) → P x
    either true s rest = subst P (inside e.1 x (sym (at_first e es k s) ∙ q)) h.0
    either false s rest = rest (sym (at_later e es k s) ∙ q)

-- a key that is none of theirs isn't one under which something is
pub other_at : {A : Type 0} (k l : EntityKey) (es : List (EntityKey × A)) (x : A) → Each (λ e. same_key k e.0 ≡ false) es → at_key l es ≡ Some x → same_key k l ≡ false
other_at k l [] x h q = cc
other_at {A} k l (e ∷ es) x h q = either (same_key e.0 l) refl (other_at k l es x h.1)
  where
    either : (b : Bool) → same_key e.0 l ≡ b → (at_key l es ≡ Some x → same_key k l ≡ false) → same_key k l ≡ false
    either true m rest = ap (same_key k) (sym (key_is e.0 l m)) ∙ h.0
    either false m rest = rest (sym (at_later e es l m) ∙ q)

-- ---- lists with the same keys
tails : {A : Type 0} (x y : A) (xs ys : List A) → x ∷ xs ≡ y ∷ ys → (x ≡ y) × (xs ≡ ys)
tails x y xs ys h = (cc, cc)

pub keys-some : {A B : Type 0} (es : List (EntityKey × A)) (ds : List (EntityKey × B)) (k : EntityKey) → map (λ e. e.0) es ≡ map (λ e. e.0) ds → is_some (at_key k es) ≡ is_some (at_key k ds)
keys-some [] [] k h = refl
keys-some [] (d ∷ ds) k h = cc
keys-some (e ∷ es) [] k h = cc
keys-some {A} {B} (e ∷ es) (d ∷ ds) k h = let t = tails e.0 d.0 (map (λ x. x.0) es) (map (λ x. x.0) ds) h in either (same_key e.0 k) refl t.0 (keys-some es ds k t.1)
  where
    either : (b : Bool) → same_key e.0 k ≡ b → e.0 ≡ d.0 → is_some (at_key k es) ≡ is_some (at_key k ds) → is_some (at_key k (e ∷ es)) ≡ is_some (at_key k (d ∷ ds))
    either true m is rest = ap is_some (at_first e es k m) ∙ sym (ap is_some (at_first d ds k (ap (λ x. same_key x k) (sym is) ∙ m)))
    either false m is rest = ap is_some (at_later e es k m) ∙ rest ∙ sym (ap is_some (at_later d ds k (ap (λ x. same_key x k) (sym is) ∙ m)))

pub keys-apart : {A B : Type 0} (es : List (EntityKey × A)) (ds : List (EntityKey × B)) → map (λ e. e.0) es ≡ map (λ e. e.0) ds → AreApart es → AreApart ds
keys-apart [] [] h a = tt
keys-apart [] (d ∷ ds) h a = cc
keys-apart (e ∷ es) [] h a = tt
keys-apart {A} {B} (e ∷ es) (d ∷ ds) h a =
    let t = tails e.0 d.0 (map (λ x. x.0) es) (map (λ x. x.0) ds) h in
    (subst (λ k. Each (λ x. same_key k x.0 ≡ false) ds) t.0 (each e.0 es ds t.1 a.0), keys-apart es ds t.1 a.1)
  where
    each : (k : EntityKey) (xs : List (EntityKey × A)) (ys : List (EntityKey × B)) → map (λ x. x.0) xs ≡ map (λ y. y.0) ys → Each (λ x. same_key k x.0 ≡ false) xs → Each (λ y. same_key k y.0 ≡ false) ys
    each k [] [] m p = tt
    each k [] (y ∷ ys) m p = cc
    each k (x ∷ xs) [] m p = tt
    each k (x ∷ xs) (y ∷ ys) m p = let t = tails x.0 y.0 (map (λ z. z.0) xs) (map (λ z. z.0) ys) m in (ap (same_key k) (sym t.0) ∙ p.0, each k xs ys t.1 p.1)

-- ---- entries that pass a test
pub apart-filter : {A : Type 0} (test : EntityKey × A → Bool) (es : List (EntityKey × A)) → AreApart es → AreApart (filter test es)
apart-filter test [] a = tt
apart-filter {A} test (e ∷ es) a = either (test e) (apart-filter test es a.1)
  where
    kept : (xs : List (EntityKey × A)) → Each (λ x. same_key e.0 x.0 ≡ false) xs → Each (λ x. same_key e.0 x.0 ≡ false) (filter test xs)
    kept [] h = tt
    kept (x ∷ xs) h = elim (test x) as (λ b. Each (λ y. same_key e.0 y.0 ≡ false) (cond b (x ∷ filter test xs) (filter test xs))) [ true ↦ (h.0, kept xs h.1) | false ↦ kept xs h.1 ]

    either : (b : Bool) → AreApart (filter test es) → AreApart (cond b (e ∷ filter test es) (filter test es))
    either true h = (kept es a.0, h)
    either false h = h

pub at-filter : {A : Type 0} (test : EntityKey × A → Bool) (es : List (EntityKey × A)) (k : EntityKey) (x : A) → AreApart es → at_key k es ≡ Some x → is_some (at_key k (filter test es)) ≡ test (k, x)
at-filter test [] k x a h = cc
at-filter {A} test (e ∷ es) k x a h = either (same_key e.0 k) refl (test e) refl (at-filter test es k x a.1)
  where
    inside : (y z : A) → Some y ≡ Some z → y ≡ z
    inside y z s = cc

    none : same_key e.0 k ≡ true → at_key k (filter test es) ≡ None
    none m = none_at (filter test es) k (each_weaken (λ d. same_key e.0 d.0 ≡ false) (λ d. same_key d.0 k ≡ false) (λ d n. flip d.0 (ap (λ y. same_key y d.0) (sym (key_is e.0 k m)) ∙ n)) (filter test es) (kept es a.0))
      where
        flip : (l : EntityKey) → same_key k l ≡ false → same_key l k ≡ false
        flip l n = is_false (same_key l k) (λ s. key_other k l n (sym (key_is l k s)))

        kept : (xs : List (EntityKey × A)) → Each (λ y. same_key e.0 y.0 ≡ false) xs → Each (λ y. same_key e.0 y.0 ≡ false) (filter test xs)
        kept [] p = tt
        kept (y ∷ ys) p = elim (test y) as (λ b. Each (λ z. same_key e.0 z.0 ≡ false) (cond b (y ∷ filter test ys) (filter test ys))) [ true ↦ (p.0, kept ys p.1) | false ↦ kept ys p.1 ]

    itself : same_key e.0 k ≡ true → test e ≡ test (k, x)
    itself m = ap (λ l. test (let d : EntityKey × A = (l, e.1) in d)) (key_is e.0 k m) ∙ ap (λ y. test (let d : EntityKey × A = (k, y) in d)) (inside e.1 x (sym (at_first e es k m) ∙ h))

    either : (b : Bool) → same_key e.0 k ≡ b → (c : Bool) → test e ≡ c → (at_key k es ≡ Some x → is_some (at_key k (filter test es)) ≡ test (k, x)) → is_some (at_key k (cond (test e) (e ∷ filter test es) (filter test es))) ≡ test (k, x)
    either true m true t rest = ap (λ d. is_some (at_key k (cond d (e ∷ filter test es) (filter test es)))) t ∙ ap is_some (at_first e (filter test es) k m) ∙ sym t ∙ itself m
    either true m false t rest = ap (λ d. is_some (at_key k (cond d (e ∷ filter test es) (filter test es)))) t ∙ ap is_some (none m) ∙ sym t ∙ itself m
    either false m true t rest = ap (λ d. is_some (at_key k (cond d (e ∷ filter test es) (filter test es)))) t ∙ ap is_some (at_later e (filter test es) k m) ∙ rest (sym (at_later e es k m) ∙ h)
    either false m false t rest = ap (λ d. is_some (at_key k (cond d (e ∷ filter test es) (filter test es)))) t ∙ rest (sym (at_later e es k m) ∙ h)

-- what isn't there doesn't pass
pub gone-filter : {A : Type 0} (test : EntityKey × A → Bool) (es : List (EntityKey × A)) (k : EntityKey) → at_key k es ≡ None → at_key k (filter test es) ≡ None
gone-filter test [] k h = refl
gone-filter {A} test (e ∷ es) k h = either (same_key e.0 k) refl (gone-filter test es k)
  where
    either : (b : Bool) → same_key e.0 k ≡ b → (at_key k es ≡ None → at_key k (filter test es) ≡ None) → at_key k (filter test (e ∷ es)) ≡ None
    either true m rest = let s : Some e.1 ≡ None = sym (at_first e es k m) ∙ h in cc
    either false m rest =
        elim (test e) as (λ c. at_key k (cond c (e ∷ filter test es) (filter test es)) ≡ None) [
          | true ↦ at_later e (filter test es) k m ∙ rest (sym (at_later e es k m) ∙ h)
          | false ↦ rest (sym (at_later e es k m) ∙ h)
        ]

-- ---- entries put in order
pub at-insert : {A : Type 0} (es : List (EntityKey × A)) (k : EntityKey) (v : A) (q : EntityKey) → at_key q (insert_entry key_cmp es k v) ≡ cond (same_key k q) (Some v) (at_key q es)
at-insert [] k v q = either (same_key k q) refl
  where
    either : (b : Bool) → same_key k q ≡ b → at_key q ((k, v) ∷ []) ≡ cond b (Some v) None
    either true h = at_first (k, v) [] q h
    either false h = at_later (k, v) [] q h
at-insert {A} (e ∷ es) k v q =
    elim (key_cmp k e.0) as (λ o. key_cmp k e.0 ≡ o → at_key q (match_ordering o ((k, v) ∷ e ∷ es) ((e.0, v) ∷ es) (e ∷ insert_entry key_cmp es k v)) ≡ cond (same_key k q) (Some v) (at_key q (e ∷ es))) [
      | order.Less ↦ λ _. here (same_key k q) refl
      | order.Equal ↦ λ h. same (cmp_equal k e.0 h) (same_key k q) refl
      | order.Greater ↦ λ h. later h (same_key e.0 q) refl (at-insert es k v q)
    ] refl
  where
    here : (b : Bool) → same_key k q ≡ b → at_key q ((k, v) ∷ e ∷ es) ≡ cond b (Some v) (at_key q (e ∷ es))
    here true h = at_first (k, v) (e ∷ es) q h
    here false h = at_later (k, v) (e ∷ es) q h

    same : k ≡ e.0 → (b : Bool) → same_key k q ≡ b → at_key q ((e.0, v) ∷ es) ≡ cond b (Some v) (at_key q (e ∷ es))
    same is true h = at_first (e.0, v) es q (ap (λ x. same_key x q) (sym is) ∙ h)
    same is false h = at_later (e.0, v) es q (ap (λ x. same_key x q) (sym is) ∙ h) ∙ sym (at_later e es q (ap (λ x. same_key x q) (sym is) ∙ h))

    apart : key_cmp k e.0 ≡ order.Greater → same_key e.0 q ≡ true → same_key k q ≡ false
    apart g m = is_false (same_key k q) (λ n. clash g (ap (key_cmp k) (key_is e.0 q m ∙ sym (key_is k q n)) ∙ key_cmp_self k))
      where
        clash : key_cmp k e.0 ≡ order.Greater → key_cmp k e.0 ≡ order.Equal → ⊥
        clash a b = cc (a, b)

    later : key_cmp k e.0 ≡ order.Greater → (b : Bool) → same_key e.0 q ≡ b → at_key q (insert_entry key_cmp es k v) ≡ cond (same_key k q) (Some v) (at_key q es) →
        at_key q (e ∷ insert_entry key_cmp es k v) ≡ cond (same_key k q) (Some v) (at_key q (e ∷ es))
    later g true m rest = at_first e (insert_entry key_cmp es k v) q m ∙ sym (ap (λ b. cond b (Some v) (at_key q (e ∷ es))) (apart g m) ∙ at_first e es q m)
    later g false m rest = at_later e (insert_entry key_cmp es k v) q m ∙ rest ∙ ap (cond (same_key k q) (Some v)) (sym (at_later e es q m))

pub at-ordered : {A : Type 0} (done es : List (EntityKey × A)) (k : EntityKey) → AreApart es → at_key k (ordered_after done es) ≡ option_or (at_key k es) (at_key k done)
at-ordered done [] k h = refl
at-ordered {A} done (e ∷ es) k h =
    at-ordered (insert_entry key_cmp done e.0 e.1) es k h.1 ∙ ap (option_or (at_key k es)) (at-insert done e.0 e.1 k) ∙ either (same_key e.0 k) refl
  where
    either : (b : Bool) → same_key e.0 k ≡ b → option_or (at_key k es) (cond b (Some e.1) (at_key k done)) ≡ option_or (at_key k (e ∷ es)) (at_key k done)
    either true m =
        ap (λ o. option_or o (Some e.1)) (none_at es k (each_weaken (λ d. same_key e.0 d.0 ≡ false) (λ d. same_key d.0 k ≡ false) (λ d n. flip d.0 (ap (λ x. same_key x d.0) (sym (key_is e.0 k m)) ∙ n)) es h.0))
        ∙ sym (ap (λ o. option_or o (at_key k done)) (at_first e es k m))
      where
        flip : (l : EntityKey) → same_key k l ≡ false → same_key l k ≡ false
        flip l n = is_false (same_key l k) (λ s. key_other k l n (sym (key_is l k s)))
    either false m = ap (λ o. option_or o (at_key k done)) (sym (at_later e es k m))

-- ---- entries in order are told by what is under each key
below_all : {A : Type 0} (k : EntityKey) (es : List (EntityKey × A)) → Each (λ e. key_cmp k e.0 ≡ order.Less) es → at_key k es ≡ None
below_all k es h = none_at es k (each_weaken (λ e. key_cmp k e.0 ≡ order.Less) (λ e. same_key e.0 k ≡ false) (λ e l. is_false (same_key e.0 k) (λ s. clash e.0 l s)) es h)
  where
    clash : (l : EntityKey) → key_cmp k l ≡ order.Less → same_key l k ≡ true → ⊥
    clash l m s = let q : key_cmp k l ≡ order.Equal = ap (key_cmp k) (key_is l k s) ∙ key_cmp_self k in cc (m, q)

pub same_entries : {A : Type 0} (cs ds : List (EntityKey × A)) → Rising cs → Rising ds → ((k : EntityKey) → at_key k cs ≡ at_key k ds) → cs ≡ ds
same_entries [] [] ra rb h = refl
same_entries [] (b ∷ ds) ra rb h = let e = h b.0 ∙ at_first b ds b.0 (key_self b.0) in cc
same_entries (a ∷ cs) [] ra rb h = let e = sym (h a.0) ∙ at_first a cs a.0 (key_self a.0) in cc
same_entries {A} (a ∷ cs) (b ∷ ds) ra rb h =
    elim (key_cmp a.0 b.0) as (λ o. key_cmp a.0 b.0 ≡ o → a ∷ cs ≡ b ∷ ds) [
      | order.Less ↦ λ l. absurd (missing a.0 a cs (b ∷ ds) (h a.0) (key_self a.0) (l, each_weaken (λ d. key_cmp b.0 d.0 ≡ order.Less) (λ d. key_cmp a.0 d.0 ≡ order.Less) (λ d m. keys_total.trans a.0 b.0 d.0 l m) ds rb.0))
      | order.Equal ↦ λ q. first (cmp_equal a.0 b.0 q) (same_entries cs ds ra.1 rb.1)
      | order.Greater ↦ λ g.
          let l : key_cmp b.0 a.0 ≡ order.Less = keys_total.antisymm b.0 a.0 ∙ ap ordering_reverse g in
          absurd (missing b.0 b ds (a ∷ cs) (sym (h b.0)) (key_self b.0) (l, each_weaken (λ d. key_cmp a.0 d.0 ≡ order.Less) (λ d. key_cmp b.0 d.0 ≡ order.Less) (λ d m. keys_total.trans b.0 a.0 d.0 l m) cs ra.0))
    ] refl
  where
    missing : (k : EntityKey) (x : EntityKey × A) (xs ys : List (EntityKey × A)) → at_key k (x ∷ xs) ≡ at_key k ys → same_key x.0 k ≡ true → Each (λ y. key_cmp k y.0 ≡ order.Less) ys → ⊥
    missing k x xs ys e m l = let o : Some x.1 ≡ None = sym (at_first x xs k m) ∙ e ∙ below_all k ys l in cc

    first : a.0 ≡ b.0 → (((k : EntityKey) → at_key k cs ≡ at_key k ds) → cs ≡ ds) → a ∷ cs ≡ b ∷ ds
    first is rest = pair is value (rest others)
      where
        inside : (x y : A) → Some x ≡ Some y → x ≡ y
        inside x y s = cc

        value : a.1 ≡ b.1
        value = inside a.1 b.1 (sym (at_first a cs a.0 (key_self a.0)) ∙ h a.0 ∙ at_first b ds a.0 (ap (λ x. same_key x a.0) (sym is) ∙ key_self a.0))

        pair : a.0 ≡ b.0 → a.1 ≡ b.1 → cs ≡ ds → a ∷ cs ≡ b ∷ ds
        pair i v r = ap (λ k. (let e : EntityKey × A = (k, a.1) in e) ∷ cs) i ∙ ap (λ x. (let e : EntityKey × A = (b.0, x) in e) ∷ cs) v ∙ ap (λ xs. b ∷ xs) r

        others : (k : EntityKey) → at_key k cs ≡ at_key k ds
        others k = either (same_key a.0 k) refl
          where
            either : (c : Bool) → same_key a.0 k ≡ c → at_key k cs ≡ at_key k ds
            either true m =
                ap (λ x. at_key x cs) (sym (key_is a.0 k m)) ∙ below_all a.0 cs ra.0
                ∙ sym (ap (λ x. at_key x ds) (sym (key_is a.0 k m) ∙ is) ∙ below_all b.0 ds rb.0)
            either false m = sym (at_later a cs k m) ∙ h k ∙ at_later b ds k (ap (λ x. same_key x k) (sym is) ∙ m)

-- values mapped stay in order
pub ordered-mapped : {A B : Type 0} (g : A → B) (done es : List (EntityKey × A)) →
    ordered_after (map {B = EntityKey × B} (λ e. (e.0, g e.1)) done) (map {B = EntityKey × B} (λ e. (e.0, g e.1)) es) ≡ map {B = EntityKey × B} (λ e. (e.0, g e.1)) (ordered_after done es)
ordered-mapped g done [] = refl
ordered-mapped {A} {B} g done (e ∷ es) =
    ap (λ xs. ordered_after xs (map {B = EntityKey × B} (λ d. (d.0, g d.1)) es)) (sym (insert-mapped g done e.0 e.1)) ∙ ordered-mapped g (insert_entry key_cmp done e.0 e.1) es

pub rising-mapped : {A B : Type 0} (g : EntityKey → A → B) (es : List (EntityKey × A)) → Rising es → Rising (map {B = EntityKey × B} (λ e. (e.0, g e.0 e.1)) es)
rising-mapped g [] h = tt
rising-mapped {A} {B} g (e ∷ es) h = (each es h.0, rising-mapped g es h.1)
  where
    each : (xs : List (EntityKey × A)) → Each (λ x. key_cmp e.0 x.0 ≡ order.Less) xs → Each (λ x. key_cmp e.0 x.0 ≡ order.Less) (map {B = EntityKey × B} (λ x. (x.0, g x.0 x.1)) xs)
    each [] p = tt
    each (x ∷ xs) p = (p.0, each xs p.1)

-- each is what is found under its key
pub each_found : {A : Type 0} (es : List (EntityKey × A)) → AreApart es → Each (λ e. at_key e.0 es ≡ Some e.1) es
each_found [] h = tt
each_found {A} (e ∷ es) h = (at_first e es e.0 (key_self e.0), later es h.0 (each_found es h.1))
  where
    later : (ds : List (EntityKey × A)) → Each (λ d. same_key e.0 d.0 ≡ false) ds → Each (λ d. at_key d.0 es ≡ Some d.1) ds → Each (λ d. at_key d.0 (e ∷ es) ≡ Some d.1) ds
    later [] p q = tt
    later (d ∷ ds) p q = (at_later e es d.0 p.0 ∙ q.0, later ds p.1 q.1)

-- a list of no length has none
pub none_left : {A : Type 0} (xs : List A) → length xs ≡ 0 → xs ≡ []
none_left [] h = refl
none_left (x ∷ xs) h = absurd (omega (arith, h))
