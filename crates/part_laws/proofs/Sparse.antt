-- What is at keys in order, taken at those keys alone at which there is anything.
use Rattle.std.specs.Prelude.{◌≡◌, ◌||◌, true, false, cond, List, [], ◌∷◌, ◌++◌, map, Some, option_map, unwrap_or, refl}
use Rattle.std.specs.List.{flat_map, find}
use Rattle.std.specs.declared.cmp.Ordering.{Ordering}
use Rattle.std.specs.declared.cmp.Ordering.TheVariants as order
use Rattle.std.specs.Ordering.{ordering_reverse}
use Rattle.std.proofs.Common.{sym, ap, ◌∙◌, subst}
use Rattle.rule_table.specs.declared.key.EntityKey.{EntityKey}
use Rattle.rule_table.specs.Order.{key_cmp, same_key}
use Rattle.rule_table.specs.Groups.{Each}
use Rattle.rule_table.specs.GroupLaws.{each_weaken}
use Rattle.rule_table.specs.Rises.{Rises, Rising}
use Rattle.rule_history.specs.Standing.{Standing, opened, closed}
use Rattle.engine_laws.specs.HeldFeeds.{KeyedLists, AreApart, list_under}
use Rattle.engine_laws.specs.Standings.{findings_of}
use Rattle.engine_laws.proofs.Lists.{every}
use Rattle.engine_laws.proofs.Sorted.{keys_total, cmp_equal, less_other, apart_rising}
use Rattle.engine_laws.proofs.Spots.{is_false, key_is, key_self}
use Rattle.part_laws.specs.Touched.{is_among, TouchedOpen, TouchedClose}

-- ---- keys of a list

more_not : (a b : EntityKey) → key_cmp b a ≡ order.Less → same_key a b ≡ false
more_not a b h = is_false (same_key a b) (λ e. clash (less_other b a h) (ap (same_key b) (key_is a b e) ∙ key_self b))
  where
    clash : same_key b a ≡ false → same_key b a ≡ true → ⊥
    clash h k = cc (h, k)

-- a key below all of a list isn't one of it
below_all : (k : EntityKey) (ks : List EntityKey) → Each (λ q. key_cmp k q ≡ order.Less) ks → is_among ks k ≡ false
below_all k [] h = refl
below_all k (q ∷ ks) h = ap (λ b. b || is_among ks k) (more_not q k h.0) ∙ below_all k ks h.1

each_both : {A : Type 0} (P Q R : A → Type 0) → ((x : A) → P x → Q x → R x) → (xs : List A) → Each P xs → Each Q xs → Each R xs
each_both P Q R w [] p q = tt
each_both P Q R w (x ∷ xs) p q = (w x p.0 q.0, each_both P Q R w xs p.1 q.1)

below : (k e : EntityKey) (es : List EntityKey) → key_cmp k e ≡ order.Less → Each (λ q. key_cmp e q ≡ order.Less) es → Each (λ q. key_cmp k q ≡ order.Less) (e ∷ es)
below k e es l h = (l, each_weaken (λ q. key_cmp e q ≡ order.Less) (λ q. key_cmp k q ≡ order.Less) (λ q m. keys_total.trans k e q l m) es h)

module _ {B : Type 0} (F : EntityKey → List B) where
  -- nothing is at a key that isn't one of a list
  abbrev Covers : List EntityKey → EntityKey → Type 0
  Covers ks k = is_among ks k ≡ false → F k ≡ []

  none : (ts : List EntityKey) → Each (Covers []) ts → flat_map F ts ≡ []
  none [] h = refl
  none (t ∷ ts) h = ap (λ xs. xs ++ flat_map F ts) (h.0 refl) ∙ none ts h.1

  -- where a key isn't one of those that come after a first, it isn't one of all
  past : (e : EntityKey) (es ts : List EntityKey) → Each (λ t. key_cmp e t ≡ order.Less) ts → Each (Covers (e ∷ es)) ts → Each (Covers es) ts
  past e es ts far h = each_both (λ t. key_cmp e t ≡ order.Less) (Covers (e ∷ es)) (Covers es) (λ t l c n. c (ap (λ b. b || is_among es t) (less_other e t l) ∙ n)) ts far h

  abbrev Alike : List EntityKey → List EntityKey → Type 0
  Alike es ts = Rises key_cmp es → Rises key_cmp ts → Each (Covers es) ts → Each (Covers ts) es → flat_map F es ≡ flat_map F ts

  one_more : (e : EntityKey) (es : List EntityKey) → ((ts : List EntityKey) → Alike es ts) → (ts : List EntityKey) → Alike (e ∷ es) ts
  one_more e es rest [] re rt ct ce = none (e ∷ es) ce
  one_more e es rest (t ∷ ts) re rt ct ce = choose (key_cmp e t) refl (λ c d. one_more e es rest ts re rt.1 c d)
    where
      choose : (o : Ordering) → key_cmp e t ≡ o → (Each (Covers (e ∷ es)) ts → Each (Covers ts) (e ∷ es) → flat_map F (e ∷ es) ≡ flat_map F ts) → F e ++ flat_map F es ≡ F t ++ flat_map F ts
      choose order.Less l later =
          ap (λ xs. xs ++ flat_map F es) (ce.0 (below_all e (t ∷ ts) (below e t ts l rt.0)))
          ∙ rest (t ∷ ts) re.1 rt (past e es (t ∷ ts) (below e t ts l rt.0) ct) ce.1
      choose order.Equal q later =
          let same : e ≡ t = cmp_equal e t q in
          ap (λ k. F k ++ flat_map F es) same
          ∙ ap (λ xs. F t ++ xs) (rest ts re.1 rt.1 (past e es ts (subst (λ k. Each (λ x. key_cmp k x ≡ order.Less) ts) (sym same) rt.0) ct.1) (past t ts es (subst (λ k. Each (λ x. key_cmp k x ≡ order.Less) es) same re.0) ce.1))
      choose order.Greater g later =
          let m : key_cmp t e ≡ order.Less = keys_total.antisymm t e ∙ ap ordering_reverse g in
          later ct.1 (past t ts (e ∷ es) (below t e es m re.0) ce)
          ∙ sym (ap (λ xs. xs ++ flat_map F ts) (ct.0 (below_all t (e ∷ es) (below t e es m re.0))))

  walk : (es ts : List EntityKey) → Alike es ts
  walk [] ts re rt ct ce = sym (none ts ct)
  walk (e ∷ es) ts re rt ct ce = one_more e es (walk es) ts re rt ct ce

  -- two lists of keys in order, beside each of which there is nothing, have the same
  pub sparse : (es ts : List EntityKey) → Rises key_cmp es → Rises key_cmp ts → ((k : EntityKey) → is_among es k ≡ false → F k ≡ []) → ((k : EntityKey) → is_among ts k ≡ false → F k ≡ []) → flat_map F es ≡ flat_map F ts
  sparse es ts re rt h k = walk es ts re rt (every (Covers es) h ts) (every (Covers ts) k es)

-- ---- lists under keys
abbrev pub keys_of : KeyedLists → List EntityKey
keys_of lists = map (λ c. c.0) lists

pub keys_rise : (lists : KeyedLists) → Rising lists → Rises key_cmp (keys_of lists)
keys_rise [] h = tt
keys_rise (c ∷ cs) h = (over cs h.0, keys_rise cs h.1)
  where
    over : (ds : KeyedLists) → Each (λ d. key_cmp c.0 d.0 ≡ order.Less) ds → Each (λ k. key_cmp c.0 k ≡ order.Less) (keys_of ds)
    over [] k = tt
    over (d ∷ ds) k = (k.0, over ds k.1)

-- nothing is under a key that isn't one of theirs
pub none_under : (lists : KeyedLists) (k : EntityKey) → is_among (keys_of lists) k ≡ false → list_under k lists ≡ []
none_under [] k h = refl
none_under (c ∷ cs) k h =
    elim (same_key c.0 k) as (λ b. (b || is_among (keys_of cs) k) ≡ false → unwrap_or (option_map (λ c. c.1) (cond b (Some c) (find (λ c. same_key c.0 k) cs))) [] ≡ []) [
      | true ↦ λ e. cc
      | false ↦ λ e. none_under cs k e
    ] h

-- what is said of each list and its key is said of its key and what is under it
by_keys : {B : Type 0} (G : EntityKey → List Standing → List B) (lists : KeyedLists) → AreApart lists → flat_map (λ c. G c.0 c.1) lists ≡ flat_map (λ k. G k (list_under k lists)) (keys_of lists)
by_keys {B} G lists apart = go lists (under lists apart)
  where
    first : (c : EntityKey × List Standing) (cs : KeyedLists) → list_under c.0 (c ∷ cs) ≡ c.1
    first c cs = ap (λ b. unwrap_or (option_map (λ (x : EntityKey × List Standing). x.1) (cond b (Some c) (find (λ d. same_key d.0 c.0) cs))) []) (key_self c.0)

    later : (c d : EntityKey × List Standing) (cs : KeyedLists) → same_key c.0 d.0 ≡ false → list_under d.0 cs ≡ d.1 → list_under d.0 (c ∷ cs) ≡ d.1
    later c d cs n h = ap (λ b. unwrap_or (option_map (λ (x : EntityKey × List Standing). x.1) (cond b (Some c) (find (λ x. same_key x.0 d.0) cs))) []) n ∙ h

    under : (lists : KeyedLists) → AreApart lists → Each (λ c. list_under c.0 lists ≡ c.1) lists
    under [] h = tt
    under (c ∷ cs) h = (first c cs, each_both (λ d. same_key c.0 d.0 ≡ false) (λ d. list_under d.0 cs ≡ d.1) (λ d. list_under d.0 (c ∷ cs) ≡ d.1) (λ d n m. later c d cs n m) cs h.0 (under cs h.1))

    go : (some : KeyedLists) → Each (λ c. list_under c.0 lists ≡ c.1) some → flat_map (λ c. G c.0 c.1) some ≡ flat_map (λ k. G k (list_under k lists)) (keys_of some)
    go [] h = refl
    go (c ∷ cs) h = both (ap (G c.0) (sym h.0)) (go cs h.1)
      where
        both : {xs ys us vs : List B} → xs ≡ ys → us ≡ vs → xs ++ us ≡ ys ++ vs
        both p q = cc

pub touched_open : TouchedOpen
touched_open old new rn touched rt none =
    by_keys (λ k xs. opened (findings_of (list_under k old)) xs) new (apart_rising new rn)
    ∙ sparse (λ k. opened (findings_of (list_under k old)) (list_under k new)) (keys_of new) touched (keys_rise new rn) rt
    (λ k h. ap (opened (findings_of (list_under k old))) (none_under new k h)) none

pub touched_close : TouchedClose
touched_close old new ro touched rt none =
    by_keys (λ k xs. closed (findings_of xs) (findings_of (list_under k new))) old (apart_rising old ro)
    ∙ sparse (λ k. closed (findings_of (list_under k old)) (findings_of (list_under k new))) (keys_of old) touched (keys_rise old ro) rt
    (λ k h. ap (λ xs. closed (findings_of xs) (findings_of (list_under k new))) (none_under old k h)) none
