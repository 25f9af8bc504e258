-- Which entity stands under a key. What is in the order of keys is told by that.
use Rattle.std.specs.Prelude.{◌≡◌, ◌<◌, ◌≤◌, ◌+◌, ℕ, Bool, true, false, List, [], ◌∷◌, ◌++◌, Option, Some, None, filter, cond, bytes_eq, refl}
use Rattle.std.specs.Ordering.{is_eq, match_ordering, ordering_reverse}
use Rattle.std.specs.declared.cmp.Ordering.TheVariants as order
use Rattle.std.specs.BTreeMap.{insert_entry, is_at}
use Rattle.std.specs.Map.{lookup}
use Rattle.std.specs.Option.{option_or}
use Rattle.std.proofs.Common.{sym, ap, ◌∙◌, arith}
use Rattle.std.proofs.lemmas.Slice.Eq.{bytes_eq-Decides}
use Rattle.std.proofs.lemmas.Map.Lookups.{CmpEqualImpliesEq}
use Rattle.std.proofs.lemmas.Option.{same_Some}
use Rattle.feed_values.specs.Schema.{Value}
use Rattle.feed_values.specs.Messages.{entity}
use Rattle.rule_table.specs.declared.key.EntityKey.{EntityKey}
use Rattle.rule_table.specs.Groups.{Each}
use Rattle.rule_table.specs.GroupLaws.{each_weaken}
use Rattle.rule_table.specs.Order.{key_cmp}
use Rattle.rule_table.proofs.SameKeys.{key_is, key_self, keys_total, same-key}
use Rattle.rule_history.specs.History.{ordered_after}
use Rattle.rule_history.proofs.Keyed.{rising_after}
use Rattle.judging.specs.Seats.{Rising, Seat, count_id, id_of, seated_after, seats}
use Rattle.judging.proofs.Counted.{count_last}
use Rattle.snapshot_keys.specs.ById.{has_id}

abbrev pub under : EntityKey → List Seat → Option (Value entity)
under k es = lookup (is_at (key_cmp k)) es

-- ---- keys that compare alike
at_is : (k l : EntityKey) → is_at (key_cmp k) l ≡ true → k ≡ l
at_is k l h = key_is k l (sym (same-key k l) ∙ h)

at_self : (k : EntityKey) → is_at (key_cmp k) k ≡ true
at_self k = same-key k k ∙ key_self k

exact_keys : CmpEqualImpliesEq key_cmp
exact_keys k l h = at_is k l (ap is_eq h)

not_at : (k l : EntityKey) → (k ≡ l → ⊥) → is_at (key_cmp k) l ≡ false
not_at k l n = either (is_at (key_cmp k) l) refl
  where
    either : (b : Bool) → is_at (key_cmp k) l ≡ b → b ≡ false
    either true h = absurd (n (at_is k l h))
    either false h = refl

-- ---- one entity more
under_put : (k l : EntityKey) (v : Value entity) (es : List Seat) → under k (insert_entry key_cmp es l v) ≡ cond (is_at (key_cmp k) l) (Some v) (under k es)
under_put k l v [] = refl
under_put k l v (e ∷ es) =
    elim (key_cmp l e.0) as (λ o. key_cmp l e.0 ≡ o → under k (match_ordering o ((l, v) ∷ e ∷ es) ((e.0, v) ∷ es) (e ∷ insert_entry key_cmp es l v)) ≡ cond (is_at (key_cmp k) l) (Some v) (under k (e ∷ es))) [
      | order.Less ↦ λ _. refl
      | order.Equal ↦ λ h. again (is_at (key_cmp k) e.0) ∙ ap (λ x. cond (is_at (key_cmp k) x) (Some v) (under k (e ∷ es))) (sym (exact_keys l e.0 h))
      | order.Greater ↦ λ h. ap (cond (is_at (key_cmp k) e.0) (Some e.1)) (under_put k l v es) ∙ either h (is_at (key_cmp k) e.0) refl (is_at (key_cmp k) l) refl
    ] refl
  where
    again : (b : Bool) → cond b (Some v) (under k es) ≡ cond b (Some v) (cond b (Some e.1) (under k es))
    again true = refl
    again false = refl

    both : key_cmp l e.0 ≡ order.Greater → k ≡ e.0 → k ≡ l → ⊥
    both g h m = let same : is_at (key_cmp l) e.0 ≡ true = ap (is_at (key_cmp l)) (sym h ∙ m) ∙ at_self l in let other : is_at (key_cmp l) e.0 ≡ false = ap is_eq g in cc (same, other)

    either : key_cmp l e.0 ≡ order.Greater → (a : Bool) → is_at (key_cmp k) e.0 ≡ a → (b : Bool) → is_at (key_cmp k) l ≡ b
        → cond a (Some e.1) (cond b (Some v) (under k es)) ≡ cond b (Some v) (cond a (Some e.1) (under k es))
    either g true h true m = absurd (both g (at_is k e.0 h) (at_is k l m))
    either g true h false m = refl
    either g false h b m = refl

-- ---- entities in the order of a snapshot
count_more : (done : List (Value entity)) (e : Value entity) (id : List ℕ) → count_id done id ≤ count_id (done ++ e ∷ []) id
count_more done e id = let more = count_last done e id in omega (arith, more)

-- an occurrence that was counted before isn't there again
none_later : (f : ℕ) (k : EntityKey) (done es : List (Value entity)) → k.occurrence < count_id done k.id → under k (seated_after f done es) ≡ None
none_later f k done [] l = refl
none_later f k done (e ∷ es) l =
    let more = count_more done e k.id in
    ap (λ b. cond b (Some e) (under k (seated_after f (done ++ e ∷ []) es))) (not_at k _ other) ∙ none_later f k (done ++ e ∷ []) es (omega (arith, l, more))
  where
    other : k ≡ record { feed = f; id = id_of e; occurrence = count_id done (id_of e) } → ⊥
    other h =
        let count : k.occurrence ≡ count_id done k.id = ap (λ (x : EntityKey). x.occurrence) h ∙ ap (count_id done) (sym (ap (λ (x : EntityKey). x.id) h)) in
        absurd (omega (arith, count, l))

-- a key is among the entities with its id
among : (f : ℕ) (k : EntityKey) (done others es : List (Value entity)) → count_id done k.id ≡ count_id others k.id → under k (seated_after f done es) ≡ under k (seated_after f others (filter (has_id k.id) es))
among f k done others [] h = refl
among f k done others (e ∷ es) h = either (has_id k.id e) refl (λ before. among f k (done ++ e ∷ []) before es)
  where
    counted : (b : Bool) → has_id k.id e ≡ b → count_id (done ++ e ∷ []) k.id ≡ cond b 1 0 + count_id others k.id
    counted b m = count_last done e k.id ∙ ap (λ n. cond (has_id k.id e) 1 0 + n) h ∙ ap (λ c. cond c 1 0 + count_id others k.id) m

    either : (b : Bool) → has_id k.id e ≡ b
        → ((before : List (Value entity)) → count_id (done ++ e ∷ []) k.id ≡ count_id before k.id → under k (seated_after f (done ++ e ∷ []) es) ≡ under k (seated_after f before (filter (has_id k.id) es)))
        → under k (seated_after f done (e ∷ es)) ≡ under k (seated_after f others (cond b (e ∷ filter (has_id k.id) es) (filter (has_id k.id) es)))
    either true m rest =
        let same : id_of e ≡ k.id = (bytes_eq-Decides (id_of e) k.id).0 m in
        ap (λ n. cond (is_at (key_cmp k) (record { feed = f; id = id_of e; occurrence = n })) (Some e) (under k (seated_after f (done ++ e ∷ []) es))) (ap (count_id done) same ∙ h ∙ ap (count_id others) (sym same))
        ∙ ap (cond (is_at (key_cmp k) (record { feed = f; id = id_of e; occurrence = count_id others (id_of e) })) (Some e))
        (rest (others ++ e ∷ []) (counted true m ∙ sym (count_last others e k.id ∙ ap (λ c. cond c 1 0 + count_id others k.id) m)))
    either false m rest =
        ap (λ b. cond b (Some e) (under k (seated_after f (done ++ e ∷ []) es))) (not_at k _ other) ∙ rest others (counted false m ∙ plain (count_id others k.id))
      where
        plain : (n : ℕ) → 0 + n ≡ n
        plain n = omega arith

        other : k ≡ record { feed = f; id = id_of e; occurrence = count_id done (id_of e) } → ⊥
        other q = let same : has_id k.id e ≡ true = (bytes_eq-Decides (id_of e) k.id).1 (sym (ap (λ (x : EntityKey). x.id) q)) in cc (same, m)

-- put in the order of keys, each stands where it stood
under_ordered : (f : ℕ) (k : EntityKey) (done es : List (Value entity)) (before : List Seat) → under k (ordered_after before (seated_after f done es)) ≡ option_or (under k (seated_after f done es)) (under k before)
under_ordered f k done [] before = refl
under_ordered f k done (e ∷ es) before =
    under_ordered f k (done ++ e ∷ []) es _ ∙ ap (option_or (under k rest)) (under_put k here e before) ∙ either (is_at (key_cmp k) here) refl
  where
    here : EntityKey
    here = record { feed = f; id = id_of e; occurrence = count_id done (id_of e) }

    rest : List Seat
    rest = seated_after f (done ++ e ∷ []) es

    gone : k ≡ here → under k rest ≡ None
    gone h =
        let more = count_last done e (id_of e) in
        let self = ap (λ b. cond b 1 0 + count_id done (id_of e)) ((bytes_eq-Decides (id_of e) (id_of e)).1 refl) in
        ap (λ l. under l rest) h ∙ none_later f here (done ++ e ∷ []) es (omega (arith, more, self))

    either : (b : Bool) → is_at (key_cmp k) here ≡ b → option_or (under k rest) (cond b (Some e) (under k before)) ≡ option_or (cond b (Some e) (under k rest)) (under k before)
    either true h = ap (λ o. option_or o (Some e)) (gone (at_is k here h))
    either false h = refl

-- ---- what is in the order of keys
none_below : (k : EntityKey) (es : List Seat) → Each (λ e. key_cmp k e.0 ≡ order.Less) es → under k es ≡ None
none_below k [] h = refl
none_below k (e ∷ es) h = ap (λ o. cond (is_eq o) (Some e.1) (under k es)) h.0 ∙ none_below k es h.1

first_under : (e : Seat) (es : List Seat) → under e.0 (e ∷ es) ≡ Some e.1
first_under e es = ap (λ b. cond b (Some e.1) (under e.0 es)) (at_self e.0)

-- one key of theirs is missing among the others
missing : (e : Seat) (es ds : List Seat) → under e.0 (e ∷ es) ≡ under e.0 ds → Each (λ d. key_cmp e.0 d.0 ≡ order.Less) ds → ⊥
missing e es ds h l = let none : Some e.1 ≡ None = sym (first_under e es) ∙ h ∙ none_below e.0 ds l in cc

module _ (c d : Seat) (cs ds : List Seat) (r : Rising (c ∷ cs)) (s : Rising (d ∷ ds)) (h : (k : EntityKey) → under k (c ∷ cs) ≡ under k (d ∷ ds)) (is : c.0 ≡ d.0) where
  same_rest : (k : EntityKey) → under k cs ≡ under k ds
  same_rest k = either (is_at (key_cmp k) c.0) refl
    where
      either : (b : Bool) → is_at (key_cmp k) c.0 ≡ b → under k cs ≡ under k ds
      either true m =
          ap (λ x. under x cs) (at_is k c.0 m) ∙ none_below c.0 cs r.0
          ∙ sym (ap (λ x. under x ds) (at_is k c.0 m ∙ is) ∙ none_below d.0 ds s.0)
      either false m =
          sym (ap (λ b. cond b (Some c.1) (under k cs)) m) ∙ h k ∙ ap (λ b. cond b (Some d.1) (under k ds)) (ap (λ x. is_at (key_cmp k) x) (sym is) ∙ m)

  same_first : cs ≡ ds → c ∷ cs ≡ d ∷ ds
  same_first rest =
      ap (λ k. let e : Seat = (k, c.1) in e ∷ cs) is
      ∙ ap (λ v. let e : Seat = (d.0, v) in e ∷ cs) (same_Some c.1 d.1 (sym (first_under c cs) ∙ h c.0 ∙ ap (λ k. under k (d ∷ ds)) is ∙ first_under d ds))
      ∙ ap (λ xs. d ∷ xs) rest

told : (cs ds : List Seat) → Rising cs → Rising ds → ((k : EntityKey) → under k cs ≡ under k ds) → cs ≡ ds
told [] [] r s h = refl
told [] (d ∷ ds) r s h = let none = h d.0 ∙ first_under d ds in cc
told (c ∷ cs) [] r s h = let none = sym (h c.0) ∙ first_under c cs in cc
told (c ∷ cs) (d ∷ ds) r s h =
    elim (key_cmp c.0 d.0) as (λ o. key_cmp c.0 d.0 ≡ o → c ∷ cs ≡ d ∷ ds) [
      | order.Less ↦ λ l. absurd (missing c cs (d ∷ ds) (h c.0) (l, beyond c d ds l s.0))
      | order.Equal ↦ λ q. let is = exact_keys c.0 d.0 q in same_first c d cs ds r s h is (told cs ds r.1 s.1 (same_rest c d cs ds r s h is))
      | order.Greater ↦ λ g. let l : key_cmp d.0 c.0 ≡ order.Less = keys_total.antisymm d.0 c.0 ∙ ap ordering_reverse g in absurd (missing d ds (c ∷ cs) (sym (h d.0)) (l, beyond d c cs l r.0))
    ] refl
  where
    beyond : (a b : Seat) (es : List Seat) → key_cmp a.0 b.0 ≡ order.Less → Each (λ e. key_cmp b.0 e.0 ≡ order.Less) es → Each (λ e. key_cmp a.0 e.0 ≡ order.Less) es
    beyond a b es l = each_weaken (λ e. key_cmp b.0 e.0 ≡ order.Less) (λ e. key_cmp a.0 e.0 ≡ order.Less) (λ e m. keys_total.trans a.0 b.0 e.0 l m) es

-- where those of each id stand alike, and the keys are in order
pub same_seats : (f : ℕ) (es others : List (Value entity)) → ((id : List ℕ) → filter (has_id id) others ≡ filter (has_id id) es) → Rising (seated_after f [] others) → seated_after f [] others ≡ seats f es
same_seats f es others alike rise =
    told (seated_after f [] others) (seats f es) rise (rising_after [] (seated_after f [] es) tt)
    (λ k. among f k [] [] others refl ∙ ap (λ xs. under k (seated_after f [] xs)) (alike k.id) ∙ sym (among f k [] [] es refl) ∙ sym (under_ordered f k [] es [] ∙ nothing (under k (seated_after f [] es))))
  where
    nothing : (o : Option (Value entity)) → option_or o None ≡ o
    nothing None = refl
    nothing (Some e) = refl
