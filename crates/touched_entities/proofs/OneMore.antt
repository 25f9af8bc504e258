-- One part of some entities judged again, key by key.
use Rattle.std.specs.Prelude.{◌≡◌, ℕ, zero, suc, ◌+◌, ◌*◌, ◌==◌, ◌||◌, ◌<◌, Bool, true, false, List, [], ◌∷◌, map, drop, length, get_or, Option, Some, None, option_map, is_some, unwrap_or, if◌then◌else◌, refl}
use Rattle.std.specs.declared.cmp.Ordering.TheVariants as order
use Rattle.std.proofs.Common.{sym, ap, ◌∙◌, subst, arith, eq-eqb}
use Rattle.std.proofs.lemmas.List.{drop_more}
use Rattle.std.proofs.lemmas.Bool.{or_left, or_right}
use borrow.Author.Tests.{eqb-true}
use Rattle.feed_values.specs.Schema.{Value}
use Rattle.feed_values.specs.Messages.{entity}
use Rattle.feed_values.specs.Snapshot.{entity_of}
use Rattle.rule_table.specs.declared.key.EntityKey.{EntityKey}
use Rattle.rule_table.specs.Found.{Found}
use Rattle.rule_table.specs.Groups.{Each}
use Rattle.rule_table.specs.Order.{key_cmp, same_key}
use Rattle.rule_table.specs.Rises.{Rises}
use Rattle.rule_history.specs.Answered.{payload_under}
use Rattle.rule_history.specs.Standing.{Standing}
use Rattle.engine_laws.specs.Order.{found_cmp}
use Rattle.engine_laws.specs.Standings.{findings_of, renewed}
use Rattle.engine_laws.proofs.Since.{findings-renewed}
use Rattle.engine_laws.proofs.Sorted.{less_other}
use Rattle.engine_laws.proofs.Spots.{is_false, key_is, key_self}
use Rattle.entity_parts.specs.standing_walks.Walked.{IsInOrder}
use Rattle.entity_parts.specs.part_laws.Touched.{is_among}
use Rattle.entity_index.specs.Changes.{with_part}
use Rattle.entity_index.specs.Held.{HeldEntities, entities_before, held_at, parts_at}
use Rattle.entity_index.specs.Lists.{Lists, no_lists, list_of, with_list}
use Rattle.entity_index.proofs.Setting.{at-changed, keys-changed}
use Rattle.touched_entities.specs.Again.{AreSameFeeds, FindPart, found_in, found_under, list_renewed, list_under, lists_at, lists_then, lists_under, payload_at, renewed_under, told_renewed, told_then}
use Rattle.touched_entities.specs.Told.{FeedTold, Told, plus, told_at, told_between}

abbrev Index : Type 0
Index = List HeldEntities

-- the list of a number, once it was set
pub set_is : (part : ℕ) (l : Lists) (xs : List Standing) → list_of (with_list l part xs) part ≡ xs
set_is zero l xs = refl
set_is (suc zero) l xs = refl
set_is (suc (suc zero)) l xs = refl
set_is (suc (suc (suc n))) l xs = refl

-- ---- keys of other feeds
pub other_feed : (k l : EntityKey) → (k.feed == l.feed) ≡ false → same_key k l ≡ false
other_feed k l h = is_false (same_key k l) (λ e. clash (eq-eqb k.feed l.feed (ap (λ x. x.feed) (key_is k l e))))
  where
    clash : (k.feed == l.feed) ≡ true → ⊥
    clash t = cc (h, t)

-- ---- a list set under a key
module _ (part : ℕ) (key : EntityKey) (list : List Standing) (old new : Index)
    (here : held_at new key.feed ≡ with_part key part list (held_at old key.feed)) (others : (g : ℕ) → (key.feed == g) ≡ false → held_at new g ≡ held_at old g) where
  -- what holds of what is held of a feed and isn't changed by setting lists
  at_feed : (P : HeldEntities → HeldEntities → Type 0) → ((e : HeldEntities) → P e (with_part key part list e)) → ((e : HeldEntities) → P e e) → (f : ℕ) → P (held_at old f) (held_at new f)
  at_feed P set same f =
      elim (key.feed == f) as (λ b. (key.feed == f) ≡ b → P (held_at old f) (held_at new f)) [
        | true ↦ λ e. subst (λ g. P (held_at old g) (held_at new g)) (eqb-true key.feed f e) (subst (P (held_at old key.feed)) (sym here) (set (held_at old key.feed)))
        | false ↦ λ e. subst (P (held_at old f)) (sym (others f e)) (same (held_at old f))
      ] refl

  pub set_same : AreSameFeeds old new
  set_same = record {
    bytes_are = at_feed (λ a b. b.bytes ≡ a.bytes) (λ e. refl) (λ e. refl);
    keys_are = at_feed (λ a b. map (λ c. c.0) b.parts ≡ map (λ c. c.0) a.parts) (λ e. keys-changed key (λ l. with_list l part list) e.parts) (λ e. refl);
  }

  pub set_lists : (k : EntityKey) → lists_at new k ≡ (if same_key key k then option_map (λ l. with_list l part list) (lists_at old k) else lists_at old k)
  set_lists k =
      elim (key.feed == k.feed) as (λ b. (key.feed == k.feed) ≡ b → lists_at new k ≡ (if same_key key k then option_map (λ l. with_list l part list) (lists_at old k) else lists_at old k)) [
        | true ↦ λ e.
            let f : key.feed ≡ k.feed = eqb-true key.feed k.feed e in
            ap (λ h. parts_at k h.parts) (subst (λ g. held_at new g ≡ with_part key part list (held_at old g)) f here)
            ∙ at-changed key (λ l. with_list l part list) k (held_at old k.feed).parts
        | false ↦ λ e.
            ap (λ h. parts_at k h.parts) (others k.feed e)
            ∙ sym (ap (λ b. if b then option_map (λ l. with_list l part list) (lists_at old k) else lists_at old k) (other_feed key k e))
      ] refl

-- ---- the same snapshots
pub same_payload : (old new : Index) → AreSameFeeds old new → (k : EntityKey) → payload_at new k ≡ payload_at old k
same_payload old new same k = ap (λ b. payload_under k (entities_before k.feed b)) (same.bytes_are k.feed)

pub same_twice : (a b c : Index) → AreSameFeeds a b → AreSameFeeds b c → AreSameFeeds a c
same_twice a b c h k = record { bytes_are = λ f. k.bytes_are f ∙ h.bytes_are f; keys_are = λ f. k.keys_are f ∙ h.keys_are f }

pub same_self : (a : Index) → AreSameFeeds a a
same_self a = record { bytes_are = λ f. refl; keys_are = λ f. refl }

-- ---- keys of a list in order
pub not_again : (key : EntityKey) (rest : List EntityKey) → Rises key_cmp (key ∷ rest) → is_among rest key ≡ false
not_again key rest h = go rest h.0
  where
    go : (ks : List EntityKey) → Each (λ q. key_cmp key q ≡ order.Less) ks → is_among ks key ≡ false
    go [] m = refl
    go (q ∷ ks) m = ap (λ b. b || is_among ks key) (is_false (same_key q key) (λ e. never (less_other key q m.0) (key_is q key e))) ∙ go ks m.1
      where
        never : same_key key q ≡ false → q ≡ key → ⊥
        never n e = clash (subst (λ x. same_key key x ≡ false) e n)
          where
            clash : same_key key key ≡ false → ⊥
            clash n = cc (n, key_self key)

module _ (part n : ℕ) (find : FindPart) where
  module _ (key : EntityKey) (rest : List EntityKey) (apart : is_among rest key ≡ false) (old new : Index) (same : AreSameFeeds old new)
      (put : (k : EntityKey) → lists_at new k ≡ (if same_key key k then renewed_under part n find old k else lists_at old k)) where
    -- at another key nothing changes
    other_lists : (k : EntityKey) → same_key key k ≡ false → lists_at new k ≡ lists_at old k
    other_lists k e = put k ∙ ap (λ b. if b then renewed_under part n find old k else lists_at old k) e

    other_found : (k : EntityKey) → found_under find new k ≡ found_under find old k
    other_found k = ap (found_in find k) (same_payload old new same k)

    other_list : (k : EntityKey) → same_key key k ≡ false → list_renewed part n find new k ≡ list_renewed part n find old k
    other_list k e = ap (λ l. renewed (list_of (unwrap_or l no_lists) part) n (found_under find new k)) (other_lists k e) ∙ ap (renewed (list_under old k part) n) (other_found k)

    other_renewed : (k : EntityKey) → same_key key k ≡ false → renewed_under part n find new k ≡ renewed_under part n find old k
    other_renewed k e = ap (λ xs. option_map (λ l. with_list l part xs) (lists_at new k)) (other_list k e) ∙ ap (option_map (λ l. with_list l part (list_renewed part n find old k))) (other_lists k e)

    pub lists_step : (k : EntityKey) → lists_then part n find rest new k ≡ lists_then part n find (key ∷ rest) old k
    lists_step k =
        elim (same_key key k) as (λ b. same_key key k ≡ b → lists_then part n find rest new k ≡ (if (b || is_among rest k) then renewed_under part n find old k else lists_at old k)) [
          | true ↦ λ e.
              ap (λ b. if b then renewed_under part n find new k else lists_at new k) (subst (λ x. is_among rest x ≡ false) (key_is key k e) apart)
              ∙ put k ∙ ap (λ b. if b then renewed_under part n find old k else lists_at old k) e
          | false ↦ λ e.
              ap (λ x. if is_among rest k then x else lists_at new k) (other_renewed k e) ∙ ap (λ x. if is_among rest k then renewed_under part n find old k else x) (other_lists k e)
        ] refl

    pub told_step : (before after : List FeedTold) → ((k : EntityKey) → told_at after k ≡ (if same_key key k then plus (told_at before k) (told_renewed part n find old k) else told_at before k)) →
        (k : EntityKey) → told_then part n find rest new after k ≡ told_then part n find (key ∷ rest) old before k
    told_step before after told k =
        elim (same_key key k) as (λ b. same_key key k ≡ b → told_then part n find rest new after k ≡ (if (b || is_among rest k) then plus (told_at before k) (told_renewed part n find old k) else told_at before k)) [
          | true ↦ λ e.
              ap (λ b. if b then plus (told_at after k) (told_renewed part n find new k) else told_at after k) (subst (λ x. is_among rest x ≡ false) (key_is key k e) apart)
              ∙ told k ∙ ap (λ b. if b then plus (told_at before k) (told_renewed part n find old k) else told_at before k) e
          | false ↦ λ e.
              let stays : told_at after k ≡ told_at before k = told k ∙ ap (λ b. if b then plus (told_at before k) (told_renewed part n find old k) else told_at before k) e in
              ap (λ x. if is_among rest k then plus x (told_renewed part n find new k) else x) stays
              ∙ ap (λ x. if is_among rest k then plus (told_at before k) x else told_at before k)
              (ap (λ xs. told_between xs (list_renewed part n find new k)) (ap (λ l. list_of (unwrap_or l no_lists) part) (other_lists k e)) ∙ ap (told_between (list_under old k part)) (other_list k e))
        ] refl

    -- what was in order is so
    pub ordered_step : ((k : EntityKey) (e : Value entity) → Rises found_cmp (find k e)) → ((k : EntityKey) → IsInOrder (list_under old k part)) → (k : EntityKey) → IsInOrder (list_under new k part)
    ordered_step rises before k =
        elim (same_key key k) as (λ b. same_key key k ≡ b → IsInOrder (list_under new k part)) [
          | true ↦ λ e. subst (λ o. IsInOrder (list_of (unwrap_or o no_lists) part)) (sym (put k ∙ ap (λ b. if b then renewed_under part n find old k else lists_at old k) e)) (at (lists_at old k) refl)
          | false ↦ λ e. subst (λ o. IsInOrder (list_of (unwrap_or o no_lists) part)) (sym (other_lists k e)) (before k)
        ] refl
      where
        found : Rises found_cmp (found_under find old k)
        found = go (payload_at old k)
          where
            go : (o : Option (List ℕ)) → Rises found_cmp (found_in find k o)
            go None = tt
            go (Some p) = rises k (entity_of p)

        at : (o : Option Lists) → lists_at old k ≡ o → IsInOrder (list_of (unwrap_or (option_map (λ l. with_list l part (list_renewed part n find old k)) o) no_lists) part)
        at None e = subst (λ x. IsInOrder (list_of (unwrap_or x no_lists) part)) e (before k)
        at (Some l) e =
            subst (λ (xs : List Standing). IsInOrder xs) (sym (set_is part l (list_renewed part n find old k)))
            (subst (λ (fs : List Found). Rises found_cmp fs) (sym (findings-renewed (list_under old k part) n (found_under find old k))) found)

-- ---- one entity judged where it is held
-- the entity under a key tells what is found there
pub found_is : (find : FindPart) (index : List HeldEntities) (key : EntityKey) (value : Value entity) → Some value ≡ option_map entity_of (payload_at index key) → find key value ≡ found_under find index key
found_is find index key value h = go (payload_at index key) h
  where
    go : (o : Option (List ℕ)) → Some value ≡ option_map entity_of o → find key value ≡ found_in find key o
    go None q = cc
    go (Some p) q = let same : value ≡ entity_of p = cc in ap (find key) same

-- what is found there renews the list that was held
pub list_is : (part n : ℕ) (find : FindPart) (index : List HeldEntities) (key : EntityKey) (value : Value entity) (list old : List Standing) →
    Some value ≡ option_map entity_of (payload_at index key) → old ≡ list_under index key part → list ≡ renewed old n (find key value) → list ≡ list_renewed part n find index key
list_is part n find index key value list old there held is =
    is ∙ ap (λ (fs : List Found). renewed old n fs) (found_is find index key value there) ∙ ap (λ (xs : List Standing). renewed xs n (found_under find index key)) held

module _ (part n : ℕ) (find : FindPart) (key : EntityKey) (list : List Standing) (old new : List HeldEntities)
    (here : held_at new key.feed ≡ with_part key part list (held_at old key.feed)) (others : (g : ℕ) → (key.feed == g) ≡ false → held_at new g ≡ held_at old g) (is : list ≡ list_renewed part n find old key) where
  pub renewed_set : (k : EntityKey) → lists_at new k ≡ (if same_key key k then renewed_under part n find old k else lists_at old k)
  renewed_set k =
      set_lists part key list old new here others k ∙
      elim (same_key key k) as (λ b. same_key key k ≡ b → (if b then option_map (λ l. with_list l part list) (lists_at old k) else lists_at old k) ≡ (if b then renewed_under part n find old k else lists_at old k)) [
        | true ↦ λ e. ap (λ xs. option_map (λ l. with_list l part xs) (lists_at old k)) (is ∙ ap (list_renewed part n find old) (key_is key k e))
        | false ↦ λ e. refl
      ] refl

-- what is told there is what was told, with what the list renewed opens and closes
pub told_one : (part n : ℕ) (find : FindPart) (index : List HeldEntities) (key : EntityKey) (value : Value entity) (old : List Standing) →
    Some value ≡ option_map entity_of (payload_at index key) → old ≡ list_under index key part → (before after : List FeedTold) →
    ((k : EntityKey) → told_at after k ≡ (if same_key key k then plus (told_at before k) (told_between old (renewed old n (find key value))) else told_at before k)) →
    (k : EntityKey) → told_at after k ≡ (if same_key key k then plus (told_at before k) (told_renewed part n find index k) else told_at before k)
told_one part n find index key value old there held before after told k =
    told k ∙
    elim (same_key key k) as (λ b. same_key key k ≡ b → (if b then plus (told_at before k) (told_between old (renewed old n (find key value))) else told_at before k) ≡ (if b then plus (told_at before k) (told_renewed part n find index k) else told_at before k)) [
      | true ↦ λ e. ap (plus (told_at before k)) (between ∙ ap (told_renewed part n find index) (key_is key k e))
      | false ↦ λ e. refl
    ] refl
  where
    between : told_between old (renewed old n (find key value)) ≡ told_renewed part n find index key
    between =
        ap (λ (xs : List Standing). told_between xs (renewed old n (find key value))) held
        ∙ ap (told_between (list_under index key part)) (list_is part n find index key value (renewed old n (find key value)) old there held refl)

-- ---- nothing stood there, and nothing does
pub none_in : {A : Type 0} (xs : List A) → (length xs == 0) ≡ true → xs ≡ []
none_in [] h = refl
none_in (x ∷ xs) h = let none : length (x ∷ xs) ≡ 0 = eqb-true (length (x ∷ xs)) 0 h in absurd (omega arith)

-- the list of a number set to what it is
set_self : (part : ℕ) (l : Lists) → with_list l part (list_of l part) ≡ l
set_self zero l = refl
set_self (suc zero) l = refl
set_self (suc (suc zero)) l = refl
set_self (suc (suc (suc n))) l = refl

pub lists_stay : (part n : ℕ) (find : FindPart) (key : EntityKey) (index : List HeldEntities) → list_under index key part ≡ [] → list_renewed part n find index key ≡ [] →
    (k : EntityKey) → lists_at index k ≡ (if same_key key k then renewed_under part n find index k else lists_at index k)
lists_stay part n find key index was is k =
    elim (same_key key k) as (λ b. same_key key k ≡ b → lists_at index k ≡ (if b then renewed_under part n find index k else lists_at index k)) [
      | true ↦ λ e. subst (λ q. lists_at index q ≡ renewed_under part n find index q) (key_is key k e) (here (lists_at index key) refl)
      | false ↦ λ e. refl
    ] refl
  where
    new : Lists → Lists
    new l = with_list l part (list_renewed part n find index key)

    same : (l : Lists) → lists_at index key ≡ Some l → l ≡ new l
    same l h = sym (ap (with_list l part) (is ∙ sym (sym (ap (λ o. list_of (unwrap_or o no_lists) part) h) ∙ was)) ∙ set_self part l)

    here : (o : Option Lists) → lists_at index key ≡ o → lists_at index key ≡ renewed_under part n find index key
    here None h = h ∙ sym (ap (option_map new) h)
    here (Some l) h = h ∙ ap Some (same l h) ∙ sym (ap (option_map new) h)

-- ---- the key at an index of keys in order
module _ (keys : List EntityKey) (i : ℕ) (key : EntityKey) (l : i < length keys) (is : key ≡ get_or keys i key) where
  pub key_first : drop i keys ≡ key ∷ drop (i + 1) keys
  key_first = drop_more keys i key l ∙ ap (λ k. k ∷ drop (i + 1) keys) (sym is)

  pub rest_rises : Rises key_cmp (drop i keys) → Rises key_cmp (key ∷ drop (i + 1) keys)
  rest_rises h = subst (Rises key_cmp) key_first h

pub among_drop : (keys : List EntityKey) (i : ℕ) (key : EntityKey) → i < length keys → key ≡ get_or keys i key → is_among keys key ≡ true
among_drop [] i key l is = absurd (omega (arith, l))
among_drop (k ∷ ks) zero key l is = ap (λ q. same_key q key || is_among ks key) (sym is) ∙ or_left (same_key key key) (is_among ks key) (key_self key)
among_drop (k ∷ ks) (suc i) key l is = or_right (same_key k key) (is_among ks key) (among_drop ks i key (omega (arith, l)) is)
