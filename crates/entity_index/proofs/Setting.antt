-- What is under keys where something is set, put in or taken out under one of them.
use Rattle.std.specs.Prelude.{◌≡◌, ℕ, ◌∷◌, map, Bool, true, false, cond, List, [], Some, None, option_map, if◌then◌else◌, refl}
use Rattle.std.specs.BTreeMap.{is_at}
use Rattle.std.specs.Map.{lookup, set_value}
use Rattle.std.proofs.Common.{◌∙◌, ap, sym}
use Rattle.rule_table.specs.declared.key.EntityKey.{EntityKey}
use Rattle.rule_table.specs.Groups.{Each}
use Rattle.rule_table.specs.Order.{key_cmp, same_key}
use Rattle.rule_table.proofs.SameKeys.{same-key}
use Rattle.engine_laws.proofs.Sorted.{lookup-under}
use Rattle.engine_laws.proofs.Spots.{is_false, key_is, key_self, key_other}
use Rattle.entity_index.specs.Lists.{Lists}
use Rattle.entity_index.specs.Held.{at_key, KeyedParts}
use Rattle.entity_index.specs.Changes.{changed_under}
use Rattle.entity_index.specs.Seats.{HeldSeat, Seats, places_of, parts_in}
use Rattle.entity_index.proofs.AtKey.{at_first, at_later}

-- two keys are the same either way
pub same_flip : (k l : EntityKey) → same_key k l ≡ same_key l k
same_flip k l = either (same_key k l) refl
  where
    either : (b : Bool) → same_key k l ≡ b → same_key k l ≡ same_key l k
    either true h = h ∙ sym (ap (λ x. same_key l x) (key_is k l h) ∙ key_self l)
    either false h = h ∙ sym (is_false (same_key l k) (λ s. key_other k l h (sym (key_is l k s))))

-- what a map finds by its order is what is under the key
pub found-at : {A : Type 0} (es : List (EntityKey × A)) (k : EntityKey) → lookup (is_at (key_cmp k)) es ≡ at_key k es
found-at es k = lookup-under es k

-- a value that was found and changed is so under its key, and all else is as before
pub changed_at : {A : Type 0} (key : EntityKey) (old new : List (EntityKey × A)) (s w : A) (g : A → A) → lookup (is_at (key_cmp key)) old ≡ Some s → w ≡ g s →
    ((k : EntityKey) → lookup (is_at (key_cmp k)) new ≡ cond (is_at (key_cmp key) k) (Some w) (lookup (is_at (key_cmp k)) old)) →
    (k : EntityKey) → at_key k new ≡ cond (same_key key k) (option_map g (at_key k old)) (at_key k old)
changed_at {A} key old new s w g h is put k =
    sym (found-at new k) ∙ put k ∙ ap (λ b. cond b (Some w) (lookup (is_at (key_cmp k)) old)) (same-key key k) ∙ ap (cond (same_key key k) (Some w)) (found-at old k) ∙ either (same_key key k) refl
  where
    either : (b : Bool) → same_key key k ≡ b → cond b (Some w) (at_key k old) ≡ cond b (option_map g (at_key k old)) (at_key k old)
    either true e = ap (λ x. Some x) is ∙ sym (ap (option_map g) (ap (λ x. at_key x old) (sym (key_is key k e)) ∙ sym (found-at old key) ∙ h))
    either false e = refl

-- where nothing was found, nothing changes
pub none_changed : {A : Type 0} (key : EntityKey) (old new : List (EntityKey × A)) (g : A → A) → lookup (is_at (key_cmp key)) old ≡ None → new ≡ old →
    (k : EntityKey) → at_key k new ≡ cond (same_key key k) (option_map g (at_key k old)) (at_key k old)
none_changed {A} key old new g h same k = ap (at_key k) same ∙ either (same_key key k) refl
  where
    either : (b : Bool) → same_key key k ≡ b → at_key k old ≡ cond b (option_map g (at_key k old)) (at_key k old)
    either true e = let n = ap (λ x. at_key x old) (sym (key_is key k e)) ∙ sym (found-at old key) ∙ h in n ∙ sym (ap (option_map g) n)
    either false e = refl

-- a value that was put in is under its key, and all else is as before
pub put_at : {A : Type 0} (key : EntityKey) (old new : List (EntityKey × A)) (w : A) →
    ((k : EntityKey) → lookup (is_at (key_cmp k)) new ≡ cond (is_at (key_cmp key) k) (Some w) (lookup (is_at (key_cmp k)) old)) →
    (k : EntityKey) → at_key k new ≡ cond (same_key key k) (Some w) (at_key k old)
put_at key old new w put k = sym (found-at new k) ∙ put k ∙ ap (λ b. cond b (Some w) (lookup (is_at (key_cmp k)) old)) (same-key key k) ∙ ap (cond (same_key key k) (Some w)) (found-at old k)

-- one that was taken out is gone
pub out_at : {A : Type 0} (key : EntityKey) (old new : List (EntityKey × A)) →
    ((k : EntityKey) → lookup (is_at (key_cmp k)) new ≡ cond (is_at (key_cmp key) k) None (lookup (is_at (key_cmp k)) old)) →
    (k : EntityKey) → at_key k new ≡ cond (same_key key k) None (at_key k old)
out_at key old new put k = sym (found-at new k) ∙ put k ∙ ap (λ b. cond b None (lookup (is_at (key_cmp k)) old)) (same-key key k) ∙ ap (cond (same_key key k) None) (found-at old k)

-- ---- a seat set in its place
module _ (key : EntityKey) (w : HeldSeat) where
  pub set-places : (es : Seats) (s : HeldSeat) → lookup (is_at (key_cmp key)) es ≡ Some s → w.place ≡ s.place → places_of (set_value (is_at (key_cmp key)) es w) ≡ places_of es
  set-places [] s h is = refl
  set-places (e ∷ es) s h is = choose (is_at (key_cmp key) e.0) h (λ q. set-places es s q is)
    where
      choose : (b : Bool) → cond b (Some e.1) (lookup (is_at (key_cmp key)) es) ≡ Some s → (lookup (is_at (key_cmp key)) es ≡ Some s → places_of (set_value (is_at (key_cmp key)) es w) ≡ places_of es) →
          places_of (cond b ((e.0, w) ∷ es) (e ∷ set_value (is_at (key_cmp key)) es w)) ≡ places_of (e ∷ es)
      choose true q later = let same : e.1 ≡ s = cc in ap (λ n. (let d : EntityKey × ℕ = (e.0, n) in d) ∷ places_of es) (is ∙ ap (λ (x : HeldSeat). x.place) (sym same))
      choose false q later = ap (λ xs. (let d : EntityKey × ℕ = (e.0, e.1.place) in d) ∷ xs) (later q)

  pub set_each : (P : HeldSeat → Type 0) (es : Seats) → P w → Each (λ e. P e.1) es → Each (λ e. P e.1) (set_value (is_at (key_cmp key)) es w)
  set_each P [] p h = tt
  set_each P (e ∷ es) p h = elim (is_at (key_cmp key) e.0) as (λ b. Each (λ (x : EntityKey × HeldSeat). P x.1) (cond b ((e.0, w) ∷ es) (e ∷ set_value (is_at (key_cmp key)) es w))) [ true ↦ (p, h.1) | false ↦ (h.0, set_each P es p h.1) ]

  pub set-parts : (change : Lists → Lists) (es : Seats) (s : HeldSeat) → lookup (is_at (key_cmp key)) es ≡ Some s → w.parts ≡ change s.parts →
      parts_in (set_value (is_at (key_cmp key)) es w) ≡ changed_under key change (parts_in es)
  set-parts change [] s h is = refl
  set-parts change (e ∷ es) s h is =
      choose (is_at (key_cmp key) e.0) h (λ q. set-parts change es s q is)
      ∙ ap (λ b. cond b ((e.0, change e.1.parts) ∷ parts_in es) ((e.0, e.1.parts) ∷ changed_under key change (parts_in es))) (same-key key e.0 ∙ same_flip key e.0)
    where
      choose : (b : Bool) → cond b (Some e.1) (lookup (is_at (key_cmp key)) es) ≡ Some s →
          (lookup (is_at (key_cmp key)) es ≡ Some s → parts_in (set_value (is_at (key_cmp key)) es w) ≡ changed_under key change (parts_in es)) →
          parts_in (cond b ((e.0, w) ∷ es) (e ∷ set_value (is_at (key_cmp key)) es w)) ≡ cond b ((let c : EntityKey × Lists = (e.0, change e.1.parts) in c) ∷ parts_in es) ((let c : EntityKey × Lists = (e.0, e.1.parts) in c) ∷ changed_under key change (parts_in es))
      choose true q later = let same : e.1 ≡ s = cc in ap (λ p. (let c : EntityKey × Lists = (e.0, p) in c) ∷ parts_in es) (is ∙ ap (λ (x : HeldSeat). change x.parts) (sym same))
      choose false q later = ap (λ xs. (let c : EntityKey × Lists = (e.0, e.1.parts) in c) ∷ xs) (later q)

-- where nothing is under a key, nothing is set
pub none-parts : (key : EntityKey) (change : Lists → Lists) (es : Seats) → lookup (is_at (key_cmp key)) es ≡ None → parts_in es ≡ changed_under key change (parts_in es)
none-parts key change [] h = refl
none-parts key change (e ∷ es) h =
    choose (is_at (key_cmp key) e.0) h (none-parts key change es)
    ∙ ap (λ b. cond b ((let c : EntityKey × Lists = (e.0, change e.1.parts) in c) ∷ parts_in es) ((let c : EntityKey × Lists = (e.0, e.1.parts) in c) ∷ changed_under key change (parts_in es))) (same-key key e.0 ∙ same_flip key e.0)
  where
    choose : (b : Bool) → cond b (Some e.1) (lookup (is_at (key_cmp key)) es) ≡ None → (lookup (is_at (key_cmp key)) es ≡ None → parts_in es ≡ changed_under key change (parts_in es)) →
        parts_in (e ∷ es) ≡ cond b ((let c : EntityKey × Lists = (e.0, change e.1.parts) in c) ∷ parts_in es) ((let c : EntityKey × Lists = (e.0, e.1.parts) in c) ∷ changed_under key change (parts_in es))
    choose true q later = cc
    choose false q later = ap (λ xs. (let c : EntityKey × Lists = (e.0, e.1.parts) in c) ∷ xs) (later q)

-- what is under a key once one was exchanged
pub at-changed : (key : EntityKey) (change : Lists → Lists) (k : EntityKey) (cs : KeyedParts) → at_key k (changed_under key change cs) ≡ (if same_key key k then option_map change (at_key k cs) else at_key k cs)
at-changed key change k [] = elim (same_key key k) as (λ b. None ≡ (if b then option_map change None else None)) [ true ↦ refl | false ↦ refl ]
at-changed key change k (c ∷ cs) = choose (same_key c.0 key) refl (at-changed key change k cs)
  where
    choose : (b : Bool) → same_key c.0 key ≡ b → at_key k (changed_under key change cs) ≡ (if same_key key k then option_map change (at_key k cs) else at_key k cs) → at_key k (cond b ((c.0, change c.1) ∷ cs) (c ∷ changed_under key change cs)) ≡ (if same_key key k then option_map change (at_key k (c ∷ cs)) else at_key k (c ∷ cs))
    choose true e rest =
        let same : c.0 ≡ key = key_is c.0 key e in
        elim (same_key key k) as (λ b. same_key key k ≡ b → at_key k ((c.0, change c.1) ∷ cs) ≡ (if b then option_map change (at_key k (c ∷ cs)) else at_key k (c ∷ cs))) [
          | true ↦ λ h. let at : same_key c.0 k ≡ true = ap (λ x. same_key x k) same ∙ h in at_first (c.0, change c.1) cs k at ∙ sym (ap (option_map change) (at_first c cs k at))
          | false ↦ λ h. let at : same_key c.0 k ≡ false = ap (λ x. same_key x k) same ∙ h in at_later (c.0, change c.1) cs k at ∙ sym (at_later c cs k at)
        ] refl
    choose false e rest =
        elim (same_key c.0 k) as (λ b. same_key c.0 k ≡ b → at_key k (c ∷ changed_under key change cs) ≡ (if same_key key k then option_map change (at_key k (c ∷ cs)) else at_key k (c ∷ cs))) [
          | true ↦ λ h.
              at_first c (changed_under key change cs) k h ∙ sym (at_first c cs k h)
              ∙ sym (ap (λ b. if b then option_map change (at_key k (c ∷ cs)) else at_key k (c ∷ cs)) (apart h))
          | false ↦ λ h.
              at_later c (changed_under key change cs) k h ∙ rest
              ∙ ap (λ o. if same_key key k then option_map change o else o) (sym (at_later c cs k h))
        ] refl
      where
        apart : same_key c.0 k ≡ true → same_key key k ≡ false
        apart h = sym (ap (same_key key) (key_is c.0 k h)) ∙ same_flip key c.0 ∙ e

-- the keys stay
pub keys-changed : (key : EntityKey) (change : Lists → Lists) (cs : KeyedParts) → map (λ c. c.0) (changed_under key change cs) ≡ map (λ c. c.0) cs
keys-changed key change [] = refl
keys-changed key change (c ∷ cs) =
    elim (same_key c.0 key) as (λ b. map (λ (d : EntityKey × Lists). d.0) (cond b ((c.0, change c.1) ∷ cs) (c ∷ changed_under key change cs)) ≡ c.0 ∷ map (λ d. d.0) cs) [
      | true ↦ refl
      | false ↦ ap (λ ks. c.0 ∷ ks) (keys-changed key change cs)
    ]
