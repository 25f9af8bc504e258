-- Lists taken from under keys, one key more.
use Rattle.std.specs.Prelude.{◌≡◌, ℕ, ◌==◌, ◌||◌, Bool, true, false, List, [], ◌∷◌, ◌++◌, map, Option, Some, None, option_map, unwrap_or, if◌then◌else◌, refl}
use Rattle.std.specs.List.{list_any}
use Rattle.std.proofs.Common.{sym, ap, ◌∙◌, subst, append_assoc}
use Rattle.std.proofs.lemmas.List.{map-append}
use Rattle.std.proofs.lemmas.Bool.{or_left, or_right}
use borrow.Author.Tests.{eqb-true}
use Rattle.feed_values.specs.Schema.{Value}
use Rattle.feed_values.specs.Messages.{entity}
use Rattle.feed_values.specs.Views.{entity_value}
use Rattle.rule_table.specs.declared.key.EntityKey.{EntityKey}
use Rattle.rule_table.specs.Groups.{Each}
use Rattle.rule_table.specs.GroupLaws.{each_append}
use Rattle.rule_table.specs.Order.{same_key}
use Rattle.engine_laws.proofs.Spots.{is_false, key_is, key_self}
use Rattle.entity_parts.specs.part_laws.Touched.{is_among}
use Rattle.entity_index.specs.Changes.{emptied}
use Rattle.entity_index.specs.Held.{HeldEntities, held_at, parts_at}
use Rattle.entity_index.specs.Lists.{Lists, no_lists}
use Rattle.entity_index.specs.declared.incoming.Incoming.{Incoming}
use Rattle.entity_index.proofs.Setting.{at-changed, same_flip}
use Rattle.touched_entities.specs.Again.{lists_at, lists_under}
use Rattle.touched_entities.specs.Exchanged.{AreDistinct, values_of}
use Rattle.touched_entities.proofs.OneMore.{other_feed}

abbrev keys_of : List Incoming → List EntityKey
keys_of came = map (λ c. c.key) came

module _ (key : EntityKey) (old new : List HeldEntities) (here : held_at new key.feed ≡ emptied key (held_at old key.feed)) (others : (g : ℕ) → (key.feed == g) ≡ false → held_at new g ≡ held_at old g) where
  pub bytes_stay : (f : ℕ) → (held_at new f).bytes ≡ (held_at old f).bytes
  bytes_stay f =
      elim (key.feed == f) as (λ b. (key.feed == f) ≡ b → (held_at new f).bytes ≡ (held_at old f).bytes) [
        | true ↦ λ e. subst (λ g. (held_at new g).bytes ≡ (held_at old g).bytes) (eqb-true key.feed f e) (ap (λ (x : HeldEntities). x.bytes) here)
        | false ↦ λ e. ap (λ (x : HeldEntities). x.bytes) (others f e)
      ] refl

  pub lists_stay : (k : EntityKey) → same_key key k ≡ false → lists_under new k ≡ lists_under old k
  lists_stay k n =
      ap (λ o. unwrap_or o no_lists)
      (elim (key.feed == k.feed) as (λ b. (key.feed == k.feed) ≡ b → lists_at new k ≡ lists_at old k) [
        | true ↦ λ e.
            ap (λ (h : HeldEntities). parts_at k h.parts) (subst (λ g. held_at new g ≡ emptied key (held_at old g)) (eqb-true key.feed k.feed e) here)
            ∙ at-changed key (λ l. no_lists) k (held_at old k.feed).parts ∙ ap (λ b. if b then option_map (λ (l : Lists). no_lists) (lists_at old k) else lists_at old k) n
        | false ↦ λ e. ap (λ (h : HeldEntities). parts_at k h.parts) (others k.feed e)
      ] refl)

-- a key that is none of some isn't the same as one of them
pub apart_from : (key k : EntityKey) (ks : List EntityKey) → Each (λ q. same_key key q ≡ false) ks → is_among ks k ≡ true → same_key key k ≡ false
apart_from key k [] all h = cc
apart_from key k (q ∷ ks) all h =
    elim (same_key q k) as (λ b. same_key q k ≡ b → (b || is_among ks k) ≡ true → same_key key k ≡ false) [
      | true ↦ λ e _. sym (ap (same_key key) (key_is q k e)) ∙ all.0
      | false ↦ λ _ m. apart_from key k ks all.1 m
    ] refl h

-- nor as one that isn't among those with it
pub not_it : (key k : EntityKey) (all : List EntityKey) → is_among all key ≡ true → is_among all k ≡ false → same_key key k ≡ false
not_it key k all h m = is_false (same_key key k) (λ e. clash (sym (ap (is_among all) (sym (key_is key k e))) ∙ m))
  where
    clash : is_among all key ≡ false → ⊥
    clash n = cc (n, h)

-- ---- one more
-- with the lists that it has now
pub values_next : (it rest coming came next : List Incoming) (x y : Incoming) → it ≡ x ∷ rest → y.key ≡ x.key → entity_value y.entity ≡ entity_value x.entity → next ≡ came ++ y ∷ [] →
    values_of came ++ values_of it ≡ values_of coming → values_of next ++ values_of rest ≡ values_of coming
values_next it rest coming came next x y step key entity_is put h =
    ap (λ xs. values_of xs ++ values_of rest) put ∙ ap (λ xs. xs ++ values_of rest) (map-append {B = EntityKey × Value entity} (λ (c : Incoming). (c.key, entity_value c.entity)) came (y ∷ []))
    ∙ append_assoc (values_of came) (values_of (y ∷ [])) (values_of rest)
    ∙ ap (λ k. values_of came ++ (let v : EntityKey × Value entity = (k, entity_value y.entity) in v) ∷ values_of rest) key
    ∙ ap (λ e. values_of came ++ (let v : EntityKey × Value entity = (x.key, e) in v) ∷ values_of rest) entity_is
    ∙ sym (ap (λ xs. values_of came ++ values_of xs) step) ∙ h

pub lists_next : (start : List HeldEntities) (came next : List Incoming) (y : Incoming) → next ≡ came ++ y ∷ [] → y.parts ≡ lists_under start y.key →
    Each (λ c. c.parts ≡ lists_under start c.key) came → Each (λ c. c.parts ≡ lists_under start c.key) next
lists_next start came next y put h all = subst (Each (λ c. c.parts ≡ lists_under start c.key)) (sym put) (each_append (λ c. c.parts ≡ lists_under start c.key) came (y ∷ []) all (h, tt))

module _ (it rest : List Incoming) (x : Incoming) (step : it ≡ x ∷ rest) where
  pub distinct_here : AreDistinct (keys_of it) → AreDistinct (keys_of (x ∷ rest))
  distinct_here h = subst (λ xs. AreDistinct (keys_of xs)) step h

  pub among_here : (k : EntityKey) → is_among (keys_of rest) k ≡ true → is_among (keys_of it) k ≡ true
  among_here k h = ap (λ xs. is_among (keys_of xs) k) step ∙ or_right (same_key x.key k) (is_among (keys_of rest) k) h

  pub first_among : is_among (keys_of it) x.key ≡ true
  first_among = ap (λ xs. is_among (keys_of xs) x.key) step ∙ or_left (same_key x.key x.key) (is_among (keys_of rest) x.key) (key_self x.key)
