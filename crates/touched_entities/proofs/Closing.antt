-- What closes at entities that are gone, one entity more.
use Rattle.std.specs.Prelude.{◌≡◌, ℕ, ◌||◌, Bool, true, false, List, [], ◌∷◌, if◌then◌else◌, refl}
use Rattle.std.proofs.Common.{sym, ap, ◌∙◌, subst}
use Rattle.rule_table.specs.declared.key.EntityKey.{EntityKey}
use Rattle.rule_table.specs.Order.{same_key}
use Rattle.rule_history.specs.Standing.{Standing}
use Rattle.engine_laws.proofs.Spots.{key_is}
use Rattle.entity_parts.specs.part_laws.Touched.{is_among}
use Rattle.entity_index.specs.Held.{HeldEntities}
use Rattle.touched_entities.specs.Again.{list_under}
use Rattle.touched_entities.specs.Left.{told_left}
use Rattle.touched_entities.specs.Told.{FeedTold, Told, plus, told_at, told_between}

module _ (index : List HeldEntities) (key : EntityKey) (a b c d : List Standing)
    (is_a : a ≡ list_under index key 0) (is_b : b ≡ list_under index key 1) (is_c : c ≡ list_under index key 2) (is_d : d ≡ list_under index key 3)
    (s t u v w : List FeedTold) where
  abbrev Puts : List FeedTold → List FeedTold → List Standing → Type 0
  Puts before after xs = (k : EntityKey) → told_at after k ≡ (if same_key key k then plus (told_at before k) (told_between xs []) else told_at before k)

  -- the four lists of an entity, one after another
  pub left_is : Puts s t a → Puts t u b → Puts u v c → Puts v w d → (k : EntityKey) → told_at w k ≡ (if same_key key k then told_left index k (told_at s k) else told_at s k)
  left_is one two three four k =
      all ∙
      elim (same_key key k) as (λ e. same_key key k ≡ e → (if e then so else told_at s k) ≡ (if e then told_left index k (told_at s k) else told_at s k)) [
        | true ↦ λ e. here (key_is key k e)
        | false ↦ λ e. refl
      ] refl
    where
      so : Told
      so = plus (plus (plus (plus (told_at s k) (told_between a [])) (told_between b [])) (told_between c [])) (told_between d [])

      more : (add x y z p : Told) → y ≡ (if same_key key k then x else p) → z ≡ (if same_key key k then plus y add else y) → z ≡ (if same_key key k then plus x add else p)
      more add x y z p h m = m ∙ ap (λ q. if same_key key k then plus q add else q) h ∙ elim (same_key key k) as (λ t. (if t then plus (if t then x else p) add else (if t then x else p)) ≡ (if t then plus x add else p)) [ true ↦ refl | false ↦ refl ]

      all : told_at w k ≡ (if same_key key k then so else told_at s k)
      all = more (told_between d []) _ (told_at v k) _ (told_at s k) (more (told_between c []) _ (told_at u k) _ (told_at s k) (more (told_between b []) _ (told_at t k) _ (told_at s k) (one k) (two k)) (three k)) (four k)

      here : key ≡ k → so ≡ told_left index k (told_at s k)
      here q =
          ap (λ xs. plus (plus (plus (plus (told_at s k) (told_between xs [])) (told_between b [])) (told_between c [])) (told_between d [])) (is_a ∙ ap (λ l. list_under index l 0) q)
          ∙ ap (λ xs. plus (plus (plus (plus (told_at s k) (told_between (list_under index k 0) [])) (told_between xs [])) (told_between c [])) (told_between d [])) (is_b ∙ ap (λ l. list_under index l 1) q)
          ∙ ap (λ xs. plus (plus (plus (plus (told_at s k) (told_between (list_under index k 0) [])) (told_between (list_under index k 1) [])) (told_between xs [])) (told_between d [])) (is_c ∙ ap (λ l. list_under index l 2) q)
          ∙ ap (λ xs. plus (plus (plus (plus (told_at s k) (told_between (list_under index k 0) [])) (told_between (list_under index k 1) [])) (told_between (list_under index k 2) [])) (told_between xs [])) (is_d ∙ ap (λ l. list_under index l 3) q)

-- ---- entities of keys in order
module _ (index : List HeldEntities) (key : EntityKey) (rest : List EntityKey) (apart : is_among rest key ≡ false) (before after : List FeedTold)
    (told : (k : EntityKey) → told_at after k ≡ (if same_key key k then told_left index k (told_at before k) else told_at before k)) where
  pub left_step : (k : EntityKey) → (if is_among rest k then told_left index k (told_at after k) else told_at after k) ≡ (if is_among (key ∷ rest) k then told_left index k (told_at before k) else told_at before k)
  left_step k =
      elim (same_key key k) as (λ b. same_key key k ≡ b → (if is_among rest k then told_left index k (told_at after k) else told_at after k) ≡ (if (b || is_among rest k) then told_left index k (told_at before k) else told_at before k)) [
        | true ↦ λ e.
            ap (λ b. if b then told_left index k (told_at after k) else told_at after k) (subst (λ x. is_among rest x ≡ false) (key_is key k e) apart)
            ∙ told k ∙ ap (λ b. if b then told_left index k (told_at before k) else told_at before k) e
        | false ↦ λ e.
            ap (λ x. if is_among rest k then told_left index k x else x) (told k ∙ ap (λ b. if b then told_left index k (told_at before k) else told_at before k) e)
      ] refl
