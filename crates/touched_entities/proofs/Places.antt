-- Feeds' places, and what is told under keys.
use Rattle.std.specs.Prelude.{◌≡◌, ℕ, zero, suc, ◌<◌, ◌≤◌, ◌==◌, Bool, true, false, cond, List, [], ◌∷◌, ◌++◌, length, get_or, Option, Some, None, unwrap_or, if◌then◌else◌, refl}
use Rattle.std.proofs.Common.{sym, ap, ◌∙◌, subst, set}
use Rattle.std.proofs.lemmas.List.{get_or-set_same, get_or-set_other, length-set}
use borrow.Author.Tests.{eqb-true, eqb-false}
use Rattle.rule_table.specs.declared.key.EntityKey.{EntityKey}
use Rattle.std.specs.Map.{set_value}
use Rattle.rule_table.specs.Groups.{Each}
use Rattle.rule_table.specs.Order.{same_key}
use Rattle.engine_laws.proofs.Spots.{key_is}
use Rattle.entity_index.specs.Held.{at_key}
use Rattle.touched_entities.specs.Told.{FeedTold, Told, feed_told, no_told, nothing_told, plus}

pub one_more : (feeds : List FeedTold) (x : FeedTold) (g : ℕ) → x ≡ nothing_told → feed_told (feeds ++ x ∷ []) g ≡ feed_told feeds g
one_more [] x zero h = h
one_more [] x (suc g) h = refl
one_more (f ∷ feeds) x zero h = refl
one_more (f ∷ feeds) x (suc g) h = one_more feeds x g h

-- ---- under keys
module _ (key k : EntityKey) (old new : List (EntityKey × Told)) (add : Told) where
  -- put in behind what was told
  pub put_plus : (was w : Told) → at_key key old ≡ Some was → w ≡ plus was add → at_key k new ≡ cond (same_key key k) (Some w) (at_key k old) →
      at_key k new ≡ (if same_key key k then Some (plus (unwrap_or (at_key k old) no_told) add) else at_key k old)
  put_plus was w at is put =
      put ∙ elim (same_key key k) as (λ b. same_key key k ≡ b → cond b (Some w) (at_key k old) ≡ (if b then Some (plus (unwrap_or (at_key k old) no_told) add) else at_key k old)) [
        | true ↦ λ e. ap Some is ∙ sym (ap (λ q. Some (plus (unwrap_or (at_key q old) no_told) add)) (sym (key_is key k e)) ∙ ap (λ o. Some (plus (unwrap_or o no_told) add)) at)
        | false ↦ λ e. refl
      ] refl

  -- put in where nothing was told
  pub put_none : at_key key old ≡ None → at_key k new ≡ (if same_key key k then Some (plus no_told add) else at_key k old) →
      at_key k new ≡ (if same_key key k then Some (plus (unwrap_or (at_key k old) no_told) add) else at_key k old)
  put_none none put =
      put ∙ elim (same_key key k) as (λ b. same_key key k ≡ b → (if b then Some (plus no_told add) else at_key k old) ≡ (if b then Some (plus (unwrap_or (at_key k old) no_told) add) else at_key k old)) [
        | true ↦ λ e. sym (ap (λ q. Some (plus (unwrap_or (at_key q old) no_told) add)) (sym (key_is key k e)) ∙ ap (λ o. Some (plus (unwrap_or o no_told) add)) none)
        | false ↦ λ e. refl
      ] refl

-- keys stay where a value is set
pub each_set : (P : EntityKey → Type 0) (test : EntityKey → Bool) (w : Told) (es : List (EntityKey × Told)) → Each (λ e. P e.0) es → Each (λ e. P e.0) (set_value test es w)
each_set P test w [] h = tt
each_set P test w (e ∷ es) h = elim (test e.0) as (λ b. Each (λ (x : EntityKey × Told). P x.0) (cond b ((e.0, w) ∷ es) (e ∷ set_value test es w))) [ true ↦ (h.0, h.1) | false ↦ (h.0, each_set P test w es h.1) ]

-- ---- feeds in their places
pub few_set : (feeds : List FeedTold) (f : ℕ) (x : FeedTold) → length feeds ≤ 256 → length (set feeds f x) ≤ 256
few_set feeds f x h = subst (λ n. n ≤ 256) (sym (length-set feeds f x)) h

pub own_set : (feeds : List FeedTold) (f : ℕ) (x : FeedTold) → f < length feeds → ((g : ℕ) → Each (λ e. e.0.feed ≡ g) (feed_told feeds g).entities) → Each (λ e. e.0.feed ≡ f) x.entities →
    (g : ℕ) → Each (λ e. e.0.feed ≡ g) (feed_told (set feeds f x) g).entities
own_set feeds f x l own all g =
    elim (f == g) as (λ b. (f == g) ≡ b → Each (λ e. e.0.feed ≡ g) (feed_told (set feeds f x) g).entities) [
      | true ↦ λ e.
          subst (λ h. Each (λ e. e.0.feed ≡ h) (feed_told (set feeds f x) h).entities) (eqb-true f g e)
          (subst (λ (y : FeedTold). Each (λ e. e.0.feed ≡ f) y.entities) (sym (get_or-set_same feeds f x nothing_told l)) all)
      | false ↦ λ e. subst (λ (y : FeedTold). Each (λ e. e.0.feed ≡ g) y.entities) (sym (get_or-set_other feeds f g x nothing_told (λ q. eqb-false f g e (sym q)))) (own g)
    ] refl
