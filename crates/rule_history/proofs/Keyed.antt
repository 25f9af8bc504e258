-- Entries under keys, put in order one by one; so are the entities of a snapshot.
use Rattle.std.specs.Prelude.{◌≡◌, ℕ, List, [], ◌∷◌, ◌++◌, map, refl}
use Rattle.std.proofs.Common.{◌∙◌, ap}
use Rattle.std.specs.Ordering.{ordering_reverse, match_ordering}
use Rattle.std.specs.declared.cmp.Ordering.TheVariants as order
use Rattle.std.specs.BTreeMap.{insert_entry}
use Rattle.feed_values.specs.Snapshot.{entity_payloads}
use Rattle.rule_table.specs.declared.key.EntityKey.{EntityKey}
use Rattle.rule_table.specs.Order.{key_cmp}
use Rattle.rule_table.specs.Groups.{Each}
use Rattle.rule_table.specs.GroupLaws.{each_weaken}
use Rattle.rule_table.specs.Rises.{Rising}
use Rattle.rule_table.proofs.SameKeys.{keys_total}
use Rattle.rule_history.specs.History.{keyed_after, ordered_after, entities_in}

-- what holds of all keys holds of them where one more comes in
pub each_insert : {A : Type 0} (P : EntityKey → Type 0) (es : List (EntityKey × A)) (k : EntityKey) (v : A) → P k → Each (λ e. P e.0) es → Each (λ e. P e.0) (insert_entry key_cmp es k v)
each_insert P [] k v p h = (p, tt)
each_insert P (e ∷ es) k v p h =
    elim (key_cmp k e.0) as (λ o. Each (λ e. P e.0) (match_ordering o ((k, v) ∷ e ∷ es) ((e.0, v) ∷ es) (e ∷ insert_entry key_cmp es k v))) [
      | order.Less ↦ (p, h)
      | order.Equal ↦ (h.0, h.1)
      | order.Greater ↦ (h.0, each_insert P es k v p h.1)
    ]

-- and so of all values
pub each_put : {A : Type 0} (P : A → Type 0) (es : List (EntityKey × A)) (k : EntityKey) (v : A) → P v → Each (λ e. P e.1) es → Each (λ e. P e.1) (insert_entry key_cmp es k v)
each_put P [] k v p h = (p, tt)
each_put P (e ∷ es) k v p h =
    elim (key_cmp k e.0) as (λ o. Each (λ e. P e.1) (match_ordering o ((k, v) ∷ e ∷ es) ((e.0, v) ∷ es) (e ∷ insert_entry key_cmp es k v))) [
      | order.Less ↦ (p, h)
      | order.Equal ↦ (p, h.1)
      | order.Greater ↦ (h.0, each_put P es k v p h.1)
    ]

-- values mapped go in as they are mapped
pub insert-mapped : {A B : Type 0} (f : A → B) (es : List (EntityKey × A)) (k : EntityKey) (v : A) → map {B = EntityKey × B} (λ e. (e.0, f e.1)) (insert_entry key_cmp es k v) ≡ insert_entry key_cmp (map (λ e. (e.0, f e.1)) es) k (f v)
insert-mapped f [] k v = refl
insert-mapped {A} {B} f (e ∷ es) k v =
    elim (key_cmp k e.0) as (λ o. map {B = EntityKey × B} (λ d. (d.0, f d.1)) (match_ordering o ((k, v) ∷ e ∷ es) ((e.0, v) ∷ es) (e ∷ insert_entry key_cmp es k v))
    ≡ match_ordering o ((k, f v) ∷ map (λ d. (d.0, f d.1)) (e ∷ es)) ((e.0, f v) ∷ map (λ d. (d.0, f d.1)) es) ((let d : EntityKey × B = (e.0, f e.1) in d) ∷ insert_entry key_cmp (map (λ d. (d.0, f d.1)) es) k (f v))) [
      | order.Less ↦ refl
      | order.Equal ↦ refl
      | order.Greater ↦ ap (λ xs. (let d : EntityKey × B = (e.0, f e.1) in d) ∷ xs) (insert-mapped f es k v)
    ]

pub rising_insert : {A : Type 0} (es : List (EntityKey × A)) (k : EntityKey) (v : A) → Rising es → Rising (insert_entry key_cmp es k v)
rising_insert [] k v h = (tt, tt)
rising_insert (e ∷ es) k v h =
    elim (key_cmp k e.0) as (λ o. key_cmp k e.0 ≡ o → Rising (match_ordering o ((k, v) ∷ e ∷ es) ((e.0, v) ∷ es) (e ∷ insert_entry key_cmp es k v))) [
      | order.Less ↦ λ l. ((l, each_weaken (λ d. key_cmp e.0 d.0 ≡ order.Less) (λ d. key_cmp k d.0 ≡ order.Less) (λ d m. keys_total.trans k e.0 d.0 l m) es h.0), h)
      | order.Equal ↦ λ _. h
      | order.Greater ↦ λ g. (each_insert (λ l. key_cmp e.0 l ≡ order.Less) es k v (keys_total.antisymm e.0 k ∙ ap ordering_reverse g) h.0, rising_insert es k v h.1)
    ] refl

pub rising_after : {A : Type 0} (done es : List (EntityKey × A)) → Rising done → Rising (ordered_after done es)
rising_after done [] h = h
rising_after done (e ∷ es) h = rising_after (insert_entry key_cmp done e.0 e.1) es (rising_insert done e.0 e.1 h)

pub entities_rise : (f : ℕ) (bytes : List ℕ) → Rising (entities_in f bytes)
entities_rise f bytes = rising_after [] (keyed_after f [] (entity_payloads bytes)) tt

-- ---- the keys of a snapshot's entities
pub each_ordered : {A : Type 0} (P : EntityKey → Type 0) (done es : List (EntityKey × A)) → Each (λ e. P e.0) done → Each (λ e. P e.0) es → Each (λ e. P e.0) (ordered_after done es)
each_ordered P done [] d h = d
each_ordered P done (e ∷ es) d h = each_ordered P (insert_entry key_cmp done e.0 e.1) es (each_insert P done e.0 e.1 h.0 d) h.1

pub keyed_feed : (f : ℕ) (done ps : List (List ℕ)) → Each (λ e. e.0.feed ≡ f) (keyed_after f done ps)
keyed_feed f done [] = tt
keyed_feed f done (p ∷ ps) = (refl, keyed_feed f (done ++ p ∷ []) ps)

pub entities_feed : (f : ℕ) (bytes : List ℕ) → Each (λ e. e.0.feed ≡ f) (entities_in f bytes)
entities_feed f bytes = each_ordered (λ k. k.feed ≡ f) [] (keyed_after f [] (entity_payloads bytes)) tt (keyed_feed f [] (entity_payloads bytes))
