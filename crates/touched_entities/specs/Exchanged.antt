-- A snapshot in the place of the one before it: each entity keeps the lists under its key.
use Rattle.std.specs.Prelude.{◌≡◌, ℕ, ◌==◌, true, false, List, [], ◌∷◌, map, Some, option_map}
use Rattle.feed_values.specs.Views.{entity_value}
use Rattle.feed_values.specs.Schema.{Value}
use Rattle.feed_values.specs.Messages.{entity}
use Rattle.rule_table.specs.declared.key.EntityKey.{EntityKey}
use Rattle.rule_table.specs.Groups.{Each}
use Rattle.rule_table.specs.Order.{same_key}
use Rattle.rule_history.specs.History.{entities_in}
use Rattle.rule_history.specs.Answered.{payload_under}
use Rattle.entity_parts.specs.part_laws.Touched.{is_among}
use Rattle.entity_index.specs.Held.{HeldEntities, held_at}
use Rattle.entity_index.specs.declared.incoming.Incoming.{Incoming}
use Rattle.touched_entities.specs.Again.{lists_at, lists_under}

-- no key comes twice
abbrev pub AreDistinct : List EntityKey → Type 0
AreDistinct [] = Unit {0}
AreDistinct (k ∷ ks) = Each (λ q. same_key k q ≡ false) ks × AreDistinct ks

-- The keys and entities of what comes in, each with its value.
abbrev pub values_of : List Incoming → List (EntityKey × Value entity)
values_of came = map {B = EntityKey × Value entity} (λ c. (c.key, entity_value c.entity)) came

-- What came in has the lists that were held under its keys; all other lists stay, and the snapshots.
pub record Taken (old new : List HeldEntities) (coming came : List Incoming) : Type 0 where
  pub values_are : values_of came ≡ values_of coming
  pub lists_are : Each (λ c. c.parts ≡ lists_under old c.key) came
  pub others_are : (key : EntityKey) → is_among (map (λ c. c.key) coming) key ≡ false → lists_under new key ≡ lists_under old key
  pub bytes_are : (f : ℕ) → (held_at new f).bytes ≡ (held_at old f).bytes
  pub far_are : (g : ℕ) → ((k : EntityKey) → is_among (map (λ c. c.key) coming) k ≡ true → (k.feed == g) ≡ false) → held_at new g ≡ held_at old g

-- A feed has the snapshot of these bytes, and its entities have the lists that were held under their keys; the other feeds stay.
pub record IsExchanged (f : ℕ) (bytes : List ℕ) (old new : List HeldEntities) : Type 0 where
  pub bytes_are : (held_at new f).bytes ≡ Some bytes
  pub keys_are : map (λ c. c.0) (held_at new f).parts ≡ map (λ e. e.0) (entities_in f bytes)
  pub lists_are : (key : EntityKey) → key.feed ≡ f → lists_at new key ≡ option_map (λ p. lists_under old key) (payload_under key (entities_in f bytes))
  pub others_are : (g : ℕ) → (f == g) ≡ false → held_at new g ≡ held_at old g
