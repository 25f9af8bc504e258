-- Under the key of what is new or has other bytes is what stands at its place.
use Rattle.std.specs.Prelude.{◌≡◌, ℕ, ◌+◌, ◌-◌, ◌<◌, List, [], length, get_or, take, Some, option_map}
use Rattle.std.proofs.Common.{◌∙◌, ap, arith}
use Rattle.feed_values.specs.Snapshot.{entity_payloads}
use Rattle.rule_table.specs.declared.key.EntityKey.{EntityKey}
use Rattle.entity_index.specs.Held.{at_key, entities_before}
use Rattle.entity_index.specs.Changes.{fresh_keys, keyed_in}
use Rattle.entity_index.specs.Laws.{FreshAreThere}
use Rattle.entity_index.specs.Seats.{key_after}
use Rattle.entity_index.proofs.Placed.{IsPlace, fresh_place, length-fresh-keys, there_at}
use Rattle.entity_index.proofs.Taking.{payload-at, places}

module _ (f : ℕ) (ps : List (List ℕ)) (k : EntityKey) (n : ℕ) (is : IsPlace f [] 0 ps k n) where
  within : n < length ps
  within = let w = is.within in omega (arith, w)

  at_place : at_key k (places f ps) ≡ Some n
  at_place =
      ap (λ x. at_key x (places f ps)) (is.key ∙ ap (λ m. key_after f (take m ps) (get_or ps m [])) (whole n)) ∙ there_at f [] 0 ps n within ∙ ap (λ m. Some m) (right n)
    where
      whole : (m : ℕ) → m - 0 ≡ m
      whole m = omega arith

      right : (m : ℕ) → m + 0 ≡ m
      right m = omega arith

pub fresh_there : FreshAreThere
fresh_there f old new =
    let before = entities_before f old in
    let ps = entity_payloads new in
    record {
      as_many = length-fresh-keys f before 0 (keyed_in f new);
      within = λ j l. within f ps _ _ (fresh_place f before [] 0 ps j no_key l);
      each = λ j k l. payload-at f ps (get_or (fresh_keys f old new) j k) ∙ ap (option_map (λ i. get_or ps i [])) (at_place f ps _ _ (fresh_place f before [] 0 ps j k l));
    }
  where
    no_key : EntityKey
    no_key = record { feed = 0; id = []; occurrence = 0 }
