-- What a snapshot of a feed changes among the entities that are held, and what is held then.
use Rattle.std.specs.Prelude.{◌≡◌, ℕ, ◌+◌, Bool, false, not, List, [], ◌∷◌, map, filter, Option, Some, None, option_map, unwrap_or, is_none, bytes_eq, if◌then◌else◌}
use Rattle.std.specs.List.{find}
use Rattle.std.specs.Option.{option_or}
use Rattle.std.specs.Cmp.Lexicographic.{pointwise}
use Rattle.feed_values.specs.Snapshot.{entity_payloads, entity_of}
use Rattle.feed_values.specs.Views.{entity_value}
use Rattle.rule_table.specs.declared.key.EntityKey.{EntityKey}
use Rattle.rule_table.specs.Order.{same_key}
use Rattle.rule_table.specs.Groups.{Each}
use Rattle.rule_history.specs.History.{Keyed, keyed_after, entities_in}
use Rattle.rule_history.specs.Answered.{payload_under}
use Rattle.rule_history.specs.Standing.{Standing}
use Rattle.engine_laws.specs.Delta.{is_other}
use Rattle.entity_index.specs.Lists.{Lists, no_lists, with_list}
use Rattle.entity_index.specs.Held.{KeyedParts, HeldEntities, entities_before, parts_at}
use Rattle.entity_index.specs.declared.incoming.Changes.{Changes}
use Rattle.entity_index.specs.declared.incoming.Incoming.{Incoming}

-- ---- what changed
-- the entities of a snapshot of a feed under their keys, in the snapshot's order
abbrev pub keyed_in : ℕ → List ℕ → List Keyed
keyed_in f bytes = keyed_after f [] (entity_payloads bytes)

-- the places, counted from a number on, of those that aren't under their key among some entities, or have another byte string there
abbrev pub fresh_from : List Keyed → ℕ → List Keyed → List ℕ
fresh_from old i [] = []
fresh_from old i (e ∷ es) = if is_other old e then i ∷ fresh_from old (i + 1) es else fresh_from old (i + 1) es

-- the places of a snapshot's entities that are new or have other bytes, from 0, and their keys
abbrev pub fresh_places : ℕ → Option (List ℕ) → List ℕ → List ℕ
fresh_places f old new = fresh_from (entities_before f old) 0 (keyed_in f new)

abbrev pub fresh_keys : ℕ → Option (List ℕ) → List ℕ → List EntityKey
fresh_keys f old new = map (λ e. e.0) (filter (is_other (entities_before f old)) (keyed_in f new))

-- the keys of those that are there no longer
abbrev pub gone_keys : ℕ → Option (List ℕ) → List ℕ → List EntityKey
gone_keys f old new = map (λ e. e.0) (filter (λ e. is_none (payload_under e.0 (entities_in f new))) (entities_before f old))

-- whether there was a snapshot, and it has other byte strings of entities, or the same in another order
abbrev pub is_reordered : Option (List ℕ) → List ℕ → Bool
is_reordered None new = false
is_reordered (Some old) new = not (pointwise bytes_eq (entity_payloads old) (entity_payloads new))

pub record IsChanges (f : ℕ) (old : Option (List ℕ)) (new : List ℕ) (c : Changes) : Type 0 where
  pub fresh_is : c.fresh ≡ fresh_places f old new
  pub keys_are : c.keys ≡ fresh_keys f old new
  pub gone_is : c.gone ≡ gone_keys f old new
  pub reordered_is : c.reordered ≡ is_reordered old new

-- ---- what is taken in
-- What comes in is there for each entity that is new or has other bytes, in the snapshot's order, and is what its byte string means.
pub record AreIncoming (f : ℕ) (old : Option (List ℕ)) (new : List ℕ) (came : List Incoming) : Type 0 where
  pub keys_are : map (λ c. c.key) came ≡ fresh_keys f old new
  pub values_are : Each (λ c. Some (entity_value c.entity) ≡ option_map entity_of (payload_under c.key (entities_in f new))) came

-- the four lists that came in under a key
abbrev pub parts_come : EntityKey → List Incoming → Option Lists
parts_come key came = option_map (λ c. c.parts) (find (λ c. same_key c.key key) came)

-- those that came in, and else those that were held
abbrev pub parts_then : List Incoming → KeyedParts → EntityKey → Lists
parts_then came old key = unwrap_or (option_or (parts_come key came) (parts_at key old)) no_lists

-- what is held of a feed once a snapshot of it was taken in
abbrev pub replaced : ℕ → List ℕ → List Incoming → HeldEntities → HeldEntities
replaced f bytes came old = record {
  bytes = Some bytes;
  parts = map (λ e. (e.0, parts_then came old.parts e.0)) (entities_in f bytes);
}

-- ---- what is set
-- the four lists under a key exchanged for what a function makes of them
abbrev pub changed_under : EntityKey → (Lists → Lists) → KeyedParts → KeyedParts
changed_under key change [] = []
changed_under key change (c ∷ cs) = if same_key c.0 key then (c.0, change c.1) ∷ cs else c ∷ changed_under key change cs

-- another list in the place of one of the four under a key
abbrev pub set_at : EntityKey → ℕ → List Standing → KeyedParts → KeyedParts
set_at key part xs parts = changed_under key (λ l. with_list l part xs) parts

abbrev pub with_part : EntityKey → ℕ → List Standing → HeldEntities → HeldEntities
with_part key part xs held = record held { parts = set_at key part xs held.parts }

-- empty lists in the place of all four
abbrev pub emptied : EntityKey → HeldEntities → HeldEntities
emptied key held = record held { parts = changed_under key (λ l. no_lists) held.parts }
