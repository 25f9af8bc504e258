-- What the parts of a text say, of which entities are read one after the other.
use Rattle.std.specs.Prelude.{ℕ, List, [], ◌∷◌, ◌++◌, ⊤, map, length, Bool, Option, Some, None, Result, Ok, Err, codes, bytes_eq, if◌then◌else◌}
use Rattle.std.specs.Option.{option_map}
use Rattle.std.specs.List.{AllByRecursion}
use Rattle.json.specs.Json as json
use Rattle.serde_json.specs.Data.{Data, Items, no_items, item}
use Rattle.serde_json.specs.Find.{get, as_object}
use Rattle.serde_json.specs.Read.{of_json, of_items}
use Rattle.feed_values.specs.Schema.{Schema, Value}
use Rattle.feed_values.specs.Messages.{feed_message, feed_header, entity}
use Rattle.feed_json.specs.declared.json_fault.JsonFault.{JsonFault}
use Rattle.feed_json.specs.declared.json_fault.JsonFault.TheVariants.{UnknownKey}
use Rattle.feed_json.specs.Faults.{item_key, under, unless, paired, ◌>>=◌}
use Rattle.feed_json.specs.Unform.{of_kind, first_unknown, is_key, needed_at, array_at, each_of, unknown_of, unform}
use Rattle.json_entities.specs.declared.said.Said.{Said}
use Rattle.json_entities.specs.declared.said.Said.TheVariants.{Messages, Fault}
use Rattle.json_entities.specs.declared.text_fault.TextFault.{TextFault}
use Rattle.json_entities.specs.FromText.{said_by}

-- ---- entities by themselves
-- entities, or the first fault of them
abbrev pub Entities : Type 0
Entities = Result (List (Value entity)) JsonFault

-- the snapshot of an object in which these are the entities
abbrev pub message_with : Entities → Data → Result (Value feed_message) JsonFault
message_with entities d = of_kind (as_object d) >>= λ ms. unless (option_map UnknownKey (first_unknown (is_key feed_message) ms))
    (paired (needed_at (codes "header") (unform feed_header) (get (codes "header") d)) (paired entities (array_at (codes "unknown") (unknown_of feed_message) (get (codes "unknown") d))))

-- what code holds, as what is said
abbrev pub as_said : {T A : Type 0} → (T → A) → Said T → Result (List A) JsonFault
as_said value (Messages list) = Ok (map value list)
as_said value (Fault fault) = Err fault

-- each message that was read is one of which something holds
abbrev pub AllRead : {T A : Type 0} → (T → A) → (A → Type 0) → Said T → Type 0
AllRead value P (Messages list) = AllByRecursion P (map value list)
AllRead value P (Fault fault) = ⊤

-- ---- what a text has at the key of entities
abbrev pub is_entity : List ℕ → Bool
is_entity key = bytes_eq key (codes "entity")

-- members with nothing at that key
abbrev pub emptied : json.Members → json.Members
emptied json.no_members = json.no_members
emptied (json.member key j ms) = json.member key (if is_entity key then json.null else j) (emptied ms)

-- what stands at that key, as often as it is there
abbrev pub entity_values : json.Members → json.Items
entity_values json.no_members = json.no_items
entity_values (json.member key j ms) = if is_entity key then json.item j (entity_values ms) else entity_values ms

-- what is said by the last of some values
abbrev pub last_said : {A : Type 0} → (Data → A) → A → Items → A
last_said say before no_items = before
last_said say before (item d ds) = last_said say (say d) ds

-- what a value says at a key as an array of messages
abbrev pub array_said : (key : List ℕ) (s : Schema) → Data → Result (List (Value s)) JsonFault
array_said key s d = array_at key (unform s) (Some d)

-- the same of a text's value, if its numbers are numbers
abbrev pub value_said : (key : List ℕ) (s : Schema) → json.Json → Option (Result (List (Value s)) JsonFault)
value_said key s j = option_map (array_said key s) (of_json j)

-- what the last of some values says there, if the numbers of all are
abbrev pub last_of : (key : List ℕ) (s : Schema) → json.Items → Option (Result (List (Value s)) JsonFault)
last_of key s js = option_map (last_said (array_said key s) (Ok [])) (of_items js)

-- some messages, and that of an item more behind them
abbrev pub and_item : (key : List ℕ) (s : Schema) → List (Value s) → Data → Result (List (Value s)) JsonFault
and_item key s before d = under (item_key key (length before)) (unform s d) >>= λ v. Ok (before ++ v ∷ [])

-- what all items say, of which some were read or one had a fault, and these are left
abbrev pub left_said : (key : List ℕ) (s : Schema) → List (Value s) → Option JsonFault → Items → Result (List (Value s)) JsonFault
left_said key s done None ds = each_of key (unform s) (length done) ds >>= λ more. Ok (done ++ more)
left_said key s done (Some fault) ds = Err fault

-- what an array's items say at a key, if their numbers are numbers
abbrev pub items_said : (key : List ℕ) (s : Schema) → json.Items → Option (Result (List (Value s)) JsonFault)
items_said key s js = option_map (each_of key (unform s) 0) (of_items js)

-- what a text's value says as a snapshot
abbrev pub json_message : json.Json → Result (Value feed_message) TextFault
json_message j = said_by (of_json j)
