-- The walk through a tree as the list of its checks, in the order in which they are made: what a first fault means.
-- Each check has found a fault, with its path from the value that is walked, or nothing. A check behind a fault counts for
-- nothing, so it doesn't matter what it finds. (This profile's.)
use Rattle.std.specs.Prelude.{◌≡◌, ◌+◌, ℕ, List, [], ◌∷◌, ◌++◌, map, Bool, Option, Some, None, Result, Ok, Err, codes, if◌then◌else◌}
use Rattle.std.specs.Option.{option_map}
use Rattle.std.specs.List.{AllByRecursion}
use Rattle.serde_json.specs.Data.{Data, Items, no_items, item, Members, no_members, member}
use Rattle.serde_json.specs.Find.{get, as_array, as_object}
use Rattle.feed_values.specs.Schema as schema
use Rattle.feed_values.specs.Schema.{Schema, Presence, Optional, Needed}
use Rattle.feed_json.specs.declared.json_fault.JsonFault.{JsonFault}
use Rattle.feed_json.specs.declared.json_fault.JsonFault.TheVariants.{WrongKind, UnknownKey, MissingKey}
use Rattle.feed_json.specs.Faults.{fault_below, item_key}
use Rattle.feed_json.specs.Unform.{natural_of, scalar_of, text_of, needed_at, wire_of, field_of, is_item_key, is_key}

-- A fault is the first of a walk where it is found, and no check before finds one.
pub record IsFirst (fault : JsonFault) (walk : List (Option JsonFault)) : Type 0 where
  pub before : List (Option JsonFault)
  pub after : List (Option JsonFault)
  pub found : walk ≡ before ++ Some fault ∷ after
  pub none : AllByRecursion (λ check. check ≡ None) before

-- what one reading finds
abbrev pub fault_of : {A : Type 0} → Result A JsonFault → Option JsonFault
fault_of (Ok a) = None
fault_of (Err e) = Some e

-- a walk through what stands at a key, seen from the object that has the key
abbrev pub walk_under : List ℕ → List (Option JsonFault) → List (Option JsonFault)
walk_under key walk = map (option_map (fault_below key)) walk

-- ---- objects: that it is one, then each key in byte order, then what stands in it

abbrev pub walk_keys : (List ℕ → Bool) → Members → List (Option JsonFault)
walk_keys known no_members = []
walk_keys known (member key d rest) = (if known key then None else Some (UnknownKey key)) ∷ walk_keys known rest

abbrev pub walk_members : (List ℕ → Bool) → Option Members → List (Option JsonFault)
walk_members known None = Some (WrongKind []) ∷ []
walk_members known (Some ms) = walk_keys known ms

abbrev pub walk_object : (List ℕ → Bool) → (Data → List (Option JsonFault)) → Data → List (Option JsonFault)
walk_object known inside d = walk_members known (as_object d) ++ inside d

-- ---- fields: whether one that has to be there is, then its value

abbrev pub walk_slot : Presence → List ℕ → (Data → List (Option JsonFault)) → Option Data → List (Option JsonFault)
walk_slot Optional key inside None = []
walk_slot (Needed which) key inside None = Some (MissingKey key) ∷ []
walk_slot presence key inside (Some d) = walk_under key (inside d)

-- ---- arrays: that it is one, then each item in turn

abbrev pub walk_each : List ℕ → (Data → List (Option JsonFault)) → ℕ → Items → List (Option JsonFault)
walk_each key inside i no_items = []
walk_each key inside i (item d rest) = walk_under (item_key key i) (inside d) ++ walk_each key inside (i + 1) rest

abbrev pub walk_items : List ℕ → (Data → List (Option JsonFault)) → Option Items → List (Option JsonFault)
walk_items key inside None = Some (WrongKind key) ∷ []
walk_items key inside (Some ds) = walk_each key inside 0 ds

abbrev pub walk_array : List ℕ → (Data → List (Option JsonFault)) → Option Data → List (Option JsonFault)
walk_array key inside None = []
walk_array key inside (Some d) = walk_items key inside (as_array d)

-- ---- unknown fields: number, then wire type, then the value that the two ask for

abbrev pub number_of : Data → Result ℕ JsonFault
number_of d = needed_at (codes "number") (natural_of 1 536870911) (get (codes "number") d)

abbrev pub wire_type_of : Data → Result ℕ JsonFault
wire_type_of d = needed_at (codes "wire") wire_of (get (codes "wire") d)

-- what was read, or 0 behind a fault
abbrev pub or_zero : Result ℕ JsonFault → ℕ
or_zero (Ok n) = n
or_zero (Err e) = 0

abbrev pub walk_unknown : Schema → Data → List (Option JsonFault)
walk_unknown whole d =
    fault_of (number_of d)
    ∷ fault_of (wire_type_of d)
    ∷ fault_of (needed_at (codes "value") (field_of whole (or_zero (number_of d)) (or_zero (wire_type_of d))) (get (codes "value") d))
    ∷ []

-- ---- messages: field by field in the order of the table, and last the unknown fields

abbrev pub walk_slots : Schema → Schema → Data → List (Option JsonFault)
walk_slots whole schema.end d = walk_array (codes "unknown") (walk_object is_item_key (walk_unknown whole)) (get (codes "unknown") d)
walk_slots whole (schema.scalar n name presence t rest) d =
    walk_slot presence (codes name) (λ v. fault_of (scalar_of (codes name) t v) ∷ []) (get (codes name) d) ++ walk_slots whole rest d
walk_slots whole (schema.text n name presence rest) d =
    walk_slot presence (codes name) (λ v. fault_of (text_of v) ∷ []) (get (codes name) d) ++ walk_slots whole rest d
walk_slots whole (schema.message n name presence m rest) d =
    walk_slot presence (codes name) (walk_object (is_key m) (walk_slots m m)) (get (codes name) d) ++ walk_slots whole rest d
walk_slots whole (schema.repeated n name m rest) d =
    walk_array (codes name) (walk_object (is_key m) (walk_slots m m)) (get (codes name) d) ++ walk_slots whole rest d

abbrev pub walk_message : Schema → Data → List (Option JsonFault)
walk_message s d = walk_object (is_key s) (walk_slots s s) d
