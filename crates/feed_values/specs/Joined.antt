-- The payloads of one message, taken together. (Protocol Buffers, Encoding, "Last One Wins", "Submessages".)
use Rattle.std.specs.Prelude.{◌≡◌, ℕ, List, [], ◌∷◌, ◌++◌, Option, Some, None}
use Rattle.std.specs.List.{AllByRecursion, concat, flat_map}
use Prim.Native.String.{String}
use Rattle.rt_wire.specs.Fields.{WireField, Joins, Spells}
use Rattle.feed_values.specs.Schema as schema
use Rattle.feed_values.specs.Schema.{Schema, Presence, Value, held, blank}
use Rattle.feed_values.specs.Meaning.{fields, given, in_slot, payload_in, slots_of, meaning}

-- the bytes are whole fields
abbrev pub IsFieldList : List ℕ → Type 0
IsFieldList bytes = (l : List WireField) × Joins (Spells 100) l bytes

-- what the join of all payloads means, where there is a payload
abbrev pub meaning_of_join : (s : Schema) → List (List ℕ) → Option (Value s)
meaning_of_join s [] = None
meaning_of_join s (p ∷ ps) = Some (meaning s (fields (concat (p ∷ ps))))

pub record JoinMeansAll : Type 0 where
  -- whole fields, and any bytes behind them, have the fields of both
  pub both : (l : List WireField) (front rest : List ℕ) → Joins (Spells 100) l front → fields (front ++ rest) ≡ l ++ fields rest
  -- payloads of whole fields, joined, have the fields of all of them
  pub all : (ps : List (List ℕ)) → AllByRecursion IsFieldList ps → fields (concat ps) ≡ flat_map fields ps
  -- a singular message slot holds the meaning of the join of all its payloads
  pub slot : (whole : Schema) (n : ℕ) (name : String) (presence : Presence) (m rest : Schema) (l : List WireField)
      → AllByRecursion IsFieldList (given (in_slot payload_in n) l)
      → (slots_of whole (schema.message n name presence m rest) l).0
      ≡ held presence (blank m) (meaning_of_join m (given (in_slot payload_in n) l))
