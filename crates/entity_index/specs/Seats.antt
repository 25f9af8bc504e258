-- The entities of a snapshot as they are held.
use Rattle.std.specs.Prelude.{◌≡◌, ℕ, ◌+◌, Bool, List, [], ◌∷◌, ◌++◌, map, take, get_or, not, bytes_eq}
use Rattle.feed_values.specs.Schema.{Value}
use Rattle.feed_values.specs.Messages.{entity}
use Rattle.feed_values.specs.Snapshot.{entity_of, entity_payloads}
use Rattle.rule_table.specs.declared.key.EntityKey.{EntityKey}
use Rattle.rule_table.specs.Groups.{Each}
use Rattle.rule_history.specs.History.{id_of, count_id, ordered_after}
use Rattle.entity_index.specs.Lists.{Lists}
use Rattle.entity_index.specs.Held.{KeyedParts, KeyedValues}

-- an entity's place in its snapshot, its phase, its value and what stands at it
pub record HeldSeat : Type 0 where
  pub place : ℕ
  pub phase : Bool
  pub value : Value entity
  pub parts : Lists

abbrev pub Seats : Type 0
Seats = List (EntityKey × HeldSeat)

abbrev pub parts_in : Seats → KeyedParts
parts_in es = map (λ e. (e.0, e.1.parts)) es

abbrev pub values_in : Seats → KeyedValues
values_in es = map (λ e. (e.0, e.1.value)) es

abbrev pub places_of : Seats → List (EntityKey × ℕ)
places_of es = map (λ e. (e.0, e.1.place)) es

-- the key of a byte string that stands after others
abbrev pub key_after : ℕ → List (List ℕ) → List ℕ → EntityKey
key_after f done p = record { feed = f; id = id_of p; occurrence = count_id done (id_of p) }

-- the key of the entity of a snapshot at a place
abbrev pub key_at : ℕ → List ℕ → ℕ → EntityKey
key_at f bytes i = key_after f (take i (entity_payloads bytes)) (get_or (entity_payloads bytes) i [])

-- whether the entities of two snapshots at a place have different byte strings
abbrev pub differ_at : List ℕ → List ℕ → ℕ → Bool
differ_at new old i = not (bytes_eq (get_or (entity_payloads new) i []) (get_or (entity_payloads old) i []))

-- the keys of byte strings that stand after others, each with its place, counted from a number on
abbrev pub placed_after : ℕ → List (List ℕ) → ℕ → List (List ℕ) → List (EntityKey × ℕ)
placed_after f done i [] = []
placed_after f done i (p ∷ ps) = (key_after f done p, i) ∷ placed_after f (done ++ p ∷ []) (i + 1) ps

-- how many with the same id stand before each
abbrev pub occurrences_after : List (List ℕ) → List (List ℕ) → List ℕ
occurrences_after done [] = []
occurrences_after done (p ∷ ps) = count_id done (id_of p) ∷ occurrences_after (done ++ p ∷ []) ps

-- it is what the byte string at its place means, and is there
pub record IsSeat (ps : List (List ℕ)) (phase : Bool) (seat : HeldSeat) : Type 0 where
  pub value : seat.value ≡ entity_of (get_or ps seat.place [])
  pub stays : seat.phase ≡ phase

abbrev pub AreSeated : List (List ℕ) → Bool → Seats → Type 0
AreSeated ps phase es = Each (λ e. IsSeat ps phase e.1) es

-- each of some byte strings is there under its key and in the order of keys, with its place
pub record AreSeats (f : ℕ) (ps : List (List ℕ)) (phase : Bool) (es : Seats) : Type 0 where
  pub places_are : places_of es ≡ ordered_after [] (placed_after f [] 0 ps)
  pub seats_are : AreSeated ps phase es
