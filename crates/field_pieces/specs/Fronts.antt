-- A group of which a front has come.
-- (Protocol Buffers, Encoding, "Groups".)
use Rattle.std.specs.Prelude.{◌≡◌, ℕ, zero, suc, ◌<◌, ◌≤◌, List, [], ◌∷◌, ◌++◌, ◌+◌, length, drop, Ok}
use Rattle.rt_wire.specs.Fields.{WireField, Group, IsTag, Joins, Spells}
use Rattle.rt_wire.specs.Placed.{PlacedField, field_from}

-- The bytes open these groups, the outermost first: a start tag, whole fields, and then the next group's start tag. In the outermost
-- groups nest at most `levels` deep, with itself.
abbrev pub Opens : ℕ → List ℕ → List ℕ → Type 0
Opens levels [] b = b ≡ []
Opens zero (n ∷ ns) b = ⊥
Opens (suc levels) (n ∷ ns) b =
    (tag front rest : List ℕ) × (l : List WireField) × (b ≡ tag ++ (front ++ rest)) × IsTag tag n 3 × Joins (Spells levels) l front × Opens levels ns rest

-- From `start` the bytes begin with a front of a group, up to `at`, in which these groups are open, the outermost first.
pub record IsFront (bytes : List ℕ) (start : ℕ) (numbers : List ℕ) (at : ℕ) : Type 0 where
  pub front : List ℕ
  pub rest : List ℕ
  pub stands : drop start bytes ≡ front ++ rest
  pub place : at ≡ start + length front
  pub opens : Opens 100 numbers front

-- From `start` on stands a whole group, up to `stop`.
pub record IsGroupTo (bytes : List ℕ) (start stop : ℕ) : Type 0 where
  pub found : PlacedField
  pub reads : field_from bytes start ≡ Ok found
  pub stop_is : found.stop ≡ stop
  pub after : start < stop
  pub number : ℕ
  pub payload : List ℕ
  pub group : found.field ≡ record { number = number; value = Group payload }

-- Longer bytes begin with each front that they began with before.
abbrev pub FrontStays : Type 0
FrontStays =
    (bytes more : List ℕ) (start at : ℕ) (numbers : List ℕ) → start ≤ length bytes → IsFront bytes start numbers at → IsFront (bytes ++ more) start numbers at
