-- Finite maps by text.
use Rattle.std.specs.Prelude.{ℕ, List, map, Option, Some, None, option_map, String, string_bytes}
use Rattle.std.specs.declared.alloc.Global.{Global}
use Rattle.std.specs.declared.cmp.Ordering.{Ordering}
use Rattle.std.specs.Cmp.Lexicographic.{slice_cmp}
use Rattle.std.specs.FinMap.{FinMap, from_entries, get, insert}
use Rattle.std.specs.Ordering.{nat_cmp}

abbrev pub Text : Type 0
Text = List ℕ

-- texts in the order of their bytes
abbrev pub text_cmp : Text → Text → Ordering
text_cmp = slice_cmp nat_cmp

abbrev pub ByText : Type 0 → Type 0
ByText G = FinMap text_cmp G

-- entries by the bytes of their keys
abbrev pub by_text : {G : Type 0} → List (String Global × G) → List (Text × G)
by_text entries = map (λ entry. (string_bytes entry.0, entry.1)) entries

-- what the entries say
abbrev pub table_of : {G : Type 0} → List (String Global × G) → ByText G
table_of entries = from_entries (by_text entries)

-- how what stands under one id grows: what its first item makes of it, and what a further item makes of it, if the key
-- of that item didn't stand there before
pub record Grouping (Item G : Type 0) : Type 0 where
  pub first : Item → G
  pub more : G → Item → Option G

-- the group with one more item
abbrev pub grown : {Item G : Type 0} → Grouping Item G → Option G → Item → Option G
grown grouping None item = Some (grouping.first item)
grown grouping (Some group) item = grouping.more group item

-- the map with one more item under an id, if its key didn't stand there before
abbrev pub put_under : {Item G : Type 0} → Grouping Item G → ByText G → Text → Item → Option (ByText G)
put_under grouping groups id item = option_map (insert groups id) (grown grouping (get groups id) item)
