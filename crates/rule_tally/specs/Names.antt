-- Names with marks. (This profile.)
use Rattle.std.specs.Prelude.{ℕ, Bool, List, [], fold, map, String, string_bytes}
use Rattle.std.specs.BTreeMap.{insert_entry}
use Rattle.std.specs.Cmp.Lexicographic.{slice_cmp}
use Rattle.std.specs.Ordering.{nat_cmp}
use Rattle.std.specs.declared.alloc.Global.{Global}

-- each name once, by the order of its bytes
abbrev pub Marks : Type 0
Marks = List (List ℕ × Bool)

abbrev pub by_text : List (String Global × Bool) → Marks
by_text entries = map (λ entry. (string_bytes entry.0, entry.1)) entries

-- a name that is there has this mark from now on, and one that isn't comes to its place
abbrev pub with_mark : Marks → List ℕ → Bool → Marks
with_mark marks name mark = insert_entry (slice_cmp nat_cmp) marks name mark

-- each name once, with the mark that it was given last
abbrev pub marks_of : Marks → Marks
marks_of given = fold (λ (done : Marks) (p : List ℕ × Bool). with_mark done p.0 p.1) [] given

abbrev pub is_marked : List ℕ × Bool → Bool
is_marked entry = entry.1
