-- Counts of ids, by which entities have their keys.
use Rattle.std.specs.Prelude.{ℕ, List, unwrap_or, String}
use Rattle.std.specs.BTreeMap.{BTreeMap, get_by_text}
use Rattle.std.specs.declared.alloc.Global.{Global}

-- how often an id was counted
abbrev pub count_in : BTreeMap (String Global) ℕ → List ℕ → ℕ
count_in counts id = unwrap_or (get_by_text counts id) 0
