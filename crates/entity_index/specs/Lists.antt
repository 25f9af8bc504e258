-- What stands at an entity, in four lists by number.
use Rattle.std.specs.Prelude.{ℕ, zero, suc, List, []}
use Rattle.rule_history.specs.Standing.{Standing}

pub record Lists : Type 0 where
  pub local : List Standing
  pub paired : List Standing
  pub bounded : List Standing
  pub peaked : List Standing

abbrev pub no_lists : Lists
no_lists = record { local = []; paired = []; bounded = []; peaked = [] }

-- 0 is the local one, 1 the paired one, 2 the bounded one, and 3 the peaked one
abbrev pub list_of : Lists → ℕ → List Standing
list_of l zero = l.local
list_of l (suc zero) = l.paired
list_of l (suc (suc zero)) = l.bounded
list_of l (suc (suc (suc n))) = l.peaked

-- another list in the place of the one of a number
abbrev pub with_list : Lists → ℕ → List Standing → Lists
with_list l zero xs = record l { local = xs }
with_list l (suc zero) xs = record l { paired = xs }
with_list l (suc (suc zero)) xs = record l { bounded = xs }
with_list l (suc (suc (suc n))) xs = record l { peaked = xs }
