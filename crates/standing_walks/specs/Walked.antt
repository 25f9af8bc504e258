-- Lists of standings in the order of their findings, gone along beside a finding.
use Rattle.std.specs.Prelude.{Bool, false, List, [], ◌∷◌, Option, Some, None}
use Rattle.std.specs.Ordering.{match_ordering}
use Rattle.rule_table.specs.Found.{Found}
use Rattle.rule_history.specs.Standing.{Standing}
use Rattle.rule_table.specs.SameFacts.{same_facts}
use Rattle.engine_laws.specs.Order.{found_cmp, Rises}
use Rattle.engine_laws.specs.Standings.{findings_of}

abbrev pub IsInOrder : List Standing → Type 0
IsInOrder xs = Rises found_cmp (findings_of xs)

-- the first standing that doesn't come before a finding, where it is of the same rule and place
abbrev pub met : Found → List Standing → Option Standing
met f [] = None
met f (x ∷ xs) = match_ordering (found_cmp x.finding f) (met f xs) (Some x) None

-- the standings that come after the finding
abbrev pub after : Found → List Standing → List Standing
after f [] = []
after f (x ∷ xs) = match_ordering (found_cmp x.finding f) (after f xs) xs (x ∷ xs)

-- whether one that was met has the facts of a finding
abbrev pub was_same : Found → Option Standing → Bool
was_same f None = false
was_same f (Some x) = same_facts f.facts x.finding.facts
