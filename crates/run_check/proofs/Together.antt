-- Files that are checked together.
use Rattle.std.proofs.Common.{◌≡◌, ℕ, List, [], ◌∷◌, length, get_or, ◌∙◌, ap, arith}
use Rattle.timetable.specs.Timetables.{Tables}
use Rattle.rule_history.specs.History.{Snapshot}
use Rattle.std.specs.declared.option.Option.{Option}
use Rattle.engine_laws.specs.Standings.{listed}
use Rattle.engine_laws.proofs.Computed.{list_is_computed}
use Rattle.run_rows.specs.follow_engine.Engine.{Engine}
use Rattle.run_rows.specs.follow_engine.Engines.{engine_data}
use Rattle.run_rows.specs.Followed.{Stands}
use Rattle.run_check.specs.Check.{all_findings, findings_ending}

-- the findings that an engine holds are those on the history that it stands for
pub findings_held : (t : Option Tables) (engine : Engine) (h : List Snapshot) → Stands t engine h → findings_ending (engine_data engine).list ≡ all_findings t h
findings_held t engine h stands = ap findings_ending (list_is_computed.is_only t h (engine_data engine).list (listed (engine_data engine) t h stands))

-- the one name of a list
pub one_name : (names list : List (List ℕ)) (first name : List ℕ) → length names ≡ 1 → list ≡ names → first ≡ get_or list 0 first → name ≡ first → name ∷ [] ≡ names
one_name [] list first name one same is named = absurd (omega arith)
one_name (x ∷ []) list first name one same is named = ap (λ n. n ∷ []) (named ∙ is ∙ ap (λ l. get_or l 0 first) same)
one_name (x ∷ y ∷ names) list first name one same is named = absurd (omega arith)
