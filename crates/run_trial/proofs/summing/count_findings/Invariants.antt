use Rattle.std.proofs.Common.{◌≡◌, ◌+◌, length}
use Rattle.run_rows.specs.follow_engine.Engines.{engine_data}
use Rattle.run_trial.proofs.summing.count_findings.Given as goal

-- how many were counted, and how many are left
abbrev pub invariant-loop-finding : goal.invariant-loop-finding
invariant-loop-finding l = l.count + length l._finding-iterator ≡ length (engine_data l.engine).list
