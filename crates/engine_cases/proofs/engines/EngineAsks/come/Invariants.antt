use Rattle.engine_cases.proofs.engines.EngineAsks.come.Given as goal

abbrev pub ghosts-apply-D-Ledger : goal.ghosts-apply-D-Ledger
ghosts-apply-D-Ledger a = record { name = a.decodes.name; parts = a.decodes.parts }

abbrev pub ghosts-apply-T-Ledger : goal.ghosts-apply-T-Ledger
ghosts-apply-T-Ledger a = record { name = a.tests.name; parts = a.tests.parts }
