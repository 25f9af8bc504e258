use Rattle.engine_cases.proofs.engines.EngineAsks.turn_to.Given as goal

abbrev pub ghosts-turn : goal.ghosts-turn
ghosts-turn a = record { name = a.tests.name; parts = a.tests.parts }
