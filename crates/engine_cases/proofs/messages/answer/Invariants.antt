use Rattle.engine_cases.proofs.messages.answer.Given as goal

abbrev pub ghosts-findings : goal.ghosts-findings
ghosts-findings a = record { name = a.blank.name; parts = a.blank.parts }
