use Rattle.timetable_cases.proofs.agreeing.answer.Given as goal

abbrev pub ghosts-say_of_bytes : goal.ghosts-say_of_bytes
ghosts-say_of_bytes a = record { name = a.blank.name; parts = a.blank.parts }
