use Rattle.row_cases.proofs.indexes.IndexAsks.take_in.Given as goal

abbrev pub ghosts-taken : goal.ghosts-taken
ghosts-taken a = record { name = a.blank.name; parts = a.blank.parts }
