use Rattle.index_run.proofs.touch.entity.Given as goal

abbrev pub ghosts-decoded : goal.ghosts-decoded
ghosts-decoded a = record { name = a.blank.name; parts = a.blank.parts }
