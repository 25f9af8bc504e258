use Rattle.row_cases.proofs.entities.entity_of.Given as goal

abbrev pub ghosts-decoded : goal.ghosts-decoded
ghosts-decoded a = record { name = a.blank.name; parts = a.blank.parts }
