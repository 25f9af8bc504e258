use Rattle.feed_cases.proofs.parts.say_entity.Given as goal

abbrev pub ghosts-entity_of : goal.ghosts-entity_of
ghosts-entity_of a = record { name = a.blank.name; parts = a.blank.parts }
