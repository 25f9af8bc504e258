use Rattle.run_json.proofs.sending.send_entities.Given as goal

abbrev pub ghosts-send_counted : goal.ghosts-send_counted
ghosts-send_counted g a = record { name = a.blank.name; parts = a.blank.parts }
