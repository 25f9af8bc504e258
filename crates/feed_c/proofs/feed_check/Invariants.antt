use Rattle.feed_c.proofs.feed_check.Given as goal

abbrev pub ghosts-checked-D-Ledger : goal.ghosts-checked-D-Ledger
ghosts-checked-D-Ledger a = record { name = a.decodes.name; parts = a.decodes.parts }

abbrev pub ghosts-checked-T-Ledger : goal.ghosts-checked-T-Ledger
ghosts-checked-T-Ledger a = record { name = a.tests.name; parts = a.tests.parts }
