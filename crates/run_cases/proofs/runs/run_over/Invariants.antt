use Rattle.run_cases.proofs.runs.run_over.Given as goal

abbrev pub ghosts-run_counted-D-Ledger : goal.ghosts-run_counted-D-Ledger
ghosts-run_counted-D-Ledger g a = record { name = a.decodes.name; parts = a.decodes.parts }

abbrev pub ghosts-run_counted-T-Ledger : goal.ghosts-run_counted-T-Ledger
ghosts-run_counted-T-Ledger g a = record { name = a.tests.name; parts = a.tests.parts }
