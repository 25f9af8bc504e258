use Rattle.example_check.proofs.main.Given as goal

abbrev pub ghosts-judged-D-Ledger : goal.ghosts-judged-D-Ledger
ghosts-judged-D-Ledger a = record { name = a.d.name; parts = a.d.parts }

abbrev pub ghosts-judged-T-Ledger : goal.ghosts-judged-T-Ledger
ghosts-judged-T-Ledger a = record { name = a.t.name; parts = a.t.parts }
