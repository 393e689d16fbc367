use Rattle.ceptre.proofs.main.Given as goal

abbrev pub ghosts-run : goal.ghosts-run
ghosts-run a = record { name = a.ledger.name; parts = a.ledger.parts }
