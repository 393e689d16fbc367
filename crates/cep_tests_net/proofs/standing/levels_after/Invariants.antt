use Rattle.cep_tests_net.proofs.standing.levels_after.Given as goal

abbrev pub ghosts-standing_after : goal.ghosts-standing_after
ghosts-standing_after a = record { name = a.blank.name; parts = a.blank.parts }
