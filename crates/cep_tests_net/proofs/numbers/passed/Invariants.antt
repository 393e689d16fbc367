use Rattle.cep_tests_net.proofs.numbers.passed.Given as goal

abbrev pub ghosts-first_step : goal.ghosts-first_step
ghosts-first_step a = record { name = a.blank.name; parts = a.blank.parts }
