use Rattle.cep_tests_net.proofs.alone.turns_of_switch.Given as goal

abbrev pub ghosts-turns_alone : goal.ghosts-turns_alone
ghosts-turns_alone a = record { name = a.blank.name; parts = a.blank.parts }
