use Rattle.cep_tests_calls.proofs.terms.meets_text.Given as goal

abbrev pub ghosts-meets : goal.ghosts-meets
ghosts-meets a = record { name = a.blank.name; parts = a.blank.parts }
