use Rattle.run_tests.proofs.matching.matches_the_arguments_of_a_function.Given as goal

abbrev pub ghosts-matches_arguments : goal.ghosts-matches_arguments
ghosts-matches_arguments g a = record { name = a.blank.name; parts = a.blank.parts }
