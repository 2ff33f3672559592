use Rattle.run_tests.proofs.trees.found.Given as goal

abbrev pub ghosts-rows_that_match : goal.ghosts-rows_that_match
ghosts-rows_that_match a = record { name = a.blank.name; parts = a.blank.parts }
