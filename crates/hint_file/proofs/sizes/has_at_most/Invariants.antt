use Rattle.hint_file.proofs.sizes.has_at_most.Given as goal

abbrev pub ghosts-counted_most : goal.ghosts-counted_most
ghosts-counted_most a = record { name = a.blank.name; parts = a.blank.parts }
