use Rattle.rewriter.proofs.rules.choose_rule.Given as goal

abbrev pub ghosts-counted_choice : goal.ghosts-counted_choice
ghosts-counted_choice g a = record { name = a.blank.name; parts = a.blank.parts }
