use Rattle.fun_eval.proofs.terms.bind_row.Given as goal

abbrev pub ghosts-counted_bindings : goal.ghosts-counted_bindings
ghosts-counted_bindings a = record { name = a.blank.name; parts = a.blank.parts }
