use Rattle.std.proofs.Common.{◌≡◌, drop}
use Rattle.term_core.specs.PatternLists.{plain_patterns}
use Rattle.refute.specs.Refutations.{and_new_of_all}
use Rattle.refute.proofs.variables.+add_variables.Given as goal

abbrev pub invariant-add_all_variables-loop-pat : goal.invariant-add_all_variables-loop-pat
invariant-add_all_variables-loop-pat l =
    and_new_of_all l.variables.items (plain_patterns (drop l.pat-index l.pats))
    ≡ and_new_of_all l.fn.variables.items (plain_patterns l.pats)
