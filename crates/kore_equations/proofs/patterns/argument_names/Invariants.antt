use Rattle.std.proofs.Common.{◌≡◌, ◌++◌, [], drop, map}
use Rattle.rule_core.specs.ProgramView.{names_of}
use Rattle.kore_check.specs.PartNames.{names_in_all}
use Rattle.kore_shapes.specs.Views.{pattern_at}
use Rattle.kore_equations.specs.ReadableSides.{all_read}
use Rattle.kore_equations.proofs.patterns.argument_names.Given as goal

abbrev pub invariant-loop-i : goal.invariant-loop-i
invariant-loop-i l =
    names_of l.named.items
    ++ names_in_all l.sig l.vars [] l.i (all_read (map pattern_at (drop l.i l.pats)))
    ≡ names_in_all l.sig l.vars [] 0 (all_read (map pattern_at l.pats))
