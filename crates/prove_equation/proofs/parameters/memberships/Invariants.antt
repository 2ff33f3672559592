use Rattle.std.proofs.Common.{take}
use Rattle.term_core.specs.PatternLists.{plain_patterns}
use Rattle.rule_core.specs.ProgramView.{names_of}
use Rattle.prove_term.specs.Contexts.{HasGrown}
use Rattle.prove_equation.specs.Parameters.{AreMemberships}
use Rattle.prove_equation.proofs.parameters.memberships.Given as goal

abbrev pub invariant-loop-i : goal.invariant-loop-i
invariant-loop-i l =
    HasGrown l.initial.cx l.cx
    × AreMemberships l.cx l.subst (names_of l.named) 0 (plain_patterns (take l.i l.pats))
    (take l.i l.terms) l.members.items
