use Rattle.std.proofs.Common.{take}
use Rattle.term_core.specs.Forests.{forest}
use Rattle.term_core.specs.PatternLists.{plain_patterns}
use Rattle.rule_core.specs.ProgramView.{names_of}
use Rattle.guard_body.specs.Renaming.{AreRenamed, number_in}
use Rattle.guard_body.proofs.repeating.renamed_arguments.Given as goal

abbrev pub invariant-loop-i : goal.invariant-loop-i
invariant-loop-i l =
    AreRenamed (number_in l.numbers) (names_of l.equation.named.items) 0
    (plain_patterns (take l.i l.equation.args.items)) (forest (take l.i l.args)) l.made.items
