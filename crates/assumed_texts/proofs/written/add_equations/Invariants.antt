use Rattle.rule_core.specs.ProgramView.{theory_of}
use Rattle.ml_image.specs.Gained.{HasGained}
use Rattle.assumed_texts.specs.Listing.{Lists, IsBeforeEquation}
use Rattle.assumed_texts.proofs.written.add_equations.Given as goal

abbrev pub invariant-loop-equation : goal.invariant-loop-equation
invariant-loop-equation l =
    Lists (theory_of l.program) l.names
    (IsBeforeEquation (theory_of l.program) l.function l.equation-index) l.images.items
    × HasGained l.program.sig l.initial.names l.names
