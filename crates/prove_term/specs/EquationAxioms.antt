-- The image of an equation of a function.
use Rattle.std.specs.Prelude.{ℕ}
use Rattle.ml_pat.specs.Patterns.{Pattern}
use Rattle.rule_core.specs.Rules.{Equation}
use Rattle.rule_core.specs.Theories.{equations_of}
use Rattle.rule_core.specs.ProgramView.{theory_of}
use Rattle.ml_image.specs.OwnAxioms.{SaysEquation}
use Rattle.ml_image.specs.Sentences.{IsImageOf}
use Rattle.prove_term.specs.Contexts.{Context}

-- the pattern is the image of what the equation e of the function f says
abbrev pub SaysEquationOf : Context → ℕ → Equation → Pattern → Type 0
SaysEquationOf cx f e p =
    IsImageOf cx.program.sig cx.names
    (SaysEquation cx.program.sig (equations_of (theory_of cx.program) f) f e) p
