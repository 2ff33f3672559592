-- What a start is, and what it means that it reaches a configuration.
use Rattle.std.specs.Prelude.{◌≡◌, ℕ, [], Some}
use Rattle.term_core.specs.Patterns.{Pattern as RulePattern}
use Rattle.rule_core.specs.BoundVariables.{HasBoundVariables}
use Rattle.rule_core.specs.ProgramView.{theory_of}
use Rattle.rule_core.specs.Sorting.{HasSort}
use Rattle.rule_core.specs.WellSorted.{IsWellSorted}
use Rattle.rule_core.specs.declared.rules.Program.{Program}
use Rattle.ml_pat.specs.Patterns.{Pattern, imp, ev}
use Rattle.ml_kernel.specs.Lemmas.{HasNoVariable}
use Rattle.ml_kernel.specs.Theorems.{Theorem}
use Rattle.ml_image.specs.Images.{image_of}
use Rattle.prove_term.specs.Contexts.{Context}

-- an initial term without variables, of a well-sorted program whose rules and equations bind their
-- variables
pub record IsStarting (program : Program) (start : RulePattern) : Type 0 where
  pub well_sorted : IsWellSorted (theory_of program)
  pub bound : HasBoundVariables program
  pub sort : ℕ
  pub sorted : HasSort program.sig [] start sort

-- the theorem says that the image of the start reaches the image of the present configuration;
-- neither has an object variable
pub record SaysReached (cx : Context) (start reached : RulePattern) (t : Theorem) : Type 0 where
  pub from : Pattern
  pub to : Pattern
  pub from_image : image_of cx.program.sig cx.names start ≡ Some from
  pub to_image : image_of cx.program.sig cx.names reached ≡ Some to
  pub closed : HasNoVariable from × HasNoVariable to
  pub says : t.conclusion ≡ imp from (ev to)
