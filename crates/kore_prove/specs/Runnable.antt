-- A program and an initial term that can be run.
use Rattle.term_core.specs.RulePatterns.{plain_pattern}
use Rattle.rule_core.specs.ProgramView.{theory_of}
use Rattle.rule_core.specs.WellSorted.{IsWellSorted, IsStart}
use Rattle.rule_core.specs.BoundVariables.{HasBoundVariables}
use Rattle.rule_core.specs.declared.rules.Program.{Program}
use Rattle.fun_eval.specs.Evaluable.{HasNumbers}
use Rattle.kore_sig.specs.Numbered.{IsNumbered}
use Rattle.kore_rules.specs.Names.{HasIdentifierNames}
use Rattle.kore_rules.specs.RefusedTexts.{top_of, IsSortOfRules}
use Rattle.kore_prove.specs.declared.files.Accepted.{Accepted}

-- what is known of a program that was accepted
pub record IsProgram (program : Program) : Type 0 where
  pub well_sorted : IsWellSorted (theory_of program)
  pub bound : HasBoundVariables program
  pub numbers : HasNumbers (theory_of program)
  pub numbered : IsNumbered program.sig
  pub top : IsSortOfRules (theory_of program) (top_of program)
  pub names : HasIdentifierNames program.sig

-- what is known of an accepted program and its accepted term
pub record IsRunnable (a : Accepted) : Type 0 where
  pub program : IsProgram a.program
  pub start : IsStart (theory_of a.program) (plain_pattern a.start)
