-- The program that an engine borrows, and what holds of each engine.
use Rattle.std.specs.Prelude.{◌≡◌, map}
use Rattle.rule_core.specs.ProgramView.{theory_of}
use Rattle.rule_core.specs.WellSorted.{IsWellSorted}
use Rattle.rule_core.specs.declared.rules.Program.{Program}
use Rattle.fun_eval.specs.Evaluable.{HasNumbers}
use Rattle.fun_eval.specs.Injections.{Injects}
use Rattle.fun_eval.specs.EquationTrees.{AreEquationTrees}
use Rattle.fun_eval.specs.LastResorts.{has_last_resort}
use Rattle.fun_eval.specs.declared.engine.Engine.TheInside.{Inside}

abbrev pub program_of : Inside → Program
program_of e = e.program.now

pub record IsEngine (e : Inside) : Type 0 where
  pub sorted : IsWellSorted (theory_of e.program.now)
  pub numbers : HasNumbers (theory_of e.program.now)
  pub injection : Injects e.program.now.sig e.injection
  pub trees : AreEquationTrees (theory_of e.program.now) e.trees.items
  pub last_resorts : e.last_resorts.items ≡ map has_last_resort (theory_of e.program.now).equations
