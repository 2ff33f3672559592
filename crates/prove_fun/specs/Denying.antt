-- Guards that can be denied at terms, since the equations that they repeat are missed there.
use Rattle.std.specs.Prelude.{◌<◌, ◌+◌, ◌^◌, ℕ, List, [], length, All, Option, take}
use Rattle.term_core.specs.Terms.{Forest}
use Rattle.ml_kernel.specs.Theorems.{Theorem}
use Rattle.rule_core.specs.AcSymbols.{IsAcFree}
use Rattle.rule_core.specs.Guards.{IsGuardAmong, after_guards}
use Rattle.rule_core.specs.MatchLaws.{AreTermsOf}
use Rattle.rule_core.specs.ProgramView.{theory_of}
use Rattle.rule_core.specs.Records.{Miss}
use Rattle.rule_core.specs.Rules.{Equation, Guard}
use Rattle.rule_core.specs.Sorting.{IsSymbol}
use Rattle.rule_core.specs.Theories.{equations_of}
use Rattle.rule_core.specs.declared.signature.SymInfo.{SymInfo}
use Rattle.prove_term.specs.Contexts.{Context}
use Rattle.refute_guard.specs.Guards.{IsAppliedTo, IsOrderOf}
use Rattle.prove_fun.specs.Evaluating.{IsSortedAndBound}
use Rattle.prove_fun.specs.Missing.{IsMissedAt, AreMissedAt, IsValued, AreValued}

-- The guards repeat equations of the function f that are missed at the terms. Their variables are
-- numbered from k, and on from guard to guard.
pub record CanDeny (cx : Context) (f k : ℕ) (guards : List Guard) (ts : Forest) (missed : List Miss)
    (values : List (Option Theorem)) : Type 0 where
  pub ready : IsSortedAndBound cx.program
  pub no_ac : IsAcFree cx.program.sig
  pub info : SymInfo
  pub function : IsSymbol cx.program.sig f info
  pub sorted : AreTermsOf cx.program.sig [] ts info.args.items
  pub among : All (IsGuardAmong (take (length missed) (equations_of (theory_of cx.program) f)))
      guards
  pub few : after_guards k guards < 2 ^ 32
  pub are_missed : AreMissedAt cx.program f ts missed
  pub valued : AreValued cx f missed values

-- a guard repeats the equation, which is missed at the terms; its variables are numbered from k, in
-- this order
pub record CanDenyOne (cx : Context) (e : Equation) (k : ℕ) (order : List ℕ) (ts : Forest) (m : Miss)
    (o : Option Theorem) : Type 0 where
  pub ready : IsSortedAndBound cx.program
  pub no_ac : IsAcFree cx.program.sig
  pub applied : IsAppliedTo cx.program.sig e ts
  pub lists : IsOrderOf (length e.variables) order
  pub few : k + length order < 2 ^ 32
  pub missed : IsMissedAt cx.program e ts m
  pub valued : IsValued cx e m o
