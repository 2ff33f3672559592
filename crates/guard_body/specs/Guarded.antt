-- A guard at terms: what it says of its variables.
use Rattle.std.specs.Prelude.{◌≡◌, ◌↔◌, ◌<◌, ◌^◌, ℕ, List, [], length, All, Contains, Some}
use Rattle.std.specs.Prelude.{slice_get}
use Rattle.term_core.specs.Terms.{Forest}
use Rattle.term_core.specs.Patterns.{ground_patterns}
use Rattle.term_core.specs.RulePatterns.{sort_numbers}
use Rattle.rule_core.specs.AcSymbols.{IsAcFree}
use Rattle.rule_core.specs.ProgramView.{theory_of}
use Rattle.rule_core.specs.Rules.{Equation}
use Rattle.rule_core.specs.Sorting.{AreSorts, HaveSorts}
use Rattle.rule_core.specs.WellSorted.{AreDifferent, IsEquationOf, IsWellSorted}
use Rattle.rule_core.specs.declared.signature.Signature.{Signature}
use Rattle.rule_core.specs.declared.signature.SymInfo.{SymInfo}
use Rattle.ml_image.specs.LastResorts.{number_from, condition_renamed}
use Rattle.ml_image.specs.Sentences.{Sentence, and, sentence_image}
use Rattle.prove_term.specs.Contexts.{Context}
use Rattle.prove_open.specs.Givens.{IsGiven, HasFact, all_sorted}
use Rattle.guard_body.specs.Arguments.{IsArgument, IsVariableOf, all_in}
use Rattle.guard_body.specs.Hypotheses.{down_from}
use Rattle.guard_body.specs.Renaming.{AreRenamed, sorts_from}
use Rattle.guard_body.specs.declared.arguments.Argument.{Argument}
use Rattle.guard_body.specs.declared.guarded.Guarded.{Guarded}

-- the list has each of the first n variables once
pub record IsOrderOf (n : ℕ) (order : List ℕ) : Type 0 where
  pub each : (x : ℕ) → Contains order x ↔ (x < n)
  pub different : AreDifferent order

-- the equation is one of a function with arguments of some sorts, and the terms have these sorts
abbrev pub IsAppliedTo : Signature → Equation → Forest → Type 0
IsAppliedTo sig e ts =
    (info : SymInfo) × IsEquationOf sig info e
    × HaveSorts sig [] [] (ground_patterns ts) info.args.items

-- The guard says of its variables that the condition c holds and that the terms are in the arguments.
pub record IsGuarded (cx : Context) (c : Sentence) (x : Guarded) : Type 0 where
  pub well_sorted : IsWellSorted (theory_of cx.program)
  pub no_ac : IsAcFree cx.program.sig
  pub sorts : AreSorts cx.program.sig (sort_numbers x.sorts.items)
  pub given : IsGiven cx (sort_numbers x.sorts.items) x.given
  pub few : length x.sorts.items < 2 ^ 32
  pub arguments : All (IsArgument cx.program.sig (sort_numbers x.sorts.items)) x.arguments.items
  pub facts : (i y : ℕ) (a : Argument) → slice_get x.arguments.items i ≡ Some a → IsVariableOf a y
      → HasFact x.given y
  pub body : sentence_image cx.program.sig cx.names (and c (all_in x.arguments.items))
      ≡ Some x.body

-- the guard repeats the equation at the terms, with its variables numbered from k in this order
pub record IsRepeated (cx : Context) (k : ℕ) (order : List ℕ) (ts : Forest) (e : Equation)
    (x : Guarded) : Type 0 where
  pub condition : Sentence
  pub is_condition : condition_renamed cx.program.sig (number_from k order) e.variables e.condition
      ≡ Some condition
  pub guarded : IsGuarded cx condition x
  pub sorts : sort_numbers x.sorts.items ≡ sorts_from k e.variables order
  pub hypothesis : sentence_image cx.program.sig cx.names
      (all_sorted (sort_numbers x.sorts.items) (down_from k (length order)))
      ≡ Some x.given.hypothesis
  pub arguments : AreRenamed (number_from k order) e.names 0 e.arguments ts x.arguments.items
