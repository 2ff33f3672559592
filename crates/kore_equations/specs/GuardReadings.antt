-- What is returned for the guards of an equation of the last resort.
use Rattle.std.specs.Prelude.{◌≡◌, ◌<◌, ℕ, List, map, All, Option, Some, None, option_map, slice_get}
use Rattle.std.specs.Prelude.{Vec}
use Rattle.std.specs.Global.{Global}
use Rattle.std.specs.List.{AllZip}
use Rattle.kore_text.specs.Trees.{SortTree, PatternTree}
use Rattle.term_core.specs.RulePatterns.{plain_pattern}
use Rattle.term_core.specs.PatternLists.{plain_patterns}
use Rattle.rule_core.specs.ProgramView.{guard_of, names_of}
use Rattle.rule_core.specs.Rules.{Equation}
use Rattle.rule_core.specs.declared.rules.Guard.{Guard}
use Rattle.rule_core.specs.declared.signature.Signature.{Signature}
use Rattle.rule_core.specs.declared.signature.SymInfo.{SymInfo}
use Rattle.kore_shapes.specs.LastResorts.{GuardParts}
use Rattle.kore_equations.specs.Guards.{QuantifyEach, MeansGuard, RepeatsSome}
use Rattle.kore_equations.specs.declared.patterns.Sides.{Sides}

-- the guard beside the equations; none if it repeats none of them
abbrev pub IsGuardRead : Signature → SymInfo → SortTree → List Equation → GuardParts → Option Guard
    → Type 0
IsGuardRead sig info over es g None = RepeatsSome sig info over es g → ⊥
IsGuardRead sig info over es g (Some made) = MeansGuard sig info over es g (guard_of made)

-- the same for all guards
abbrev pub AreGuardsRead : Signature → SymInfo → SortTree → List Equation → List GuardParts
    → Option (Vec Guard Global) → Type 0
AreGuardsRead sig info over es gs None = All (RepeatsSome sig info over es) gs → ⊥
AreGuardsRead sig info over es gs (Some made) =
    AllZip (MeansGuard sig info over es) gs (map guard_of made.items)

-- the order of quantified variables; none unless they are all of the variables, each once
abbrev pub IsOrder : Signature → List (List ℕ × ℕ) → List PatternTree → Option (Vec ℕ Global)
    → Type 0
IsOrder sig vars xs None = (order : List ℕ) → QuantifyEach sig vars xs order → ⊥
IsOrder sig vars xs (Some order) = QuantifyEach sig vars xs order.items

-- the equation has variables of these sorts, and these names of parts
pub record HasSameVariables (e : Equation) (s : Sides) : Type 0 where
  pub sorts : e.variables ≡ map (λ (v : List ℕ × ℕ). v.1) s.vars
  pub names : e.names ≡ names_of s.named.items

-- the equation has these patterns and this condition
pub record HasSamePatterns (e : Equation) (s : Sides) : Type 0 where
  pub arguments : e.arguments ≡ plain_patterns s.args.items
  pub condition : e.condition ≡ option_map plain_pattern s.cond

-- both
pub record AreSame (e : Equation) (s : Sides) : Type 0 where
  pub variables : HasSameVariables e s
  pub patterns : HasSamePatterns e s

-- the number of the first equation that has them, if there is one
abbrev pub IsRepeated : List Equation → Sides → Option ℕ → Type 0
IsRepeated es s None = (i : ℕ) (e : Equation) → slice_get es i ≡ Some e → AreSame e s → ⊥
IsRepeated es s (Some n) =
    ((e : Equation) × (slice_get es n ≡ Some e) × AreSame e s)
    × ((i : ℕ) (e : Equation) → i < n → slice_get es i ≡ Some e → AreSame e s → ⊥)

-- the guard that is built of these sides; none if no equation has them, or if its quantified variables
-- have no order
abbrev pub IsGuardOf : Signature → List Equation → GuardParts → Sides → Option Guard → Type 0
IsGuardOf sig es g s None =
    (i : ℕ) (e : Equation) (order : List ℕ) → slice_get es i ≡ Some e → AreSame e s
    → QuantifyEach sig s.vars g.variables order → ⊥
IsGuardOf sig es g s (Some made) =
    QuantifyEach sig s.vars g.variables made.order.items × IsRepeated es s (Some made.equation)
