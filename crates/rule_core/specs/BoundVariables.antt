-- Programs whose variables are bound: each variable of a rule occurs in its left side, and each
-- variable of an equation occurs in its arguments. So a match binds each variable to a term. A guard
-- binds each variable of the equation that it repeats.
use Rattle.std.specs.Prelude.{◌≡◌, ◌⊎◌, ◌+◌, ◌<◌, ◌≤◌, ◌^◌, ℕ, length, Some, IfSome, Vec, slice_get}
use Rattle.std.specs.Prelude.{take}
use Rattle.std.specs.Global.{Global}
use Rattle.term_core.specs.RulePatterns.{plain_pattern}
use Rattle.term_core.specs.PatternLists.{plain_patterns}
use Rattle.rule_core.specs.Guards.{AreGuards}
use Rattle.rule_core.specs.NamedParts.{IsNamed}
use Rattle.rule_core.specs.Matching.{OccursIn, OccursInSome}
use Rattle.rule_core.specs.ProgramView.{names_of, function_equation, theory_of}
use Rattle.rule_core.specs.Theories.{equations_of}
use Rattle.rule_core.specs.declared.rules.Rule.{Rule}
use Rattle.rule_core.specs.declared.rules.Equation.{Equation}
use Rattle.rule_core.specs.declared.rules.Program.{Program}

-- each variable of the rule occurs in its left side, or is a name there, and its number fits in 32
-- bits
pub record IsBoundRule (r : Rule) : Type 0 where
  pub few : length r.vars.items < 2 ^ 32
  pub each : (x : ℕ) → x < length r.vars.items
      → OccursIn x (plain_pattern r.left) ⊎ IsNamed (names_of r.named.items) x

-- The equation is one of the function f, and each of its variables occurs in its arguments or is a
-- name there. It has no parameters, or one for each argument. The parameters and the variables
-- together can be numbered with 32 bits.
pub record IsBoundEquation (f : ℕ) (e : Equation) : Type 0 where
  pub own : e.fun.0 ≡ f
  pub parameters : (e.params ≡ 0) ⊎ (e.params ≡ length e.args.items)
  pub few : e.params + length e.vars.items ≤ 2 ^ 32
  pub each : (x : ℕ) → x < length e.vars.items
      → OccursInSome x (plain_patterns e.args.items) ⊎ IsNamed (names_of e.named.items) x

-- the equation is the one with this number among the equations of the function f
abbrev pub IsEquationAt : Program → ℕ → ℕ → Equation → Type 0
IsEquationAt program f i e =
    (es : Vec Equation Global) × (slice_get program.equations.items f ≡ Some es)
    × (slice_get es.items i ≡ Some e)

pub record HasBoundVariables (program : Program) : Type 0 where
  pub rules : (i : ℕ) (r : Rule) → slice_get program.rules.items i ≡ Some r → IsBoundRule r
  pub equations : (f i : ℕ) (e : Equation) → IsEquationAt program f i e → IsBoundEquation f e
  pub guards : (f i : ℕ) (e : Equation) → IsEquationAt program f i e →
      IfSome (function_equation e).last_resort
      (AreGuards program.sig (take i (equations_of (theory_of program) f)) (function_equation e))
