-- Rules and equations in the order of trial, and the equations of each function.
use Rattle.std.specs.Prelude.{◌==◌, ℕ, Bool, false, List, [], Vec, map, Option, Some, None}
use Rattle.std.specs.Prelude.{slice_index_or, slice_get}
use Rattle.std.specs.Global.{Global}
use Rattle.rule_core.specs.declared.rules.Equation.{Equation}
use Rattle.rule_core.specs.declared.rules.Rule.{Rule}
use Rattle.rule_core.specs.declared.signature.SymInfo.{SymInfo}
use Rattle.rule_core.specs.KindTests.{is_defined_kind}

-- the priority and the place, by which rules are sorted
abbrev pub rule_key : Rule → ℕ × ℕ
rule_key r = (r.priority, r.at)

abbrev pub equation_key : Equation → ℕ × ℕ
equation_key e = (e.priority, e.at)

-- the function has the values of its equations
abbrev pub is_by_equations : Option (List ℕ × SymInfo) → Bool
is_by_equations None = false
is_by_equations (Some e) = is_defined_kind e.1.kind

abbrev pub has_equations : List (List ℕ × SymInfo) → ℕ → Bool
has_equations symbols n = is_by_equations (slice_get symbols n)

-- the equation is one of the function with this number
abbrev pub is_of : ℕ → Equation → Bool
is_of n e = e.fun.0 == n

-- the equations that are listed for the function with this number
abbrev pub listed_at : List (Vec Equation Global) → ℕ → List Equation
listed_at lists n = slice_index_or (map (λ (es : Vec Equation Global). es.items) lists) n []
