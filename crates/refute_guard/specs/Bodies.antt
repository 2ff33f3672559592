-- What private clauses say of the bindings of an argument's variables.
use Rattle.std.specs.Prelude.{◌≡◌, ℕ, List, Some}
use Rattle.ml_pat.specs.Patterns.{Pattern as LogicPattern, equal}
use Rattle.ml_pat.specs.Patterns as logic
use Rattle.ml_pat.specs.Judgements.{substituted}
use Rattle.ml_image.specs.NamedSides.{of_child}
use Rattle.refute.specs.NamedRefutations.{variables_as_written}
use Rattle.refute_body.specs.Implications.{IsUnderTwo}
use Rattle.guard_body.specs.Arguments.{part_names_of, pattern_of}
use Rattle.guard_body.specs.declared.arguments.Argument.{Argument}

-- the variables of the argument, as it is written
abbrev pub variables_of : Argument → List ℕ
variables_of a = variables_as_written (of_child 0 (part_names_of a)) (pattern_of a)

-- `g -> b -> x = p`, `g -> b -> x = q` and `~(p = q)`, where y can be replaced in the equation
pub record AreTwoEquations (y : ℕ) (one other differ : LogicPattern) : Type 0 where
  pub g : LogicPattern
  pub b : LogicPattern
  pub x : LogicPattern
  pub p : LogicPattern
  pub q : LogicPattern
  pub is_one : IsUnderTwo g b (equal x p) one
  pub is_other : IsUnderTwo g b (equal x q) other
  pub is_differ : differ ≡ logic.not (equal p q)
  pub keeps : (u : LogicPattern) → substituted q y u ≡ Some q
