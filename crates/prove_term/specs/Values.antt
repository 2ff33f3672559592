-- What theorems say about values: the image of a rule's pattern, with terms in place of its
-- variables, equals the image of its value; and what an equation says of a function.
use Rattle.std.specs.Prelude.{◌≡◌, ℕ, List, [], Option, Some}
use Rattle.term_core.specs.Terms.{Tree, Forest}
use Rattle.term_core.specs.Patterns.{Pattern as RulePattern, call, ground_pattern, ground_patterns}
use Rattle.ml_pat.specs.Patterns.{Pattern, equal}
use Rattle.ml_kernel.specs.Lemmas.{HasNoVariable}
use Rattle.rule_core.specs.Rules.{Equation}
use Rattle.ml_image.specs.Images.{image_of}
use Rattle.prove_term.specs.Contexts.{Context}
use Rattle.prove_term.specs.Filling.{filled}

-- The pattern P says that the image of p, with its variables replaced by the terms of a
-- substitution, equals the image of the term t. Neither image has an object variable.
pub record SaysValue (cx : Context) (theta : List (Option Tree)) (p : RulePattern) (t : Tree)
    (P : Pattern)
    : Type 0 where
  pub left : Pattern
  pub left_image : image_of cx.program.sig cx.names (filled theta p) ≡ Some left
  pub right : Pattern
  pub right_image : image_of cx.program.sig cx.names (ground_pattern t) ≡ Some right
  pub says : P ≡ equal left right
  pub no_variable : HasNoVariable left × HasNoVariable right

-- The pattern P says that the image of the function f of these terms equals the image of the
-- equation's right side, with its variables replaced by the terms of a substitution. Neither image
-- has an object variable.
pub record SaysEquationAt (cx : Context) (f : ℕ) (e : Equation) (theta : List (Option Tree))
    (ts : Forest)
    (P : Pattern) : Type 0 where
  pub left : Pattern
  pub left_image : image_of cx.program.sig cx.names (call f [] (ground_patterns ts)) ≡ Some left
  pub right : Pattern
  pub right_image : image_of cx.program.sig cx.names (filled theta e.right) ≡ Some right
  pub says : P ≡ equal left right
  pub no_variable : HasNoVariable left × HasNoVariable right
