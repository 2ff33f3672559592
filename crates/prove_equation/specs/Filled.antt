-- What an equation says of its function at terms, with the arguments as they are written, and how
-- this becomes what it says with the arguments in normal form.
use Rattle.std.specs.Prelude.{◌≡◌, ℕ, List, [], ◌∷◌, Option, Some, None, length}
use Rattle.term_core.specs.Terms.{Tree}
use Rattle.ml_pat.specs.Patterns.{Pattern, equal}
use Rattle.ml_kernel.specs.Lemmas.{HasNoVariable}
use Rattle.ml_kernel.specs.Theorems.{Theorem}
use Rattle.rule_core.specs.Rules.{Equation}
use Rattle.rule_core.specs.Theories.{equations_of}
use Rattle.rule_core.specs.ProgramView.{theory_of}
use Rattle.rule_core.specs.Matching.{RespectsSorts}
use Rattle.ml_image.specs.Images.{image_of}
use Rattle.ml_image.specs.HasImages.{HasEquationImage}
use Rattle.ml_image.specs.NamedSides.{applied_sides}
use Rattle.ml_image.specs.Sentences.{symbol, sentence_image}
use Rattle.prove_term.specs.Contexts.{Context, StaysInWith}
use Rattle.prove_term.specs.Filling.{filled}
use Rattle.prove_term.specs.FilledSides.{filled_sentence}
use Rattle.prove_equation.specs.Conditions.{BindsEach, SaysCondition}
use Rattle.prove_equation.specs.EquationLemmas.{IsEquationLemma}

-- the lemma of a direct equation, which has no parameters, may be used with this substitution
pub record CanFill (cx : Context) (f : ℕ) (e : Equation) (lemma : Theorem)
    (theta : List (Option Tree))
    (o : Option Theorem) : Type 0 where
  pub image : HasEquationImage cx.program.sig (equations_of (theory_of cx.program) f) f e
  pub direct : e.parameters ≡ 0
  pub is_lemma : IsEquationLemma cx f e lemma
  pub room : length theta ≡ length e.variables
  pub respects : RespectsSorts cx.program.sig e.variables theta
  pub bound : BindsEach e.variables theta
  pub condition : SaysCondition cx e.variables theta e.condition o

-- The pattern says that the image of the function f of the equation's arguments, whose parts may have
-- names, equals the image of the right side. The variables of both are replaced by the terms of a
-- substitution.
pub record SaysFilledEquation (cx : Context) (f : ℕ) (e : Equation) (theta : List (Option Tree))
    (p : Pattern) : Type 0 where
  pub left : Pattern
  pub left_image : sentence_image cx.program.sig cx.names
      (filled_sentence theta (applied_sides e.names 0 (symbol f) e.arguments)) ≡ Some left
  pub right : Pattern
  pub right_image : image_of cx.program.sig cx.names (filled theta e.right) ≡ Some right
  pub says : p ≡ equal left right
  pub no_variable : HasNoVariable left × HasNoVariable right

-- `made` is `p = r`, and the theorem, if there is one, is `p = q`
abbrev pub CanTurn : Pattern → Option Theorem → Type 0
CanTurn made None = Unit {0}
CanTurn made (Some t) =
    (p : Pattern) × (q : Pattern) × (r : Pattern) × (t.conclusion ≡ equal p q) × (made ≡ equal p r)
    × HasNoVariable p
    × HasNoVariable q
    × HasNoVariable r

-- the result is `q = r`, or `made` itself if there is no theorem
abbrev pub IsTurned : Theorem → Option Theorem → Theorem → Type 0
IsTurned made None turned = turned ≡ made
IsTurned made (Some t) turned =
    (p q r : Pattern) → t.conclusion ≡ equal p q → made.conclusion ≡ equal p r
    → turned.conclusion ≡ equal q r

abbrev pub StaysTurned : Context → Theorem → Option Theorem → Theorem → Type 0
StaysTurned cx made None turned = turned ≡ made
StaysTurned cx made (Some t) turned = StaysInWith cx [] (t ∷ made ∷ []) turned
