-- An equation with the variables of a guard that repeats it, and terms at which it is not used.
use Rattle.std.specs.Prelude.{◌≡◌, ℕ, List, Option}
use Rattle.std.specs.Prelude.{Some, slice_get}
use Rattle.ml_kernel.specs.Theorems.{Theorem}
use Rattle.term_core.specs.Terms.{Tree}
use Rattle.term_core.specs.Patterns.{Pattern, binding}
use Rattle.rule_core.specs.Matching.{OccursIn}
use Rattle.ml_image.specs.Premises.{is_true}
use Rattle.ml_image.specs.Sentences.{Sentence, not, sentence_image}
use Rattle.prove_term.specs.Contexts.{Context, StaysIn}
use Rattle.prove_term.specs.Filling.{filled}
use Rattle.refute_body.specs.Conditions.{SaysUnderTwo}
use Rattle.refute_guard.specs.declared.guards.Missed.{Missed}
use Rattle.refute_guard.specs.declared.guards.Missed.TheVariants.{NoMatch, ConditionFalse}
use Rattle.guard_body.specs.Arguments.{IsVariableOf, MatchTogether}
use Rattle.guard_body.specs.declared.arguments.Argument.{Argument}
use Rattle.guard_body.specs.declared.guarded.Guarded.{Guarded}

-- ---- why the equation is not used

-- The condition is that q is true. Each of its variables is one of an argument. The theorem says that
-- q is not true with the terms of `theta` in place of its variables. Substitutions that match the
-- arguments, if they are one, have only bindings of `theta`.
pub record FailsTogether (cx : Context) (sorts : List ℕ) (arguments : List Argument)
    (c : Sentence) (t : Theorem) : Type 0 where
  pub q : Pattern
  pub sort : ℕ
  pub is : c ≡ is_true q sort
  pub theta : List (Option Tree)
  pub says : sentence_image cx.program.sig cx.names (not (is_true (filled theta q) sort))
      ≡ Some t.conclusion
  pub stays : StaysIn cx t
  pub uses : (x : ℕ) → OccursIn x q
      → (i : ℕ) × (a : Argument) × (slice_get arguments i ≡ Some a) × IsVariableOf a x
  pub bindings : (found : List (List (Option Tree)))
      → MatchTogether cx.program.sig sorts arguments found
      → (i x : ℕ) (sigma : List (Option Tree)) (u : Tree) → slice_get found i ≡ Some sigma
      → binding sigma x ≡ Some u → binding theta x ≡ Some u

-- this is why the equation of these arguments and this condition is not used at the terms
abbrev pub IsMissedHere : Context → List ℕ → List Argument → Sentence → Missed → Type 0
IsMissedHere cx sorts arguments c NoMatch =
    (found : List (List (Option Tree))) → MatchTogether cx.program.sig sorts arguments found → ⊥
IsMissedHere cx sorts arguments c (ConditionFalse subst t) =
    FailsTogether cx sorts arguments c t.now

-- ---- what follows from the guard

-- the theorem says this of the guard's body
pub record IsOfBody (cx : Context) (x : Guarded) (s : Sentence) (t : Theorem) : Type 0 where
  pub says : SaysUnderTwo cx x.given.hypothesis x.body s t.conclusion
  pub stays : StaysIn cx t
