-- What is proved of guards of equations of the last resort: that they do not hold at terms, given why
-- the equations that they repeat are not used there.
pub use Rattle.guard_body.specs.Guarded.{IsOrderOf, IsAppliedTo}
use Rattle.std.specs.Prelude.{◌≡◌, ◌+◌, ℕ, List, [], ◌∷◌, length, Option, Some}
use Rattle.std.specs.Prelude.{slice_get}
use Rattle.ml_kernel.specs.Theorems.{Theorem}
use Rattle.term_core.specs.Terms.{Tree, Forest}
use Rattle.term_core.specs.Patterns.{Pattern}
use Rattle.rule_core.specs.Evaluation.{MatchesBy, IsUnmatchedBy}
use Rattle.rule_core.specs.ProgramView.{theory_of}
use Rattle.rule_core.specs.Rules.{Equation, Guard}
use Rattle.ml_image.specs.Premises.{sort_of, is_true}
use Rattle.ml_image.specs.Sentences.{Sentence, bottom, not, implies, sentence_image}
use Rattle.prove_term.specs.Contexts.{Context, StaysIn}
use Rattle.prove_term.specs.Filling.{filled}
use Rattle.prove_term.specs.GuardsAt.{guard_at, guards_at}
use Rattle.refute_guard.specs.declared.guards.Missed.{Missed}
use Rattle.refute_guard.specs.declared.guards.Missed.TheVariants.{NoMatch, ConditionFalse}

-- the equation matches the terms by the substitution, and the theorem says that its condition, with
-- the terms of the substitution in place of its variables, is not true
pub record FailsAt (cx : Context) (e : Equation) (ts : Forest) (theta : List (Option Tree))
    (t : Theorem) : Type 0 where
  pub matches : MatchesBy (theory_of cx.program) e ts theta
  pub condition : Pattern
  pub is_condition : e.condition ≡ Some condition
  pub sort : ℕ
  pub is_sort : sort_of cx.program.sig e.variables condition ≡ Some sort
  pub says : sentence_image cx.program.sig cx.names (not (is_true (filled theta condition) sort))
      ≡ Some t.conclusion
  pub no_hypotheses : t.hypotheses ≡ []
  pub stays : StaysIn cx t

-- this is why the equation is not used at the terms
abbrev pub IsMissed : Context → Equation → Forest → Missed → Type 0
IsMissed cx e ts NoMatch = IsUnmatchedBy (theory_of cx.program) e ts
IsMissed cx e ts (ConditionFalse theta t) = FailsAt cx e ts theta.now t.now

-- The theorem says that the guard that repeats this equation does not hold at the terms. Its
-- variables are numbered from k, in this order.
pub record DeniesGuard (cx : Context) (k : ℕ) (order : List ℕ) (ts : Forest) (e : Equation)
    (t : Theorem) : Type 0 where
  pub guard : Sentence
  pub is_guard : guard_at cx.program.sig k order ts (Some e) ≡ Some guard
  pub says : sentence_image cx.program.sig cx.names (implies guard bottom) ≡ Some t.conclusion
  pub no_hypotheses : t.hypotheses ≡ []
  pub stays : StaysIn cx t

-- Each theorem says this of one of the guards, in order. Their variables are numbered from k, and on
-- from guard to guard.
abbrev pub DenyGuards : Context → List Equation → ℕ → List Guard → Forest → List Theorem → Type 0
DenyGuards cx equations k [] ts [] = Unit {0}
DenyGuards cx equations k [] ts (d ∷ ds) = ⊥
DenyGuards cx equations k (g ∷ gs) ts [] = ⊥
DenyGuards cx equations k (g ∷ gs) ts (d ∷ ds) =
    ((e : Equation) × (slice_get equations g.equation ≡ Some e)
    × DeniesGuard cx k g.order ts e d)
    × DenyGuards cx equations (k + length g.order) gs ts ds

-- the theorem says that none of the guards holds at the terms
pub record SaysNoGuard (cx : Context) (equations : List Equation) (k : ℕ) (gs : List Guard)
    (ts : Forest) (t : Theorem) : Type 0 where
  pub guards : Sentence
  pub are_guards : guards_at cx.program.sig equations k gs ts ≡ Some guards
  pub says : sentence_image cx.program.sig cx.names (not guards) ≡ Some t.conclusion
  pub no_hypotheses : t.hypotheses ≡ []
  pub stays : StaysIn cx t
