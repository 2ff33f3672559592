-- Hypotheses on variables, taken apart.
use Rattle.std.specs.Prelude.{◌≡◌, ℕ, List, Contains, Option, Some, slice_get}
use Rattle.ml_pat.specs.Patterns.{Pattern, and, imp}
use Rattle.ml_kernel.specs.Theorems.{Theorem}
use Rattle.rule_core.specs.declared.signature.Signature.{Signature}
use Rattle.ml_image.specs.Sentences.{sentence_image}
use Rattle.prove_term.specs.Contexts.{Context}
use Rattle.prove_open.specs.Givens.{IsFactOn, all_sorted}

-- the pattern is such a hypothesis, among some names
abbrev pub IsHypothesis : List ℕ → List ℕ → Pattern → Type 0
IsHypothesis sorts variables h =
    (sig : Signature) × (names : List (List ℕ))
    × (sentence_image sig names (all_sorted sorts variables) ≡ Some h)

-- each theorem is a fact on its variable, and there is one on each of the variables
pub record AreFacts (cx : Context) (sorts variables : List ℕ) (h : Pattern)
    (facts : List (Option Theorem)) : Type 0 where
  pub are : (x : ℕ) (t : Theorem) → slice_get facts x ≡ Some (Some t) → IsFactOn cx sorts h x t
  pub there : (x : ℕ) → Contains variables x
      → (t : Theorem) × (slice_get facts x ≡ Some (Some t))

-- so it is in each context in which the pattern is the hypothesis
abbrev pub GivesFacts : List ℕ → List ℕ → Pattern → List (Option Theorem) → Type 0
GivesFacts sorts variables h facts =
    (cx : Context) → sentence_image cx.program.sig cx.names (all_sorted sorts variables) ≡ Some h
    → AreFacts cx sorts variables h facts

-- `h -> p & q`
pub record IsConjoined (t : Pattern) : Type 0 where
  pub h : Pattern
  pub p : Pattern
  pub q : Pattern
  pub is : t ≡ imp h (and p q)

abbrev pub IsFirst : Pattern → Pattern → Type 0
IsFirst both t = (c : IsConjoined both) → t ≡ imp c.h c.p

abbrev pub IsSecond : Pattern → Pattern → Type 0
IsSecond both t = (c : IsConjoined both) → t ≡ imp c.h c.q
