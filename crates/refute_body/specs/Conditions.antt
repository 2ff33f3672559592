-- What follows from a body under a hypothesis, and conditions with terms in place of variables.
use Rattle.std.specs.Prelude.{◌≡◌, ℕ, List, Contains, Option, Some}
use Rattle.ml_pat.specs.Patterns.{Pattern as LogicPattern, imp, and as conj, var, equal}
use Rattle.ml_pat.specs.Judgements.{substituted}
use Rattle.ml_kernel.specs.Theorems.{Theorem}
use Rattle.term_core.specs.Terms.{Tree}
use Rattle.term_core.specs.Patterns.{Pattern, binding}
use Rattle.rule_core.specs.Matching.{OccursIn}
use Rattle.ml_image.specs.Premises.{is_true}
use Rattle.ml_image.specs.Sentences.{Sentence, sentence_image}
use Rattle.prove_term.specs.Contexts.{Context, StaysIn}
use Rattle.prove_term.specs.Filling.{filled}
use Rattle.refute.specs.Refutations.{all_bound}
use Rattle.refute_body.specs.Implications.{IsUnderTwo}

-- under the hypothesis g the body b implies the sentence
pub record SaysUnderTwo (cx : Context) (g b : LogicPattern) (s : Sentence) (p : LogicPattern)
    : Type 0 where
  pub image : LogicPattern
  pub is_image : sentence_image cx.program.sig cx.names s ≡ Some image
  pub says : p ≡ imp g (imp b image)

-- ---- conditions

-- `g -> b -> x = t` and `g -> b -> c`, where x can be replaced in c
pub record CanReplace (x : ℕ) (t equation present : LogicPattern) : Type 0 where
  pub g : LogicPattern
  pub b : LogicPattern
  pub c : LogicPattern
  pub d : LogicPattern
  pub is_equation : IsUnderTwo g b (equal (var x) t) equation
  pub is_present : IsUnderTwo g b c present
  pub keeps : substituted c x (var x) ≡ Some c
  pub replaces : substituted c x t ≡ Some d

-- the same, where the first theorem says `g -> b -> x = t & e`
pub record AreReplaceable (equations present : LogicPattern) : Type 0 where
  pub g : LogicPattern
  pub b : LogicPattern
  pub x : ℕ
  pub t : LogicPattern
  pub e : LogicPattern
  pub c : LogicPattern
  pub d : LogicPattern
  pub is_equations : IsUnderTwo g b (conj (equal (var x) t) e) equations
  pub is_present : IsUnderTwo g b c present
  pub keeps : substituted c x (var x) ≡ Some c
  pub replaces : substituted c x t ≡ Some d

-- `g -> b -> d`, where d is c with t in place of x
abbrev pub IsReplaced : LogicPattern → LogicPattern → LogicPattern → Type 0
IsReplaced equations present made =
    (g b t e c d : LogicPattern) (x : ℕ) → IsUnderTwo g b (conj (equal (var x) t) e) equations
    → IsUnderTwo g b c present → substituted c x t ≡ Some d → IsUnderTwo g b d made

-- the equations of the variables are those of the substitution, and the condition is that q is true
pub record CanFill (cx : Context) (g b : LogicPattern) (xs : List ℕ) (theta : List (Option Tree))
    (q : Pattern) (s : ℕ) (equations start : Theorem) : Type 0 where
  pub says : SaysUnderTwo cx g b (all_bound theta xs) equations.conclusion
  pub stays : StaysIn cx equations
  pub bound : (x : ℕ) → Contains xs x → (t : Tree) × (binding theta x ≡ Some t)
  pub holds : SaysUnderTwo cx g b (is_true q s) start.conclusion
  pub start_stays : StaysIn cx start

-- The theorem says that r is true, where r is q with the terms of the substitution in place of these
-- variables: so it is the same with the terms of each substitution that has these bindings.
pub record IsFilled (cx : Context) (g b : LogicPattern) (xs : List ℕ) (theta : List (Option Tree))
    (q : Pattern) (s : ℕ) (t : Theorem) : Type 0 where
  pub r : Pattern
  pub holds : SaysUnderTwo cx g b (is_true r s) t.conclusion
  pub stays : StaysIn cx t
  pub same : (sigma : List (Option Tree))
      → ((x : ℕ) (u : Tree) → Contains xs x → binding theta x ≡ Some u → binding sigma x ≡ Some u)
      → filled sigma r ≡ filled sigma q
  pub fewer : (x : ℕ) → OccursIn x r → OccursIn x q
  pub gone : (x : ℕ) → Contains xs x → OccursIn x r → ⊥
