-- Left sides whose parts have names, with terms in place of their variables, and what a theorem says
-- about them: with their names they equal the terms that they become.
use Rattle.std.specs.Prelude.{◌≡◌, ℕ, List, [], All, Option, Some, None}
use Rattle.term_core.specs.Terms.{Tree, Forest}
use Rattle.term_core.specs.Patterns.{Pattern as RulePattern, Patterns, binding, call, instance_of}
use Rattle.term_core.specs.Patterns.{instances_of, ground_pattern, ground_patterns}
use Rattle.ml_pat.specs.Patterns.{Pattern, equal}
use Rattle.ml_kernel.specs.Lemmas.{HasNoVariable}
use Rattle.ml_kernel.specs.Theorems.{Theorem}
use Rattle.rule_core.specs.NamedParts.{Name, part_instance}
use Rattle.ml_image.specs.Images.{image_of}
use Rattle.ml_image.specs.Sentences.{Sentence, term, symbol, apply, and, sentence_image}
use Rattle.ml_image.specs.NamedSides.{left_sentence, applied_sides}
use Rattle.prove_term.specs.Contexts.{Context, StaysIn}
use Rattle.prove_term.specs.Filling.{filled}

-- a sentence of patterns, symbols, applications and conjunctions, with its variables replaced by the
-- terms of a substitution; left sides have no other parts
abbrev pub filled_sentence : List (Option Tree) → Sentence → Sentence
filled_sentence theta (term p) = term (filled theta p)
filled_sentence theta (apply p q) = apply (filled_sentence theta p) (filled_sentence theta q)
filled_sentence theta (and p q) = and (filled_sentence theta p) (filled_sentence theta q)
filled_sentence theta p = p

-- each name is bound to the term that its part becomes
abbrev pub AreBoundToParts : List (Option Tree) → Patterns → List Name → Type 0
AreBoundToParts theta ps names =
    All (λ (n : Name). binding theta n.variable ≡ part_instance theta ps n.place) names

-- The pattern P says that the image of the sentence equals the image of the pattern. Neither image
-- has an object variable.
pub record SaysNamed (cx : Context) (s : Sentence) (p : RulePattern) (P : Pattern) : Type 0 where
  pub left : Pattern
  pub left_image : sentence_image cx.program.sig cx.names s ≡ Some left
  pub right : Pattern
  pub right_image : image_of cx.program.sig cx.names p ≡ Some right
  pub says : P ≡ equal left right
  pub no_variable : HasNoVariable left × HasNoVariable right

-- There is no theorem, and both images are the same. Or the theorem says that they are equal, and
-- stays in the context.
abbrev pub AreEqualSides : Context → Sentence → RulePattern → Option Theorem → Type 0
AreEqualSides cx s p None =
    sentence_image cx.program.sig cx.names s ≡ image_of cx.program.sig cx.names p
AreEqualSides cx s p (Some t) = SaysNamed cx s p t.conclusion × StaysIn cx t

-- the pattern with its names, whose variables the substitution replaces, equals its instance
abbrev pub SaysNamedImage : Context → List (Option Tree) → List Name → RulePattern → Option Theorem
    → Type 0
SaysNamedImage cx theta names p result =
    (u : Tree) → instance_of theta p ≡ Some u →
    AreEqualSides cx (filled_sentence theta (left_sentence names p)) (ground_pattern u) result

-- the same for a function of patterns with their names
abbrev pub SaysNamedCall : Context → List (Option Tree) → List Name → ℕ → Patterns → Option Theorem
    → Type 0
SaysNamedCall cx theta names f ps result =
    (us : Forest) → instances_of theta ps ≡ Some us →
    AreEqualSides cx (filled_sentence theta (applied_sides names 0 (symbol f) ps))
    (call f [] (ground_patterns us)) result
