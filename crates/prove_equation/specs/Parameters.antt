-- Terms for an equation's parameters: what is bound to the parameters, and that each is a member of
-- its argument.
use Rattle.std.specs.Prelude.{◌≡◌, ◌+◌, ℕ, List, [], ◌∷◌, Option, Some, None}
use Rattle.ml_pat.specs.Patterns.{Pattern, equal, fun, member, var}
use Rattle.ml_kernel.specs.Lemmas.{HasNoVariable}
use Rattle.ml_kernel.specs.Theorems.{Theorem}
use Rattle.ml_derived.specs.Scopes.{StaysWithin}
use Rattle.term_core.specs.Terms.{Tree}
use Rattle.term_core.specs.Patterns.{Pattern as RulePattern, Patterns as RulePatterns, no_pattern}
use Rattle.term_core.specs.Patterns.{more_patterns, ground_pattern}
use Rattle.rule_core.specs.NamedParts.{Name}
use Rattle.ml_image.specs.Images.{image_of}
use Rattle.ml_image.specs.NamedSides.{left_sentence, of_child}
use Rattle.ml_image.specs.Sentences.{sentence_image}
use Rattle.prove_term.specs.Contexts.{Context, StaysIn}
use Rattle.prove_term.specs.FilledSides.{filled_sentence}

-- the terms of the list, and after them the bindings of the substitution
abbrev pub behind_terms : List Tree → List (Option Tree) → List (Option Tree)
behind_terms [] theta = theta
behind_terms (t ∷ ts) theta = Some t ∷ behind_terms ts theta

-- The pattern says that the image of the term u is a member of the image of p, whose parts have these
-- names. The variables of p are replaced by the terms of a substitution.
pub record SaysMember (cx : Context) (theta : List (Option Tree)) (names : List Name)
    (p : RulePattern) (u : Tree) (q : Pattern) : Type 0 where
  pub element : Pattern
  pub element_image : image_of cx.program.sig cx.names (ground_pattern u) ≡ Some element
  pub whole : Pattern
  pub whole_image : sentence_image cx.program.sig cx.names
      (filled_sentence theta (left_sentence names p)) ≡ Some whole
  pub says : q ≡ member element whole

-- the theorem says this, and stays in the context
abbrev pub IsMembership : Context → List (Option Tree) → List Name → RulePattern → Tree → Theorem
    → Type 0
IsMembership cx theta names p u t = SaysMember cx theta names p u t.conclusion × StaysIn cx t

-- the same for each of the patterns, in order, of which the first is argument k
abbrev pub AreMemberships : Context → List (Option Tree) → List Name → ℕ → RulePatterns → List Tree
    → List Theorem → Type 0
AreMemberships cx theta names k no_pattern [] [] = Unit {0}
AreMemberships cx theta names k no_pattern [] (t ∷ ts) = ⊥
AreMemberships cx theta names k no_pattern (u ∷ us) ts = ⊥
AreMemberships cx theta names k (more_patterns p ps) [] ts = ⊥
AreMemberships cx theta names k (more_patterns p ps) (u ∷ us) [] = ⊥
AreMemberships cx theta names k (more_patterns p ps) (u ∷ us) (t ∷ ts) =
    IsMembership cx theta (of_child k names) p u t × AreMemberships cx theta names (k + 1) ps us ts

-- the pattern says that some pattern is one element of a sort
abbrev pub SaysElement : Pattern → Type 0
SaysElement q = (p : Pattern) × (n : ℕ) × (q ≡ fun p n)

-- if the fact says that p is one element of a sort, the theorem says that p is a member of itself
abbrev pub IsInItself : Theorem → Theorem → Type 0
IsInItself fact t = (p : Pattern) (n : ℕ) → fact.conclusion ≡ fun p n → t.conclusion ≡ member p p

-- `itself` is `q in q`, and the theorem, if there is one, is `p = q`
abbrev pub CanEnter : Pattern → Option Theorem → Type 0
CanEnter itself None = Unit {0}
CanEnter itself (Some t) =
    (p : Pattern) × (q : Pattern) × (t.conclusion ≡ equal p q) × (itself ≡ member q q)
    × HasNoVariable p
    × HasNoVariable q

-- the result is `q in p`, or `itself` if there is no theorem
abbrev pub IsEntered : Theorem → Option Theorem → Theorem → Type 0
IsEntered itself None entered = entered ≡ itself
IsEntered itself (Some t) entered =
    (p q : Pattern) → t.conclusion ≡ equal p q → itself.conclusion ≡ member q q → HasNoVariable q →
    entered.conclusion ≡ member q p

abbrev pub StaysEntered : Theorem → Option Theorem → Theorem → Type 0
StaysEntered itself None entered = entered ≡ itself
StaysEntered itself (Some t) entered = StaysWithin (var 0 ∷ []) (t ∷ itself ∷ []) entered

abbrev pub IsEquality : Pattern → Type 0
IsEquality e = (p : Pattern) × (q : Pattern) × (e ≡ equal p q)

-- if the equality is `q = p`, the pattern is `q in x:0`
abbrev pub IsInHole : Pattern → Pattern → Type 0
IsInHole e c = (q p : Pattern) → e ≡ equal q p → c ≡ member q (var 0)
