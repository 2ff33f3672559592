-- What a program may assume, as patterns under a numbering of tokens.
use Rattle.std.specs.Prelude.{◌≡◌, ℕ, ◌+◌, ◌<◌, ◌≤◌, ◌^◌, true, List, length, Contains, Some}
use Rattle.mm_text.specs.Bytes.{Token}
use Rattle.ml_pat.specs.Patterns.{Pattern, nullary, unary, binary, sorted, quantified, var, meta}
use Rattle.ml_pat.specs.Patterns.{constant}
use Rattle.ml_pat.specs.Judgements.{fresh}
use Rattle.ml_pat.specs.Leaves.{LeafFacts, EachLeaf}
use Rattle.term_core.specs.Patterns.{Pattern as RulePattern}
use Rattle.rule_core.specs.Rules.{RewriteRule, Equation, Guard}
use Rattle.rule_core.specs.Theories.{RewriteTheory, equations_of}
use Rattle.ml_image.specs.Assumed.{IsAssumed}
use Rattle.ml_image.specs.HasImages.{after_guards}
use Rattle.ml_image.specs.Images.{image_of}
use Rattle.ml_image.specs.Sentences.{Sentence, sentence_image}
use Rattle.mm_proof.specs.Tokens.{name_of}

-- The pattern with its sorts and constants numbered in another way. Its numbers are those of tokens
-- among the names. They become the numbers that the tokens have by themselves.
abbrev pub numbered : (Token → ℕ) → List Token → Pattern → Pattern
numbered number names (nullary c) = nullary c
numbered number names (unary c p) = unary c (numbered number names p)
numbered number names (binary c p q) =
    binary c (numbered number names p) (numbered number names q)
numbered number names (sorted c p s) =
    sorted c (numbered number names p) (number (name_of names s))
numbered number names (quantified c x s p) =
    quantified c x (number (name_of names s)) (numbered number names p)
numbered number names (var x) = var x
numbered number names (meta i) = meta i
numbered number names (constant c) = constant (number (name_of names c))

-- p is the image of a, under a numbering of tokens
pub record IsNumberedImage (theory : RewriteTheory) (number : Token → ℕ) (a : RulePattern)
    (p : Pattern) : Type 0 where
  pub names : List Token
  pub image : Pattern
  pub image_is : image_of theory.sig names a ≡ Some image
  pub is : p ≡ numbered number names image

-- p is the image of what a program may assume, under a numbering of tokens
pub record IsAssumedPattern (theory : RewriteTheory) (number : Token → ℕ) (p : Pattern) :
    Type 0 where
  pub names : List Token
  pub sentence : Sentence
  pub image : Pattern
  pub assumed : IsAssumed theory sentence
  pub image_is : sentence_image theory.sig names sentence ≡ Some image
  pub is : p ≡ numbered number names image

-- ---- closed axioms

-- each object variable has a number below 2^64, so that different ones have different tokens
abbrev pub few_variables : LeafFacts
few_variables = record {
  sort = λ i. Unit {0};
  constant = λ i. Unit {0};
  object = λ x. x < 2 ^ 64;
  meta = λ i. Unit {0};
}

-- No variable is free in the image of what the program may assume. Different variables of the image
-- have different tokens.
pub record AssumesClosed (theory : RewriteTheory) : Type 0 where
  pub closed : (s : Sentence) (names : List Token) (p : Pattern) (x : ℕ) → IsAssumed theory s
      → sentence_image theory.sig names s ≡ Some p → fresh x p ≡ true
  pub few : (s : Sentence) (names : List Token) (p : Pattern) → IsAssumed theory s
      → sentence_image theory.sig names s ≡ Some p → EachLeaf few_variables p

-- a rule, and an equation with its parameters and its guards, have at most 2^64 variables
pub record HasFewVariables (theory : RewriteTheory) : Type 0 where
  pub rules : (r : RewriteRule) → Contains theory.rules r → length r.variables ≤ 2 ^ 64
  pub equations : (f : ℕ) (e : Equation) → Contains (equations_of theory f) e
      → e.parameters + length e.variables ≤ 2 ^ 64
  pub guards : (f : ℕ) (e : Equation) (guards : List Guard) → Contains (equations_of theory f) e
      → e.last_resort ≡ Some guards
      → after_guards (e.parameters + length e.variables) guards ≤ 2 ^ 64
