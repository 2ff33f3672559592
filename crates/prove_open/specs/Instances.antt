-- Sentences for all of numbered variables, at patterns that may have variables of smaller numbers.
use Rattle.std.specs.Prelude.{◌≡◌, ◌+◌, ℕ, List, length}
use Rattle.ml_pat.specs.Patterns.{Pattern, imp, ex, equal, fun, var}
use Rattle.ml_pat.specs.Judgements.{IsAbsent}
use Rattle.prove_term.specs.Numbered.{all_from}
use Rattle.prove_open.specs.Values.{at_values, values_from, AreOpenBelow, BindsFrom, facts_under}

-- The sentence is for all of variables numbered from k. The facts are on as many patterns qs, which
-- have only variables below k.
pub record IsForPatterns (h sentence : Pattern) (facts : List Pattern) : Type 0 where
  pub k : ℕ
  pub numbers : List ℕ
  pub body : Pattern
  pub qs : List Pattern
  pub is : sentence ≡ all_from k numbers body
  pub binds : BindsFrom (k + length qs) body
  pub facts_are : facts ≡ facts_under h qs numbers
  pub many : length qs ≡ length numbers
  pub below : AreOpenBelow k qs

-- under the hypothesis the body holds of the patterns
abbrev pub HoldsOfPatterns : Pattern → Pattern → List Pattern → Pattern → Type 0
HoldsOfPatterns h sentence facts t =
    (f : IsForPatterns h sentence facts) → t ≡ imp h (at_values (values_from f.k f.qs) f.body)

-- under a hypothesis some element of a sort equals the pattern `made`
pub record IsSomeUnder (p : Pattern) : Type 0 where
  pub h : Pattern
  pub variable : ℕ
  pub sort : ℕ
  pub made : Pattern
  pub is : p ≡ imp h (ex variable sort (equal (var variable) made))
  pub absent : IsAbsent variable made

-- so under the hypothesis that pattern is one element of the sort
abbrev pub IsOneUnder : Pattern → Pattern → Type 0
IsOneUnder p t = (some : IsSomeUnder p) → t ≡ imp some.h (fun some.made some.sort)

-- under the hypothesis h two patterns are equal, and the first is one element of a sort
pub record AreCarried (h equality fact : Pattern) : Type 0 where
  pub left : Pattern
  pub right : Pattern
  pub sort : ℕ
  pub equals : equality ≡ imp h (equal left right)
  pub says : fact ≡ imp h (fun left sort)

-- so is the second
abbrev pub IsCarriedUnder : Pattern → Pattern → Pattern → Pattern → Type 0
IsCarriedUnder h equality fact t =
    (c : AreCarried h equality fact) → t ≡ imp h (fun c.right c.sort)

abbrev pub IsImplication : Pattern → Type 0
IsImplication t = (p : Pattern) × ((q : Pattern) × (t ≡ imp p q))
