-- What is known of a pattern while it is proved to be one element of its sort.
use Rattle.std.specs.Prelude.{◌≡◌, ℕ, List}
use Rattle.std.specs.List.{AllZip}
use Rattle.term_core.specs.Patterns.{Pattern, ground_pattern}
use Rattle.term_core.specs.RulePatterns.{plain_pattern}
use Rattle.term_core.specs.declared.rule_patterns.RulePat.{RulePat}
use Rattle.prove_term.specs.Contexts.{Context}
use Rattle.prove_open.specs.Elements.{IsElementUnder}
use Rattle.prove_open.specs.declared.givens.Given.{Given}
use Rattle.prove_open.specs.declared.known.Known.{Known}
use Rattle.prove_open.specs.declared.known.Known.TheVariants.{Term, Element}

-- if it is known that the pattern is a term, it is that term
abbrev pub IsTheTerm : Pattern → Known → Type 0
IsTheTerm p (Term t) = p ≡ ground_pattern t
IsTheTerm p (Element thm) = Unit {0}

-- the pattern is this term, or the theorem says that it is one element of its sort
abbrev pub IsKnown : Context → List ℕ → Given → Pattern → Known → Type 0
IsKnown cx sorts g p (Term t) = p ≡ ground_pattern t
IsKnown cx sorts g p (Element thm) = IsElementUnder cx sorts g p thm

-- the same for each of several patterns
abbrev pub AreTheTerms : List RulePat → List Known → Type 0
AreTheTerms ps parts = AllZip (λ p k. IsTheTerm (plain_pattern p) k) ps parts

abbrev pub AreKnown : Context → List ℕ → Given → List RulePat → List Known → Type 0
AreKnown cx sorts g ps parts = AllZip (λ p k. IsKnown cx sorts g (plain_pattern p) k) ps parts
