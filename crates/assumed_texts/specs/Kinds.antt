-- The kinds of a program's own axioms.
use Rattle.std.specs.Prelude.{◌⊎◌, ℕ, Contains}
use Rattle.rule_core.specs.Rules.{RewriteRule, Equation}
use Rattle.rule_core.specs.Theories.{RewriteTheory, equations_of}
use Rattle.rule_core.specs.declared.signature.Signature.{Signature}
use Rattle.ml_image.specs.Sentences.{Sentence}
use Rattle.ml_image.specs.OwnAxioms.{SaysRule, SaysEquation, IsEquationFor}
use Rattle.ml_image.specs.OwnAxioms.{SaysTotal, SaysApart, SaysFree, SaysSubsort, SaysCollapse}

abbrev pub IsTotality : Signature → Sentence → Type 0
IsTotality sig s = (f : ℕ) × SaysTotal sig f s

abbrev pub IsDifference : Signature → Sentence → Type 0
IsDifference sig s = (f : ℕ) × (g : ℕ) × SaysApart sig f g s

abbrev pub IsFreedom : Signature → Sentence → Type 0
IsFreedom sig s = (f : ℕ) × SaysFree sig f s

abbrev pub IsSubsortAxiom : Signature → Sentence → Type 0
IsSubsortAxiom sig s = (a : ℕ) × (b : ℕ) × SaysSubsort sig a b s

abbrev pub IsCollapse : Signature → Sentence → Type 0
IsCollapse sig s = (a : ℕ) × (b : ℕ) × (c : ℕ) × SaysCollapse sig a b c s

-- two kinds
abbrev pub IsEither : (Sentence → Type 0) → (Sentence → Type 0) → Sentence → Type 0
IsEither P Q s = P s ⊎ Q s

abbrev pub IsOfSorts : Signature → Sentence → Type 0
IsOfSorts sig = IsEither (IsSubsortAxiom sig) (IsCollapse sig)

abbrev pub IsOfConstructors : Signature → Sentence → Type 0
IsOfConstructors sig = IsEither (IsTotality sig) (IsEither (IsDifference sig) (IsFreedom sig))

-- an axiom about constructors or sorts
abbrev pub IsStructural : Signature → Sentence → Type 0
IsStructural sig = IsEither (IsOfConstructors sig) (IsOfSorts sig)

-- a rule
abbrev pub IsRuleAxiom : RewriteTheory → Sentence → Type 0
IsRuleAxiom theory s = (r : RewriteRule) × Contains theory.rules r × SaysRule theory.sig r s

-- an equation of a function
abbrev pub IsEquationAxiom : RewriteTheory → Sentence → Type 0
IsEquationAxiom theory s =
    (f : ℕ) × (e : Equation) × IsEquationFor theory f e
    × SaysEquation theory.sig (equations_of theory f) f e s

-- a rule or an equation
abbrev pub IsWritten : RewriteTheory → Sentence → Type 0
IsWritten theory = IsEither (IsRuleAxiom theory) (IsEquationAxiom theory)
