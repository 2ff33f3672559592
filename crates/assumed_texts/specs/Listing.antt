-- Images of rules and equations that were listed.
use Rattle.std.specs.Prelude.{◌≡◌, ◌⊎◌, ◌<◌, ℕ, List, Some, Contains, slice_get}
use Rattle.mm_text.specs.Bytes.{Token}
use Rattle.ml_pat.specs.Patterns.{Pattern}
use Rattle.rule_core.specs.Rules.{RewriteRule, Equation}
use Rattle.rule_core.specs.Theories.{RewriteTheory, equations_of}
use Rattle.rule_core.specs.Sorting.{IsSymbol}
use Rattle.rule_core.specs.declared.signature.Signature.{Signature}
use Rattle.rule_core.specs.declared.signature.SymInfo.{SymInfo}
use Rattle.rule_core.specs.declared.signature.SymKind.TheVariants.{Equations}
use Rattle.ml_image.specs.OwnAxioms.{SaysRule, SaysEquation, IsEquationFor}
use Rattle.ml_image.specs.Sentences.{Sentence, sentence_image, IsImageOf}
use Rattle.assumed_texts.specs.Kinds.{IsWritten, IsRuleAxiom}

-- Each is the image of a rule or of an equation, and each sentence with this property has its image
-- among them.
pub record Lists (theory : RewriteTheory) (names : List Token) (P : Sentence → Type 0)
    (images : List Pattern) : Type 0 where
  pub sound : (p : Pattern) → Contains images p → IsImageOf theory.sig names (IsWritten theory) p
  pub complete : (s : Sentence) → P s
      → (p : Pattern) × Contains images p × (sentence_image theory.sig names s ≡ Some p)

-- one of the first n rules
abbrev pub IsRuleBefore : RewriteTheory → ℕ → Sentence → Type 0
IsRuleBefore theory n s =
    (k : ℕ) × (r : RewriteRule) × (k < n) × (slice_get theory.rules k ≡ Some r)
    × SaysRule theory.sig r s

-- one of the first n equations of the function f
abbrev pub IsEquationBefore : RewriteTheory → ℕ → ℕ → Sentence → Type 0
IsEquationBefore theory f n s =
    (k : ℕ) × (e : Equation) × (k < n) × (slice_get (equations_of theory f) k ≡ Some e)
    × IsEquationFor theory f e × SaysEquation theory.sig (equations_of theory f) f e s

-- an equation of one of the first n functions
abbrev pub IsOfFunctionBefore : RewriteTheory → ℕ → Sentence → Type 0
IsOfFunctionBefore theory n s =
    (f : ℕ) × (e : Equation) × (f < n) × IsEquationFor theory f e
    × SaysEquation theory.sig (equations_of theory f) f e s

-- a rule, or an equation of one of the first n functions
abbrev pub IsBefore : RewriteTheory → ℕ → Sentence → Type 0
IsBefore theory n s = IsRuleAxiom theory s ⊎ IsOfFunctionBefore theory n s

-- one of those, or one of the first n equations of the function f
abbrev pub IsBeforeEquation : RewriteTheory → ℕ → ℕ → Sentence → Type 0
IsBeforeEquation theory f n s = IsBefore theory f s ⊎ IsEquationBefore theory f n s

-- the symbol is a function that is defined by equations
abbrev pub IsDefined : Signature → ℕ → Type 0
IsDefined sig f = (info : SymInfo) × IsSymbol sig f info × (info.kind ≡ Equations)
