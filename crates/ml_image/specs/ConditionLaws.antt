-- The statements of a well-sorted theory that have images. The conditions are those that acceptance
-- establishes, and bounds on the number of variables.
use Rattle.std.specs.Prelude.{◌≡◌, ◌≤◌, ◌<◌, ◌+◌, ◌^◌, ◌⊎◌, ℕ, List, length, Contains}
use Rattle.term_core.specs.Patterns.{Pattern}
use Rattle.rule_core.specs.Rules.{RewriteRule, Equation}
use Rattle.rule_core.specs.Theories.{RewriteTheory, equations_of}
use Rattle.rule_core.specs.Sorting.{HasSort, IsSymbol}
use Rattle.rule_core.specs.WellSorted.{IsSignature, IsWellSorted}
use Rattle.rule_core.specs.declared.signature.Signature.{Signature}
use Rattle.rule_core.specs.declared.signature.SymInfo.{SymInfo}
use Rattle.rule_core.specs.declared.signature.SymKind.TheVariants.{Ctor, Equations}
use Rattle.ml_image.specs.HasImages.{HasImage, HasRuleImage, HasEquationImage, HasTotality}
use Rattle.ml_image.specs.HasImages.{HasFittingGuards, count_of}

-- a well-sorted pattern has an image
abbrev pub SortedHasImage : Type 0
SortedHasImage =
    (sig : Signature) (variables : List ℕ) (p : Pattern) (sort : ℕ) → IsSignature sig
    → HasSort sig variables p sort →
    HasImage sig (length variables) p

-- a rule has an image
abbrev pub RuleHasImage : Type 0
RuleHasImage =
    (theory : RewriteTheory) (r : RewriteRule) → IsWellSorted theory → Contains theory.rules r →
    length r.variables ≤ 2 ^ 32 → HasRuleImage theory.sig r

-- an equation has an image, if it has no parameters or one for each argument, and its guards fit
abbrev pub EquationHasImage : Type 0
EquationHasImage =
    (theory : RewriteTheory) (f : ℕ) (info : SymInfo) (e : Equation) → IsWellSorted theory
    → IsSymbol theory.sig f info →
    info.kind ≡ Equations → Contains (equations_of theory f) e
    → e.parameters + length e.variables ≤ 2 ^ 32 →
    (e.parameters ≡ 0) ⊎ (e.parameters ≡ count_of e.arguments)
    → HasFittingGuards (equations_of theory f) e
    → HasEquationImage theory.sig (equations_of theory f) f e

-- the totality of a constructor has an image
abbrev pub ConstructorHasTotality : Type 0
ConstructorHasTotality =
    (sig : Signature) (f : ℕ) (info : SymInfo) → IsSignature sig → IsSymbol sig f info
    → info.kind ≡ Ctor →
    length info.args.items < 2 ^ 31 → HasTotality sig f
