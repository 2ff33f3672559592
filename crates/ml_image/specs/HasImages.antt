-- The conditions under which an image can be made: the sorts and symbols belong to the signature,
-- and each value is a value of its sort.
pub use Rattle.rule_core.specs.Guards.{after_guards}
use Rattle.std.specs.Prelude.{◌≡◌, ◌≢◌, ◌<◌, ◌≤◌, ◌+◌, ◌^◌, ℕ, true, false, IsSome, List, [], ◌∷◌}
use Rattle.std.specs.Prelude.{length, slice_get, Option, Some, None, IfSome, ◌⊎◌, suc, All}
use Rattle.term_core.specs.Terms.{truth}
use Rattle.term_core.specs.Patterns.{Pattern, Patterns, variable, domain_value, application}
use Rattle.term_core.specs.Patterns.{injection, call, no_pattern, more_patterns}
use Rattle.rule_core.specs.Rules.{RewriteRule, Equation, Guard}
use Rattle.rule_core.specs.NamedParts.{Name}
use Rattle.rule_core.specs.Sorting.{HasValue, AreSorts}
use Rattle.rule_core.specs.declared.signature.Signature.{Signature}
use Rattle.rule_core.specs.declared.signature.SymInfo.{SymInfo}
use Rattle.ml_image.specs.Images.{injection_symbol}
use Rattle.ml_image.specs.Premises.{sort_of}
use Rattle.ml_image.specs.OwnAxioms.{Declares, IsConstructor}
use Rattle.ml_image.specs.Sides.{AreApart}

-- The pattern has an image: its variables have numbers below n, its sorts and symbols belong to the
-- signature, and each domain value is a value of its sort.
abbrev mutual
  pub HasImage : Signature → ℕ → Pattern → Type 0
  HasImage sig n (variable x) = x < n
  HasImage sig n (domain_value s v) = HasValue sig s v
  HasImage sig n (application f ps) = (f < length sig.symbols) × HaveImages sig n ps
  HasImage sig n (injection a b p) =
      IsSome (injection_symbol sig) × AreSorts sig (a ∷ b ∷ []) × HasImage sig n p
  HasImage sig n (call f ss ps) = (f < length sig.symbols) × AreSorts sig ss × HaveImages sig n ps

  pub HaveImages : Signature → ℕ → Patterns → Type 0
  HaveImages sig n no_pattern = Unit {0}
  HaveImages sig n (more_patterns p ps) = HasImage sig n p × HaveImages sig n ps

-- the number of patterns
abbrev pub count_of : Patterns → ℕ
count_of no_pattern = 0
count_of (more_patterns p ps) = suc (count_of ps)

-- a condition, if there is one, has an image and a sort of truth values
pub record IsTruth (sig : Signature) (sorts : List ℕ) (p : Pattern) : Type 0 where
  pub image : HasImage sig (length sorts) p
  pub sort : ℕ
  pub sorted : sort_of sig sorts p ≡ Some sort
  pub truths : HasValue sig sort (truth true)

abbrev pub IsCondition : Signature → List ℕ → Option Pattern → Type 0
IsCondition sig sorts None = Unit {0}
IsCondition sig sorts (Some p) = IsTruth sig sorts p

-- the variables of the names are below n
abbrev pub AreNamesBelow : ℕ → List Name → Type 0
AreNamesBelow n names = All (λ (m : Name). m.variable < n) names

-- the rule has an image
pub record HasRuleImage (sig : Signature) (r : RewriteRule) : Type 0 where
  pub few : length r.variables ≤ 2 ^ 32
  pub sorts : AreSorts sig r.variables
  pub left : HasImage sig (length r.variables) r.left
  pub names : AreNamesBelow (length r.variables) r.names
  pub condition : IsCondition sig r.variables r.condition
  pub right : HasImage sig (length r.variables) r.right

-- the function has arguments of these sorts, and the equation has one parameter and one pattern for
-- each
pub record HasParameters (sig : Signature) (f : ℕ) (e : Equation) : Type 0 where
  pub info : SymInfo
  pub sorts : List ℕ
  pub sort : ℕ
  pub declared : Declares sig f info sorts sort
  pub are_sorts : AreSorts sig sorts
  pub as_many : e.parameters ≡ length sorts
  pub each : e.parameters ≡ count_of e.arguments

-- the condition of the equation has an image, and so have its arguments
pub record HasPremise (sig : Signature) (e : Equation) : Type 0 where
  pub sorts : AreSorts sig e.variables
  pub arguments : HaveImages sig (length e.variables) e.arguments
  pub names : AreNamesBelow (length e.variables) e.names
  pub condition : IsCondition sig e.variables e.condition
  pub few : count_of e.arguments ≤ 2 ^ 32

-- the guard repeats one of these equations, and lists variables of it
pub record IsGuard (equations : List Equation) (g : Guard) : Type 0 where
  pub equation : Equation
  pub there : slice_get equations g.equation ≡ Some equation
  pub order : All (λ x. x < length equation.variables) g.order

-- An equation of the last resort is in the form of kompile. Its guards repeat some of these
-- equations. The numbers of its variables and of theirs fit in 32 bits.
abbrev pub HasFittingGuards : List Equation → Equation → Type 0
HasFittingGuards equations e = IfSome e.last_resort (λ (gs : List Guard). (e.parameters ≢ 0)
    × All (IsGuard equations) gs
    × (after_guards (e.parameters + length e.variables) gs < 2 ^ 32))

-- the equation of this function, which is one of these, has an image
pub record HasEquationImage (sig : Signature) (equations : List Equation) (f : ℕ) (e : Equation) :
    Type 0 where
  pub few : e.parameters + length e.variables ≤ 2 ^ 32
  pub sorts : AreSorts sig e.variables
  pub function : f < length sig.symbols
  pub arguments : HaveImages sig (length e.variables) e.arguments
  pub names : AreNamesBelow (length e.variables) e.names
  pub condition : IsCondition sig e.variables e.condition
  pub right : HasImage sig (length e.variables) e.right
  pub parameters : (e.parameters ≡ 0) ⊎ HasParameters sig f e
  pub guards : HasFittingGuards equations e
  pub repeated : IfSome e.last_resort (λ (gs : List Guard). All (HasPremise sig) equations)

-- The symbol with this number is a constructor whose declaration names sorts of the signature. It
-- has fewer than 2^31 arguments, so that the numbers of twice as many variables fit in 32 bits.
pub record MakesTerms (sig : Signature) (f : ℕ) (info : SymInfo) (sorts : List ℕ) (sort : ℕ) :
    Type 0 where
  pub constructs : IsConstructor sig f info sorts sort
  pub are_sorts : AreSorts sig (sort ∷ sorts)
  pub few : length sorts < 2 ^ 31

abbrev pub HasTotality : Signature → ℕ → Type 0
HasTotality sig f =
    (info : SymInfo) × (sorts : List ℕ) × (sort : ℕ) × MakesTerms sig f info sorts sort

-- two constructors with the same result sort, neither of which is associative, commutative or
-- idempotent, or has a unit
pub record HasDifference (sig : Signature) (f g : ℕ) : Type 0 where
  pub differ : f ≢ g
  pub info : SymInfo
  pub other : SymInfo
  pub sorts : List ℕ
  pub others : List ℕ
  pub sort : ℕ
  pub first : MakesTerms sig f info sorts sort
  pub second : MakesTerms sig g other others sort
  pub no_ac : (info.ac ≡ false) × (other.ac ≡ false)

-- a constructor that has an argument, and is not associative, commutative or idempotent, and has no
-- unit
pub record HasFreedom (sig : Signature) (f : ℕ) : Type 0 where
  pub info : SymInfo
  pub sorts : List ℕ
  pub sort : ℕ
  pub makes : MakesTerms sig f info sorts sort
  pub no_ac : info.ac ≡ false
  pub some : 0 < length sorts

-- there is an injection symbol, and these are sorts of the signature
abbrev pub CanInject : Signature → List ℕ → Type 0
CanInject sig sorts = IsSome (injection_symbol sig) × AreSorts sig sorts

-- two patterns without a common instance, which have images
pub record HaveApartImages (sig : Signature) (p q : Pattern) : Type 0 where
  pub sorts : List ℕ
  pub apart : AreApart sig p q sorts
  pub left : HasImage sig (2 ^ 32) p
  pub right : HasImage sig (2 ^ 32) q
  pub are_sorts : AreSorts sig sorts
  pub few : length sorts ≤ 2 ^ 32
