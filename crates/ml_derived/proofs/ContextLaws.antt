-- The contexts that the rules of equality build, and the sides that have no variable.
use Rattle.std.proofs.Common.{◌≡◌, ℕ, Some, refl, sym, ◌∙◌, ap, subst}
use Rattle.ml_pat.specs.Patterns.{Pattern, equal, app, var, fun}
use Rattle.ml_pat.specs.Judgements.{substituted}
use Rattle.ml_kernel.specs.Lemmas.{HasNoVariable}
use Rattle.ml_kernel.proofs.InstanceLaws.{substituted-without}
use Rattle.ml_derived.specs.Equalities.{IsFromClosed, AreJoinable}
use Rattle.ml_derived.specs.Parts.{FitsBinder, IsElementOf}

-- the substitution for the context c and the result m, with both replaced along these equations
as_made : (c context m made u : Pattern) → context ≡ c → made ≡ m → substituted c 0 u ≡ Some m
    → substituted context 0 u ≡ Some made
as_made c context m made u is makes same =
    ap (λ (r : Pattern). substituted r 0 u) is ∙ same ∙ ap (λ (r : Pattern). Some r) (sym makes)

-- `y = p`
pub at_first_side : (p u context made : Pattern) → context ≡ equal (var 0) p → made ≡ equal u p
    → HasNoVariable p → substituted context 0 u ≡ Some made
at_first_side p u context made is makes closed =
    as_made (equal (var 0) p) context (equal u p) made u is makes
    (rw (substituted-without p 0 u closed) refl)

-- `p = y`
pub at_last_side : (p u context made : Pattern) → context ≡ equal p (var 0) → made ≡ equal p u
    → HasNoVariable p → substituted context 0 u ≡ Some made
at_last_side p u context made is makes closed =
    as_made (equal p (var 0)) context (equal p u) made u is makes
    (rw (substituted-without p 0 u closed) refl)

-- `p = y r`
pub at_function : (p r u context made : Pattern) → context ≡ equal p (app (var 0) r)
    → made ≡ equal p (app u r) → HasNoVariable p → HasNoVariable r
    → substituted context 0 u ≡ Some made
at_function p r u context made is makes closed argument =
    as_made (equal p (app (var 0) r)) context (equal p (app u r)) made u is makes
    (rw (substituted-without p 0 u closed, substituted-without r 0 u argument) refl)

-- `p = q y`
pub at_argument : (p q u context made : Pattern) → context ≡ equal p (app q (var 0))
    → made ≡ equal p (app q u) → HasNoVariable p → HasNoVariable q
    → substituted context 0 u ≡ Some made
at_argument p q u context made is makes closed function =
    as_made (equal p (app q (var 0))) context (equal p (app q u)) made u is makes
    (rw (substituted-without p 0 u closed, substituted-without q 0 u function) refl)

first_side : (p q r t : Pattern) → equal p q ≡ equal r t → p ≡ r
first_side p q r t h = cc

element_same : (p q : Pattern) (s v : ℕ) → fun p s ≡ fun q v → p ≡ q
element_same p q s v h = cc

-- the first side of such an equality has no variable
pub closed_side : (e p q : Pattern) → IsFromClosed e → e ≡ equal p q → HasNoVariable p
closed_side e p q h is =
    subst (λ (r : Pattern). HasNoVariable r) (first_side h.0 h.1.0 p q (sym h.1.1.0 ∙ is)) h.1.1.1

pub closed_join : (e g p q : Pattern) → AreJoinable e g → e ≡ equal p q → HasNoVariable p
closed_join e g p q h is =
    subst (λ (r : Pattern). HasNoVariable r) (first_side h.0 h.1.0 p q (sym h.1.1.1.0 ∙ is))
    h.1.1.1.1.1

last_side : (p q r t : Pattern) → equal p q ≡ equal r t → q ≡ t
last_side p q r t h = cc

-- the second side of the first equality is the first side of the second
pub to_middle : (e g p q r t : Pattern) → AreJoinable e g → e ≡ equal p q → g ≡ equal r t
    → e ≡ equal p r
to_middle e g p q r t h is that =
    is ∙ ap (λ (u : Pattern). equal p u)
    (last_side p q h.0 h.1.0 (sym is ∙ h.1.1.1.0)
    ∙ first_side h.1.0 h.1.1.0 r t (sym h.1.1.1.1.0 ∙ that))

-- the pattern of a fact has no variable
pub closed_element : (sentence fact q : Pattern) → FitsBinder sentence fact → IsElementOf q fact
    → HasNoVariable q
closed_element sentence fact q h is =
    subst (λ (r : Pattern). HasNoVariable r)
    (element_same h.1.1.0 q h.1.0 is.0 (sym h.1.1.1.1.1.0 ∙ is.1)) h.1.1.1.1.1.1
