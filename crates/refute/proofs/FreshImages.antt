-- A variable that is none of a pattern's is not free in its image.
use Rattle.std.proofs.Common.{◌≡◌, ◌≤◌, ℕ, Bool, List, length, Some, refl, ap, eq-eqb}
use Rattle.std.specs.Prelude.{if◌then◌else◌}
use Rattle.ml_pat.specs.Patterns.{Pattern, var}
use Rattle.ml_pat.specs.Judgements.{substituted}
use Rattle.ml_pat.proofs.ReplacingLaws.{substituted-fresh}
use Rattle.term_core.specs.Patterns.{Pattern as RulePattern}
use Rattle.rule_core.specs.Sorting.{HasSort}
use Rattle.rule_core.specs.WellSorted.{HasNoCall}
use Rattle.rule_core.specs.declared.signature.Signature.{Signature}
use Rattle.ml_image.specs.Images.{image_of}
use Rattle.prove_open.proofs.CoverLaws.{image_below}
use Rattle.prove_open.proofs.ValueLaws.{fresh-below}

-- so substitution for the variable does not change the image
pub image_keeps : (sig : Signature) (names : List (List ℕ)) (variables : List ℕ) (y : ℕ)
    (p : RulePattern) (sort : ℕ) (r u : Pattern) → HasSort sig variables p sort → HasNoCall p
    → length variables ≤ y → image_of sig names p ≡ Some r → substituted r y u ≡ Some r
image_keeps sig names variables y p sort r u h k high is =
    substituted-fresh y u r
    (fresh-below (length variables) y r (image_below sig names variables p sort r h k is) high)

-- a mark is replaced
pub mark_replaced : (y : ℕ) (u : Pattern) → substituted (var y) y u ≡ Some u
mark_replaced y u = ap (λ (k : Bool). if k then Some u else Some (var y)) (eq-eqb y y refl)
