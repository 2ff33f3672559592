-- What a theorem says about a pattern: the image of its term as it is written equals the image of
-- its normal form.
use Rattle.std.specs.Prelude.{◌≡◌, ◌≢◌, List, Option, Some, None}
use Rattle.term_core.specs.Terms.{Tree}
use Rattle.term_core.specs.Patterns.{Pattern as RulePattern, instance_of, ground_pattern}
use Rattle.term_core.specs.Instances.{substituted}
use Rattle.ml_pat.specs.Patterns.{Pattern, equal}
use Rattle.ml_kernel.specs.Lemmas.{HasNoVariable}
use Rattle.ml_kernel.specs.Theorems.{Theorem}
use Rattle.ml_image.specs.Images.{image_of}
use Rattle.prove_term.specs.Contexts.{Context}

-- the pattern says that the image of t equals the image of u; neither image has an object variable
pub record SaysEqual (cx : Context) (t u : Tree) (p : Pattern) : Type 0 where
  pub left : Pattern
  pub left_image : image_of cx.program.sig cx.names (ground_pattern t) ≡ Some left
  pub right : Pattern
  pub right_image : image_of cx.program.sig cx.names (ground_pattern u) ≡ Some right
  pub says : p ≡ equal left right
  pub no_variable : HasNoVariable left × HasNoVariable right

-- There is no theorem, and what the pattern becomes under the substitution is normal as it is
-- written. Or it is not normal, and the theorem says that its image equals the image of its normal
-- form.
abbrev pub SaysEqualImages : Context → List (Option Tree) → RulePattern → Option Theorem → Type 0
SaysEqualImages cx theta p None = substituted theta p ≡ instance_of theta p
SaysEqualImages cx theta p (Some thm) =
    (substituted theta p ≢ instance_of theta p)
    × ((t u : Tree) → substituted theta p ≡ Some t → instance_of theta p ≡ Some u
    → SaysEqual cx t u thm.conclusion)
