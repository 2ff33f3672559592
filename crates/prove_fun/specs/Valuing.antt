-- The value of a pattern under a substitution, as a theorem if one is needed.
use Rattle.std.specs.Prelude.{◌≡◌, List, Option, Some, None}
use Rattle.term_core.specs.Terms.{Tree}
use Rattle.term_core.specs.Patterns.{Pattern as RulePattern, ground_pattern}
use Rattle.ml_pat.specs.Patterns.{Pattern}
use Rattle.ml_kernel.specs.Lemmas.{HasNoVariable}
use Rattle.ml_kernel.specs.Theorems.{Theorem}
use Rattle.ml_image.specs.Images.{image_of}
use Rattle.prove_term.specs.Contexts.{Context}
use Rattle.prove_term.specs.Filling.{filled}
use Rattle.prove_term.specs.Values.{SaysValue}

-- The pattern, with its variables replaced by the terms of a substitution, and the term t have the
-- same image. The image has no object variable.
pub record HasImageOf (cx : Context) (theta : List (Option Tree)) (p : RulePattern) (t : Tree) :
    Type 0 where
  pub image : Pattern
  pub left_image : image_of cx.program.sig cx.names (filled theta p) ≡ Some image
  pub right_image : image_of cx.program.sig cx.names (ground_pattern t) ≡ Some image
  pub no_variable : HasNoVariable image

-- There is no theorem, and both have the same image; or the theorem says that their images are
-- equal.
abbrev pub EqualsValue : Context → List (Option Tree) → RulePattern → Tree → Option Theorem → Type 0
EqualsValue cx theta p t None = HasImageOf cx theta p t
EqualsValue cx theta p t (Some thm) = SaysValue cx theta p t thm.conclusion
