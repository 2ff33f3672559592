-- The value of a pattern, from an equality for its image.
use Rattle.std.proofs.Common.{List, Option, Some, None, ◌∙◌, ap}
use Rattle.std.specs.Prelude.{IfSome}
use Rattle.ml_pat.specs.Patterns.{Pattern}
use Rattle.ml_kernel.specs.Theorems.{Theorem}
use Rattle.term_core.specs.Terms.{Tree}
use Rattle.term_core.specs.Patterns.{Pattern as RulePattern, ground_pattern}
use Rattle.prove_term.specs.Contexts.{Context, StaysIn}
use Rattle.prove_term.proofs.ComparingLaws.{image_closed}
use Rattle.prove_fun.specs.Valuing.{EqualsValue}
use Rattle.prove_fun.specs.Evaluating.{IsImage, IsEvaluated}

pub equals_value : (cx : Context) (theta : List (Option Tree)) (p : RulePattern) (t : Tree)
    (image : Pattern) (o : Option Theorem) → IsEvaluated cx theta p image o
    → IsImage cx (ground_pattern t) image → EqualsValue cx theta p t o
equals_value cx theta p t image None h is = record {
  image = image;
  left_image = h.left_image ∙ ap (λ (q : Pattern). Some q) h.equates;
  right_image = is;
  no_variable = image_closed cx.program.sig cx.names t image is;
}
equals_value cx theta p t image (Some thm) h is = record {
  left = h.left;
  left_image = h.left_image;
  right = image;
  right_image = is;
  says = h.equates.says;
  no_variable = (h.closed, image_closed cx.program.sig cx.names t image is);
}

pub stays_if : (cx : Context) (theta : List (Option Tree)) (p : RulePattern) (image : Pattern)
    (o : Option Theorem) → IsEvaluated cx theta p image o → IfSome o (StaysIn cx)
stays_if cx theta p image None h = tt
stays_if cx theta p image (Some thm) h = h.equates.stays
