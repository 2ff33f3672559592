-- What a theorem says about a function of patterns: the image of its call on the terms as they are
-- written equals the image of its call on their normal forms.
use Rattle.std.specs.Prelude.{◌≡◌, ℕ, List, [], Option, Some, None}
use Rattle.term_core.specs.Terms.{Tree, Forest}
use Rattle.term_core.specs.Patterns.{Patterns, call, ground_patterns}
use Rattle.term_core.specs.Instances.{all_substituted}
use Rattle.ml_pat.specs.Patterns.{Pattern, equal}
use Rattle.ml_kernel.specs.Lemmas.{HasNoVariable}
use Rattle.ml_kernel.specs.Theorems.{Theorem}
use Rattle.ml_image.specs.Images.{image_of}
use Rattle.prove_term.specs.Contexts.{Context, StaysIn}

-- the pattern says that the image of f of the terms ts equals the image of f of the terms us;
-- neither image has an object variable
pub record SaysEqualCall (cx : Context) (f : ℕ) (ts us : Forest) (p : Pattern) : Type 0 where
  pub left : Pattern
  pub left_image : image_of cx.program.sig cx.names (call f [] (ground_patterns ts)) ≡ Some left
  pub right : Pattern
  pub right_image : image_of cx.program.sig cx.names (call f [] (ground_patterns us)) ≡ Some right
  pub says : p ≡ equal left right
  pub no_variable : HasNoVariable left × HasNoVariable right

-- There is no theorem, and the patterns become the terms us under the substitution as they are
-- written. Or the theorem says that f of the written terms equals f of us, and stays in the
-- context.
abbrev pub SaysEqualCalls : Context → ℕ → List (Option Tree) → Patterns → Forest → Option Theorem
    → Type 0
SaysEqualCalls cx f theta ps us None = all_substituted theta ps ≡ Some us
SaysEqualCalls cx f theta ps us (Some t) =
    (written : Forest) × (all_substituted theta ps ≡ Some written)
    × SaysEqualCall cx f written us t.conclusion
    × StaysIn cx t
