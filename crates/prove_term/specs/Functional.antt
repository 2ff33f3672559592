-- What a theorem says about a term: it is one element of its sort.
use Rattle.std.specs.Prelude.{◌≡◌, ℕ, Some}
use Rattle.term_core.specs.Terms.{Tree}
use Rattle.term_core.specs.Patterns.{ground_pattern}
use Rattle.ml_pat.specs.Patterns.{Pattern, fun}
use Rattle.ml_kernel.specs.Lemmas.{HasNoVariable, HasNoMeta}
use Rattle.ml_image.specs.Images.{image_of, sort_image}
use Rattle.rule_core.specs.Sorting.{IsTermOf}
use Rattle.prove_term.specs.Contexts.{Context}

-- the pattern says that the image of t is one element of the sort of t; the image is closed
pub record SaysFunctional (cx : Context) (t : Tree) (p : Pattern) : Type 0 where
  pub sort : ℕ
  pub sorted : IsTermOf cx.program.sig t sort
  pub image : Pattern
  pub is_image : image_of cx.program.sig cx.names (ground_pattern t) ≡ Some image
  pub number : ℕ
  pub is_number : sort_image cx.program.sig cx.names sort ≡ Some number
  pub says : p ≡ fun image number
  pub no_variable : HasNoVariable image
  pub no_meta : HasNoMeta image
