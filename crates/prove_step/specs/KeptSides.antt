-- The lemmas that a `SideLemmas` of the code keeps for sides.
use Rattle.std.specs.Prelude.{Contains, IfSome}
use Rattle.ml_kernel.specs.Theorems.{Theorem}
use Rattle.prove_term.specs.Contexts.{Context}
use Rattle.prove_step.specs.SideLemmas.{IsSideLemma}
use Rattle.prove_step.specs.declared.side_lemmas.Side.{Side}
use Rattle.prove_step.specs.declared.side_lemmas.Side.TheVariants.{Left, Right}
use Rattle.prove_step.specs.declared.side_lemmas.SideLemmas.{SideLemmas}

-- the lemma is for the side, and is in the context
pub record IsSideLemmaIn (cx : Context) (side : Side) (lemma : Theorem) : Type 0 where
  pub there : Contains cx.lemmas lemma
  pub is : IsSideLemma side lemma

-- each lemma that was made is for its side
pub record AreSideLemmas (cx : Context) (lemmas : SideLemmas) : Type 0 where
  pub left : IfSome lemmas.left (IsSideLemmaIn cx Left)
  pub right : IfSome lemmas.right (IsSideLemmaIn cx Right)
