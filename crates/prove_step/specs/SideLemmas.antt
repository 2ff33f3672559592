-- The sides of a step, and the lemmas that replace a side by what it equals.
use Rattle.std.specs.Prelude.{◌≡◌, ◌⊎◌, All}
use Rattle.ml_pat.specs.Patterns.{Pattern, imp, equal, next, meta}
use Rattle.ml_kernel.specs.Theorems.{Theorem}
use Rattle.prove_step.specs.declared.side_lemmas.Side.{Side}
use Rattle.prove_step.specs.declared.side_lemmas.Side.TheVariants.{Left, Right}

-- the step that has `this` at the given side and `that` at the other side
abbrev pub step_of : Side → Pattern → Pattern → Pattern
step_of Left this that = imp this (next that)
step_of Right this that = imp that (next this)

-- the equality of m:0 and m:1, or the step with m:0 at the side
abbrev pub IsSideHypothesis : Side → Pattern → Type 0
IsSideHypothesis side p = (p ≡ equal (meta 0) (meta 1)) ⊎ (p ≡ step_of side (meta 0) (meta 2))

-- the lemma says the step with m:1 at the side, and assumes at most these two hypotheses
pub record IsSideLemma (side : Side) (lemma : Theorem) : Type 0 where
  pub says : lemma.conclusion ≡ step_of side (meta 1) (meta 2)
  pub hypotheses : All (IsSideHypothesis side) lemma.hypotheses
