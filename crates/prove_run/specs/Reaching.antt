-- What the last stated theorem says.
use Rattle.std.specs.Prelude.{◌≡◌, []}
use Rattle.term_core.specs.Patterns.{Pattern as RulePattern}
use Rattle.ml_kernel.specs.Theorems.{Theorem}
use Rattle.mm_claims.specs.Rendered.{all_stated}
use Rattle.mm_claims.specs.Places.{IsStated}
use Rattle.prove_term.specs.Contexts.{Context}
use Rattle.proof_writer.specs.Writing.{HasNoVariables}
use Rattle.proof_writer.specs.declared.writer.Writer.{Writer}
use Rattle.prove_run.specs.Starting.{SaysReached}

-- The last stated theorem has no hypotheses. It says that the image of the start reaches the image
-- of the present configuration. The start has no variables.
pub record HasReached (cx : Context) (w : Writer) (last : Theorem) (start reached : RulePattern) :
    Type 0 where
  pub says : SaysReached cx start reached last
  pub ground : HasNoVariables start
  pub no_hypotheses : last.hypotheses ≡ []
  pub stated : IsStated (all_stated w.renderer) last.hypotheses last.conclusion
