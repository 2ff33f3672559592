use Rattle.std.proofs.Common.{sym, ◌∙◌}
use Rattle.std.proofs.lemmas.Bool.{false≢true}
use Rattle.ml_image.proofs.HookLaws.{answer_fits}
use Rattle.true_facts.proofs.hook_facts.answers.Goals as goal

pub returns-else-fits : goal.returns-else-fits
returns-else-fits g c = (
  λ t. absurd (false≢true (sym c.if-fits.false ∙ t)),
  λ e. c.fits.ensures.1 (answer_fits c.args.hook.0 c.args.args.now _ e),
)
