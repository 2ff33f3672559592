use Rattle.refute_body.specs.Implications.{count_of}
use Rattle.refute_body.proofs.hypotheses.+weaker.Given as goal

abbrev pub decreases-weaker : goal.decreases-weaker
decreases-weaker l = count_of l.h.now
