use Rattle.ml_derived.proofs.CitingLaws.{assumption_stays}
use Rattle.ml_derived.proofs.citing.assume.Goals as goal

pub returns-clause-stays : goal.returns-clause-stays
returns-clause-stays c =
    assumption_stays c.args.hyp c.assume.result c.assume.ensures.hypotheses
    c.assume.ensures.conclusion c.assume.ensures.derivation
