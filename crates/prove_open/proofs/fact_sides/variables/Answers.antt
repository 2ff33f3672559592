use Rattle.term_core.proofs.PlainPatterns.{plain-Var}
use Rattle.prove_open.proofs.FactParts.{one_variable}
use Rattle.prove_open.proofs.fact_sides.variables.Goals as goal

pub loop-i-preserved : goal.loop-i-preserved
loop-i-preserved c =
    rw c.in_ok-push.ensures.items
    (one_variable c.loop-i.pats.items _ c.args.k c.loop-i.i c.loop-i.invariant (plain-Var _))
