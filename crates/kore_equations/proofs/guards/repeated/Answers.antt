use Rattle.std.proofs.Common.{◌≡◌, sym, ◌∙◌}
use Rattle.std.proofs.lemmas.Bool.{false≢true}
use Rattle.kore_equations.proofs.ReadingLoops.{one_more_other, none_of_all}
use Rattle.kore_equations.proofs.guards.repeated.Goals as goal

pub loop-i-preserved : goal.loop-i-preserved
loop-i-preserved c =
    one_more_other c.args.others.now c.args.sides.now c.loop-i.i c.index-others-i.result
    c.loop-i-test.true c.index-others-i.is
    (λ same. false≢true (sym c.if-is_same.false ∙ c.is_same.ensures.1 same)) c.loop-i.invariant

pub returns : goal.returns
returns c =
    none_of_all c.args.others.now c.args.sides.now c.loop-i.i c.loop-i-test.false
    c.loop-i.invariant
