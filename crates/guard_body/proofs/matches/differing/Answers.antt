use Rattle.std.proofs.Common.{◌≤◌, length, arith}
use Rattle.guard_body.proofs.FoundLists.{none_differ}
use Rattle.guard_body.proofs.matches.differing.Goals as goal

pub returns-clause-none : goal.returns-clause-none
returns-clause-none c =
    λ is.
    let all : length c.args.theta.now ≤ c.loop-x.x =
    omega (arith, c.loop-x-test.false, c.vars-x-end.ensures.value) in
    none_differ c.args.theta.now c.args.sigma.now c.loop-x.x all c.loop-x.invariant
