use Rattle.std.proofs.Common.{◌<◌, length, arith}
use Rattle.guard_body.proofs.FoundLists.{all_one, below_next, is_none, with_next}
use Rattle.guard_body.proofs.matches.bound_twice.Goals as goal

pub loop-second-preserved : goal.loop-second-preserved
loop-second-preserved c =
    let low : c.loop-second.second < length c.args.found.now =
    omega (arith, c.loop-second-test.true, c.loop-first-test.true) in
    with_next c.args.found.now c.loop-first.first c.loop-second.second
    c.index-found-first.result c.index-found-second.result c.loop-first-test.true
    c.index-found-first.is low c.index-found-second.is c.loop-second.invariant
    (c.differing.ensures.none (is_none c.differing.result c.in_default.not-Some))

pub loop-first-preserved : goal.loop-first-preserved
loop-first-preserved c =
    below_next c.args.found.now c.loop-first.first c.loop-second.second c.loop-second-test.false
    c.loop-first.invariant c.loop-second.invariant

pub returns-clause-none : goal.returns-clause-none
returns-clause-none c =
    λ is. all_one c.args.found.now c.loop-first.first c.loop-first-test.false c.loop-first.invariant
