use Rattle.std.proofs.Common.{rules, drop, ◌+◌}
use Rattle.mm_verify.specs.Filling.{filled}
use Rattle.mm_verify.proofs.Fillings.{not_filled, filled_behind}
use Rattle.mm_verify.proofs.filling.is_filled.Goals as goal

pub returns-in-None : goal.returns-in-None
returns-in-None c =
    not_filled (drop c.args.base c.args.stack.now) c.args.parts.now c.loop-part.part-index _
    c.loop-part.rest.now _
    c.loop-part-test.true (search rules) (c.in-None.ensures (filled
    (drop c.args.base c.args.stack.now)
    (drop (c.loop-part.part-index + 1) c.args.parts.now))) c.loop-part.invariant

pub loop-part-preserved : goal.loop-part-preserved
loop-part-preserved c =
    filled_behind (drop c.args.base c.args.stack.now) c.args.parts.now c.loop-part.part-index _
    c.loop-part.rest.now _ _
    c.loop-part-test.true (search rules) (c.in-Some.ensures (filled
    (drop c.args.base c.args.stack.now)
    (drop (c.loop-part.part-index + 1) c.args.parts.now))) c.loop-part.invariant
