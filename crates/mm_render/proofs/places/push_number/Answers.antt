use Rattle.std.proofs.Common.{arith}
use Rattle.mm_render.proofs.KeyLaws.{number_goes_on}
use Rattle.mm_render.proofs.places.push_number.Goals as goal

pub loop-left-preserved : goal.loop-left-preserved
loop-left-preserved c =
    number_goes_on c.loop-left.key.items c.push.new.self.items _ c.loop-left.left
    (omega (arith, c.loop-left-test.true)) c.in_ok-push.ensures.items c.loop-left.invariant
