use Rattle.std.proofs.Common.{◌<◌, length, arith}
use Rattle.prove_term.specs.Assuming.{Opens}
use Rattle.prove_term.proofs.AssumingLaws.{partly_opens, partly_opened, opened_falls}
use Rattle.prove_term.proofs.AssumingLaws.{stays_from_twice}
use Rattle.prove_term.proofs.schemas.at_metas.Goals as goal

pub at_meta-requires-clause-opens : goal.at_meta-requires-clause-opens
at_meta-requires-clause-opens c =
    let low : c.loop-i.i < length c.requires.1 =
    omega (arith, c.loop-i-test.true, c.requires.3.as_many) in
    partly_opens c.loop-i.i c.requires.0 c.requires.1 c.requires.2 c.loop-i.made low
    (c.loop-i.invariant.says c.requires.0 c.requires.1 c.requires.2 c.requires.3)

pub loop-i-preserved : goal.loop-i-preserved
loop-i-preserved c =
    let low : c.loop-i.i < length c.requires.1 =
    omega (arith, c.loop-i-test.true, c.requires.3.as_many) in
    let opens : Opens c.loop-i.i c.loop-i.made.conclusion =
    partly_opens c.loop-i.i c.requires.0 c.requires.1 c.requires.2 c.loop-i.made low
    (c.loop-i.invariant.says c.requires.0 c.requires.1 c.requires.2 c.requires.3) in
    record {
      says =
          λ head numbers number h. partly_opened c.loop-i.i head numbers number c.loop-i.made
          c.in_ok-made.made (omega (arith, c.loop-i-test.true, h.as_many))
          (c.loop-i.invariant.says head numbers number h) c.in_ok-made.ensures.opened;
      falls =
          opened_falls c.loop-i.i c.loop-i.made c.in_ok-made.made opens c.in_ok-made.ensures.opened
          c.loop-i.invariant.falls;
      stays =
          stays_from_twice c.args.totality c.loop-i.made c.in_ok-made.made c.loop-i.i opens
          c.in_ok-made.ensures.opened c.loop-i.invariant.stays c.in_ok-made.ensures.stays;
    }
