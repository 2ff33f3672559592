use Rattle.std.proofs.Common.{arith, drop, get_or}
use Rattle.mm_verify.specs.LongStatementView.{part_by, long_symbols}
use Rattle.mm_verify.proofs.Presence.{run-passed, run-pushed, all-present, spot-within}
use Rattle.mm_verify.proofs.present.gather.Goals as goal

pub is_present-requires-clause-at : goal.is_present-requires-clause-at
is_present-requires-clause-at c =
    spot-within (drop c.args.base c.args.stack.now) (part_by c.args.statement.now.places.value)
    (long_symbols c.args.statement.now) (get_or c.args.spots.now c.loop-at.at 0)
    (c.requires.spots.each c.loop-at.at 0 c.loop-at-test.true)

pub loop-at-preserved : goal.loop-at-preserved
loop-at-preserved c = record {
  room = c.run_end-end.ensures.room;
  gathered =
      run-passed (drop c.args.base c.args.stack.now) (part_by c.args.statement.now.places.value)
      (long_symbols c.args.statement.now) c.args.spots.now c.requires.spots
      c.loop-at.at c.run_end-end.result c.loop-at.to.items c.is_present.result
      c.run_end-end.ensures.more c.run_end-end.ensures.room c.run_end-end.ensures.same
      c.is_present.ensures c.loop-at.invariant.gathered
      c.if-is_present.false;
}

pub loop-at-preserved-in_ok-push_positions : goal.loop-at-preserved-in_ok-push_positions
loop-at-preserved-in_ok-push_positions c = record {
  room = c.run_end-end.ensures.room;
  gathered =
      run-pushed (drop c.args.base c.args.stack.now) (part_by c.args.statement.now.places.value)
      (long_symbols c.args.statement.now) c.args.spots.now c.requires.spots
      c.loop-at.at c.run_end-end.result c.loop-at.to.items c.is_present.result
      c.run_end-end.ensures.more c.run_end-end.ensures.room c.run_end-end.ensures.same
      c.is_present.ensures c.loop-at.invariant.gathered
      c.if-is_present.true c.push_positions.new.to.items c.in_ok-push_positions.ensures;
}

pub returns : goal.returns
returns c =
    all-present (drop c.args.base c.args.stack.now) (part_by c.args.statement.now.places.value)
    (long_symbols c.args.statement.now) c.args.spots.now c.requires.spots
    c.loop-at.at c.loop-at.to.items (omega (arith, c.loop-at-test.false))
    c.loop-at.invariant.gathered
