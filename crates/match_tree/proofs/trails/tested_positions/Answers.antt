use Rattle.std.proofs.Common.{arith, rules}
use Rattle.match_tree.proofs.KnownLaws.{known_next}
use Rattle.match_tree.proofs.trails.tested_positions.Goals as goal

pub loop-tested-preserved : goal.loop-tested-preserved
loop-tested-preserved c =
    known_next c.loop-tested.known.keys c.insert.new.self.keys c.args.trail.now
    c.loop-tested.tested-index c.tested-item.result c.in_ok-to_vec.field-0 (omega arith)
    c.tested-item.is (search rules) c.in_ok-insert.ensures.keys c.loop-tested.invariant
