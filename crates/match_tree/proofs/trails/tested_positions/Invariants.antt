use Rattle.std.proofs.Common.{take}
use Rattle.match_tree.specs.TrailView.{plain_trail, HasTested}
use Rattle.match_tree.proofs.trails.tested_positions.Given as goal

abbrev pub invariant-loop-tested : goal.invariant-loop-tested
invariant-loop-tested l =
    HasTested l.known.keys (plain_trail (take l.tested-index l.trail))
