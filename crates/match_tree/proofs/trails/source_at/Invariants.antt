use Rattle.std.proofs.Common.{◌≡◌, drop}
use Rattle.match_tree.specs.Trails.{source_at}
use Rattle.match_tree.specs.TrailView.{plain_trail}
use Rattle.match_tree.proofs.trails.source_at.Given as goal

abbrev pub invariant-loop-tested : goal.invariant-loop-tested
invariant-loop-tested l =
    source_at (plain_trail (drop l.tested-index l.trail)) l.position
    ≡ source_at (plain_trail l.trail) l.position
