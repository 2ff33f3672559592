use Rattle.std.proofs.Common.{◌≡◌, take}
use Rattle.match_tree.specs.TrailView.{plain_trail}
use Rattle.match_tree.proofs.trails.extended.Given as goal

abbrev pub invariant-loop-tested : goal.invariant-loop-tested
invariant-loop-tested l = plain_trail l.more.items ≡ plain_trail (take l.tested-index l.trail)
