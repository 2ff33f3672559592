use Rattle.std.proofs.Common.{◌≡◌, ◌++◌}
use Rattle.mm_render.specs.Keys.{number_bytes}
use Rattle.mm_render.proofs.places.push_number.Given as goal

abbrev pub invariant-loop-left : goal.invariant-loop-left
invariant-loop-left l = l.key.items ++ number_bytes l.left ≡ l.fn.key.items ++ number_bytes l.number

abbrev pub decreases-loop-left : goal.decreases-loop-left
decreases-loop-left l = l.left
