use Rattle.std.proofs.Common.{◌≡◌}
use Rattle.kore_text.specs.Table.{passes, empty_fold}
use Rattle.kore_text.specs.Remaining.{left, size}
use Rattle.kore_text.specs.Stacks.{stack}
use Rattle.kore_text.proofs.finder.is_empty_fold.Given as goal

abbrev pub invariant-loop-tokens : goal.invariant-loop-tokens
invariant-loop-tokens l =
    passes (left l.tokens) (stack l.expected) ≡ passes (left l.fn.tokens) empty_fold

abbrev pub decreases-loop-tokens : goal.decreases-loop-tokens
decreases-loop-tokens l = size (left l.tokens)
