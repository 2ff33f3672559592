use Rattle.std.proofs.Common.{◌≡◌, ◌+◌, ◌*◌, length, take}
use Rattle.term_core.specs.Terms.{height, heights}
use Rattle.term_core.specs.Forests.{forest}
use Rattle.term_core.proofs.terms.+same.Given as goal

abbrev pub decreases-Term::same : goal.decreases-Term::same
decreases-Term::same l = 2 * height l.self.now

abbrev pub decreases-all_same : goal.decreases-all_same
decreases-all_same l = 2 * heights (forest l.xs.now) + 1

abbrev pub invariant-all_same-loop-x : goal.invariant-all_same-loop-x
invariant-all_same-loop-x l = take (length l.yielded) l.xs ≡ take (length l.yielded) l.ys
