use Rattle.std.specs.Prelude.{◌≡◌, drop}
use Rattle.mm_verify.specs.Filling.{are_wanted}
use Rattle.mm_verify.proofs.checking.are_wanted.Given as goal

abbrev pub invariant-loop-i : goal.invariant-loop-i
invariant-loop-i l =
    are_wanted (drop l.base l.stack) (drop l.i l.wanted) (drop l.i (drop l.base l.stack))
    ≡ are_wanted (drop l.base l.stack) l.wanted (drop l.base l.stack)
