use Rattle.std.specs.Prelude.{◌≡◌, drop}
use Rattle.mm_verify.specs.Filling.{filled}
use Rattle.mm_frame.specs.NumberedSteps.{same_numbers}
use Rattle.mm_verify.proofs.filling.is_filled.Given as goal

abbrev pub invariant-loop-part : goal.invariant-loop-part
invariant-loop-part l =
    same_numbers l.rest (filled (drop l.base l.stack) (drop l.part-index l.parts))
    ≡ same_numbers l.fn.entry (filled (drop l.base l.stack) l.parts)
