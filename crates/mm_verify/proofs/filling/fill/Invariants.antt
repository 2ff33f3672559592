use Rattle.std.specs.Prelude.{◌≡◌, ◌++◌, take, drop}
use Rattle.mm_verify.specs.Filling.{filled}
use Rattle.mm_verify.proofs.filling.fill.Given as goal

abbrev pub invariant-loop-part : goal.invariant-loop-part
invariant-loop-part l =
    l.to.items ≡ l.fn.to.items ++ filled (drop l.base l.stack) (take l.part-index l.parts)
