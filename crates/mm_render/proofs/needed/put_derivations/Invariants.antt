use Rattle.std.proofs.Common.{◌≡◌, ◌++◌, List}
use Rattle.ml_kernel.specs.Theorems.{Derivation, derivations}
use Rattle.mm_render.specs.NeededView.{PutsDerivations}
use Rattle.mm_render.proofs.needed.put_derivations.Given as goal

-- the derivations that were put are the last ones
abbrev pub invariant-loop-part : goal.invariant-loop-part
invariant-loop-part l =
    (put : List Derivation) × (l.parts ≡ l.part-iterator.iter.rest.now ++ put)
    × PutsDerivations (derivations put) l.initial.stack.items l.stack.items
