use Rattle.std.proofs.Common.{◌≡◌, ◌++◌, ◌*◌, List}
use Rattle.ml_kernel.specs.StepsIn.{all_steps}
use Rattle.ml_kernel.specs.Theorems.{Derivation, derivations}
use Rattle.mm_render.specs.Parts.{PutsTrees, proofs_by}
use Rattle.mm_render.proofs.derivations.put_derived.Given as goal

-- the derivations that were put are the last ones
abbrev pub invariant-loop-part : goal.invariant-loop-part
invariant-loop-part l =
    (put : List Derivation) × (l.parts ≡ l.part-iterator.iter.rest.now ++ put)
    × PutsTrees (λ k at. proofs_by k at (derivations put)) (3 * all_steps (derivations put))
    l.initial.stack.items l.stack.items
