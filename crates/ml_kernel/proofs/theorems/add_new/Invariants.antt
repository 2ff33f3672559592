use Rattle.std.proofs.Common.{take}
use Rattle.ml_kernel.specs.Theorems.{AddsNew}
use Rattle.ml_kernel.proofs.theorems.add_new.Given as goal

abbrev pub invariant-loop-p : goal.invariant-loop-p
invariant-loop-p l = AddsNew l.fn.old.items (take l.p-index l.from) l.old.items
