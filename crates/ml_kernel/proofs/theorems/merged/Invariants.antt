use Rattle.std.proofs.Common.{take, []}
use Rattle.ml_kernel.specs.Theorems.{AddsNew, all_hypotheses}
use Rattle.ml_kernel.specs.Premises.{theorems_of, AreKept}
use Rattle.ml_kernel.proofs.theorems.merged.Given as goal

abbrev pub invariant-loop-thm : goal.invariant-loop-thm
invariant-loop-thm l = record {
  merged : AddsNew [] (all_hypotheses (theorems_of (take l.thm-index l.premises))) l.all.items;
  kept : AreKept (theorems_of (take l.thm-index l.premises));
}
