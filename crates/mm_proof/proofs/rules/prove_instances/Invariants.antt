use Rattle.std.proofs.Common.{map, take}
use Rattle.ml_kernel.specs.StepView.{instances_of}
use Rattle.mm_proof.specs.Labels.{own_labels}
use Rattle.mm_proof.specs.Listings.{Builds}
use Rattle.mm_proof.specs.Trees.{instance_tree}
use Rattle.mm_proof.proofs.rules.prove_instances.Given as goal

abbrev pub invariant-loop-instance : goal.invariant-loop-instance
invariant-loop-instance l =
    Builds (λ k. map (instance_tree (own_labels k)) (instances_of (take l.instance-index l.instances)))
    l.initial.table l.table
