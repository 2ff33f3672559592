use Rattle.std.proofs.Common.{take}
use Rattle.ml_kernel.specs.StepView.{numbers_of}
use Rattle.mm_proof.specs.Listings.{Builds}
use Rattle.mm_render.specs.Parts.{value_trees}
use Rattle.mm_render.specs.VariablesView.{plain_variables}
use Rattle.mm_render.proofs.derivations.start_citation.Given as goal

abbrev pub invariant-loop-variable : goal.invariant-loop-variable
invariant-loop-variable l =
    Builds (λ k. value_trees k (numbers_of l.new) l.patterns
    (plain_variables (take l.variable-index l.variable-items))) l.initial.table l.table
