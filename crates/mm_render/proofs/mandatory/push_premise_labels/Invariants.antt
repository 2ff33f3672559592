use Rattle.std.proofs.Common.{take}
use Rattle.mm_claims.specs.PremiseLabels.{premise_labels}
use Rattle.mm_render.specs.MandatoryLabels.{AddsLabelsOf}
use Rattle.mm_render.proofs.mandatory.push_premise_labels.Given as goal

abbrev pub invariant-loop-no : goal.invariant-loop-no
invariant-loop-no l =
    AddsLabelsOf (λ k. premise_labels k 0 (take l.no l.hypotheses)) l.initial.labels.items
    l.labels.items
