use Rattle.std.proofs.Common.{List, ap, ◌∙◌}
use Rattle.term_core.specs.RulePatterns.{sort_numbers}
use Rattle.term_core.specs.declared.ids.SortId.{SortId}
use Rattle.ml_image.proofs.ClosingLaws.{sorts_of-next}
use Rattle.ml_image.proofs.closing.variable_sorts.Goals as goal

pub loop-var-preserved : goal.loop-var-preserved
loop-var-preserved c = ap (λ (ss : List SortId). sort_numbers ss) c.in_ok-push.ensures.items
    ∙ sorts_of-next c.args.vars.now c.loop-var.var-index c.var-item.result c.loop-var.sorts.items
    c.loop-var-test.true c.var-item.is c.loop-var.invariant
