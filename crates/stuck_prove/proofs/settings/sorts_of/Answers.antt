use Rattle.std.proofs.Common.{◌≡◌, ◌+◌, List, take, sym, subst}
use Rattle.term_core.specs.RulePatterns.{sort_numbers}
use Rattle.term_core.specs.declared.ids.SortId.{SortId}
use Rattle.rule_core.specs.ProgramView.{sorts_of}
use Rattle.stuck_prove.proofs.SettingLaws.{one_more_sort}
use Rattle.stuck_prove.proofs.settings.sorts_of.Goals as goal

pub loop-variable-preserved : goal.loop-variable-preserved
loop-variable-preserved c =
    subst (λ (ss : List SortId). sort_numbers ss
    ≡ sorts_of (take (c.loop-variable.variable-index + 1) c.args.vars.now))
    (sym c.in_ok-push.ensures.items)
    (one_more_sort c.args.vars.now c.loop-variable.sorts.items c.loop-variable.variable-index
    c.variable-item.result c.loop-variable-test.true c.variable-item.is
    c.loop-variable.invariant)
