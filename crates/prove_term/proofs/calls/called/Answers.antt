use Rattle.std.proofs.Common.{[], List, ◌∙◌, ap}
use Rattle.term_core.specs.Patterns.{call}
use Rattle.term_core.specs.RulePatterns.{sort_numbers}
use Rattle.term_core.specs.PatternLists.{plain_patterns}
use Rattle.term_core.specs.declared.ids.SortId.{SortId}
use Rattle.term_core.proofs.PlainPatterns.{plain-Call}
use Rattle.prove_term.proofs.calls.called.Goals as goal

pub returns : goal.returns
returns c =
    plain-Call c.args.function c.new-sorts.result c.in_ok-args.args
    ∙ ap (λ (ss : List SortId).
    call c.args.function.0 (sort_numbers ss) (plain_patterns c.in_ok-args.args.items))
    c.new-sorts.ensures.items
    ∙ ap (call c.args.function.0 []) c.in_ok-args.ensures
