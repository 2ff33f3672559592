use Rattle.std.proofs.Common.{◌≡◌, ◌<◌, All, ap, sym, ◌∙◌, subst}
use Rattle.term_core.specs.RulePatterns.{sort_numbers}
use Rattle.rule_core.specs.Sorting.{AreSorts}
use Rattle.rule_core.specs.ProgramView.{sorts_of, function_equation}
use Rattle.ml_image.specs.LastResorts.{sorts_at}
use Rattle.ml_image.specs.Numbering.{ListsNumbers}
use Rattle.ml_image.proofs.ConditionLaws.{length-sorts_of}
use Rattle.ml_image.proofs.LastResortLaws.{listed_are_sorts, repeated_said}
use Rattle.ml_image.proofs.last_resorts.repeated_image.Goals.{After-deref-3}
use Rattle.ml_image.proofs.last_resorts.repeated_image.Goals as goal

sorts_are : (c : After-deref-3)
    → sort_numbers c.deref-3.result.now
    ≡ sorts_at (sorts_of c.args.equation.now.vars.items) c.args.order.now
sorts_are c =
    ap sort_numbers c.deref-3.ensures.value ∙ c.in_ok-sorts.ensures
    ∙ ap (λ vs. sorts_at (sorts_of vs) c.args.order.now) c.deref.ensures.value

pub close_some-requires-clause-sorts : goal.close_some-requires-clause-sorts
close_some-requires-clause-sorts c =
    subst (AreSorts c.args.sig.now)
    (sym (sorts_are (goal.at.close_some-requires-clause-sorts c).After-deref-3))
    (listed_are_sorts c.args.sig.now (sorts_of c.args.equation.now.vars.items) c.args.order.now
    c.requires.premise.sorts
    (subst (λ n. All (λ x. x < n) c.args.order.now)
    (sym (length-sorts_of c.args.equation.now.vars.items)) c.requires.order))

pub returns-clause-image : goal.returns-clause-image
returns-clause-image c =
    let numbers : c.deref-2.result.now ≡ c.in_ok-numbers.numbers.items = c.deref-2.ensures.value in
    repeated_said c.args.sig.now c.premise_image.new.names c.close_some.new.names c.args.first
    c.len.result c.args.order.now c.deref-2.result.now (sort_numbers c.deref-3.result.now)
    (function_equation c.args.equation.now) c.in_ok-premise.premise c.close_some.result
    (subst (ListsNumbers c.args.first c.args.order.now c.len.result) (sym numbers)
    c.in_ok-numbers.ensures)
    c.in_ok-premise.ensures.image
    (sorts_are (goal.at.returns-clause-image c).After-deref-3)
    c.close_some.ensures.image
