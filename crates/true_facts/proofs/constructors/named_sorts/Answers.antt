use Rattle.std.proofs.Common.{◌≡◌, List, ℕ, map, ap, sym, ◌∙◌}
use Rattle.std.proofs.lemmas.List.{take_all}
use Rattle.term_core.specs.RulePatterns.{sort_numbers}
use Rattle.term_core.specs.declared.ids.SortId.{SortId}
use Rattle.ml_image.specs.OwnAxioms.{sort_numbered}
use Rattle.ml_image.proofs.ClosingLaws.{named-next, no_parameter}
use Rattle.ml_image.proofs.SentenceLaws.{named_same}
use Rattle.true_facts.proofs.OnlyLaws.{only_none, only_some}
use Rattle.true_facts.proofs.constructors.named_sorts.Goals as goal

pub loop-of-preserved : goal.loop-of-preserved
loop-of-preserved c =
    named-next c.args.refs.now c.loop-of.of-index c.in-Sort.sort _ c.loop-of.sorts.items
    c.loop-of-test.true c.in-Sort.is c.loop-of.invariant
    ∙ ap (λ (ss : List SortId). map sort_numbered (sort_numbers ss))
    (sym c.in_ok-push-in-Sort.ensures.items)

pub returns-in-Param : goal.returns-in-Param
returns-in-Param c =
    only_none (λ (sorts : List ℕ). c.args.refs.now ≡ map sort_numbered sorts)
    (λ sorts h. no_parameter c.args.refs.now sorts c.loop-of.of-index _ _ h c.loop-of-test.true
    c.in-Param.is)

pub returns : goal.returns
returns c =
    let whole : c.args.refs.now ≡ map sort_numbered (sort_numbers c.loop-of.sorts.items) =
    sym (take_all c.loop-of.of-index c.args.refs.now c.loop-of-test.false)
    ∙ c.loop-of.invariant in
    only_some (λ (sorts : List ℕ). c.args.refs.now ≡ map sort_numbered sorts)
    (sort_numbers c.loop-of.sorts.items) whole
    (λ sorts h. named_same (sort_numbers c.loop-of.sorts.items) sorts (sym whole ∙ h))
