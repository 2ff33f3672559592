use Rattle.std.proofs.Common.{List, length, ap, sym, ◌∙◌, subst}
use Rattle.term_core.specs.RulePatterns.{sort_numbers}
use Rattle.term_core.specs.declared.ids.SortId.{SortId}
use Rattle.rule_core.specs.Sorting.{AreSorts}
use Rattle.ml_image.specs.Closing.{TakesSorts}
use Rattle.ml_image.proofs.ImageLaws.{gained_twice}
use Rattle.ml_image.proofs.ConstructorLaws.{are_taken, apart_closes}
use Rattle.ml_image.proofs.constructors.ctor_apart.Goals as goal

pub close_both-requires-clause-first : goal.close_both-requires-clause-first
close_both-requires-clause-first c =
    are_taken c.args.sig.now c.args.first.0 c.requires.info c.requires.sorts
    (sort_numbers c.in_ok-sorts.sorts.items) c.requires.sort c.requires.first
    c.in_ok-sorts.ensures

pub close_both-requires-clause-others : goal.close_both-requires-clause-others
close_both-requires-clause-others c =
    subst (λ (ss : List SortId). AreSorts c.args.sig.now (sort_numbers ss))
    (sym c.deref.ensures.value)
    (are_taken c.args.sig.now c.args.second.0 c.requires.other c.requires.others
    (sort_numbers c.in_ok-others.others.items) c.requires.sort c.requires.second
    c.in_ok-others.ensures)

pub returns-clause-image : goal.returns-clause-image
returns-clause-image c =
    apart_closes c.args.sig.now c.difference.new.names c.close_both.new.names c.args.first.0
    c.args.second.0 c.len.result c.len-2.result c.requires c.in_ok-sorts.sorts.items
    c.deref.result.now c.in_ok-body.body c.close_both.result c.in_ok-sorts.ensures
    (subst (λ (ss : List SortId). TakesSorts c.args.sig.now c.args.second.0 (sort_numbers ss))
    (sym c.deref.ensures.value) c.in_ok-others.ensures)
    (c.len.ensures ∙ c.in_ok-sorts.sorts.ok.0)
    (c.len-2.ensures ∙ c.in_ok-others.others.ok.0 ∙ ap length (sym c.deref.ensures.value))
    c.in_ok-body.ensures.image c.close_both.ensures.image

pub returns-clause-names : goal.returns-clause-names
returns-clause-names c =
    gained_twice _ _ _ _ c.difference.ensures.names c.close_both.ensures.names
