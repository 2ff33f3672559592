use Rattle.std.proofs.Common.{List, sym, subst}
use Rattle.term_core.specs.RulePatterns.{plain_pattern, sort_numbers}
use Rattle.term_core.specs.declared.ids.SortId.{SortId}
use Rattle.rule_core.specs.Sorting.{AreSorts}
use Rattle.ml_image.specs.SideSorts.{HasSideSorts}
use Rattle.ml_image.proofs.ImageLaws.{gained_twice}
use Rattle.ml_image.proofs.SideLaws.{first_side, second_side, first_sorts, second_sorts}
use Rattle.ml_image.proofs.SideLaws.{unequal_closes}
use Rattle.ml_image.proofs.apart.apart_fact.Goals as goal

pub side_sorts-requires : goal.side_sorts-requires
side_sorts-requires c =
    first_side c.args.sig.now (plain_pattern c.args.left.now) (plain_pattern c.args.right.now)
    c.requires

pub side_sorts-requires-2 : goal.side_sorts-requires-2
side_sorts-requires-2 c =
    second_side c.args.sig.now (plain_pattern c.args.left.now) (plain_pattern c.args.right.now)
    c.requires

pub term_image-requires : goal.term_image-requires
term_image-requires c = c.requires.left

pub term_image-requires-2 : goal.term_image-requires-2
term_image-requires-2 c = c.requires.right

pub close_both-requires-clause-first : goal.close_both-requires-clause-first
close_both-requires-clause-first c =
    first_sorts c.args.sig.now (plain_pattern c.args.left.now) (plain_pattern c.args.right.now)
    (sort_numbers c.in_ok-sorts.sorts.items) (sort_numbers c.in_ok-others.others.items) c.requires
    c.in_ok-sorts.ensures c.in_ok-others.ensures

pub close_both-requires-clause-others : goal.close_both-requires-clause-others
close_both-requires-clause-others c =
    subst (λ (ss : List SortId). AreSorts c.args.sig.now (sort_numbers ss))
    (sym c.deref.ensures.value)
    (second_sorts c.args.sig.now (plain_pattern c.args.left.now) (plain_pattern c.args.right.now)
    (sort_numbers c.in_ok-sorts.sorts.items) (sort_numbers c.in_ok-others.others.items) c.requires
    c.in_ok-sorts.ensures c.in_ok-others.ensures)

pub returns-clause-image : goal.returns-clause-image
returns-clause-image c =
    unequal_closes c.args.sig.now c.term_image.new.names c.term_image-2.new.names
    c.close_both.new.names (plain_pattern c.args.left.now) (plain_pattern c.args.right.now)
    (sort_numbers c.in_ok-sorts.sorts.items) (sort_numbers c.deref.result.now) c.in_ok-first.first
    c.in_ok-second.second c.in_ok-equal.field-0 c.in_ok-body.body c.close_both.result c.requires
    c.in_ok-sorts.ensures
    (subst (λ (ss : List SortId).
    HasSideSorts c.args.sig.now (plain_pattern c.args.right.now) (sort_numbers ss))
    (sym c.deref.ensures.value) c.in_ok-others.ensures)
    c.term_image-2.ensures.names c.in_ok-first.ensures.image c.in_ok-second.ensures.image
    c.in_ok-equal.ensures c.in_ok-body.ensures c.close_both.ensures.image

pub returns-clause-names : goal.returns-clause-names
returns-clause-names c =
    gained_twice _ _ _ _ (gained_twice _ _ _ _ c.term_image.ensures.names
    c.term_image-2.ensures.names) c.close_both.ensures.names
