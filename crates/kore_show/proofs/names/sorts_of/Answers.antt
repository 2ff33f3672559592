use Rattle.std.proofs.Common.{◌≤◌, length, sym, ◌∙◌, ap, map, arith}
use Rattle.std.proofs.lemmas.List.{take_all, get_or_default}
use Rattle.term_core.specs.declared.ids.SortId.{SortId}
use Rattle.kore_ast.specs.Plain.{plain_sort}
use Rattle.kore_show.specs.KorePatterns.{kore_sort}
use Rattle.kore_show.proofs.ShownParts.{item-sort, each-sort}
use Rattle.kore_show.proofs.names.sorts_of.Goals as goal

pub sort_of-requires : goal.sort_of-requires
sort_of-requires c =
    item-sort c.args.sig.now c.args.sorts.now c.loop-sort.sort-index _
    (get_or_default c.args.sorts.now c.loop-sort.sort-index _ _ c.loop-sort-test.true)
    c.loop-sort-test.true c.requires

pub returns : goal.returns
returns c =
    let enough : length c.args.sorts.now ≤ c.loop-sort.sort-index = omega arith in
    each-sort c.args.sig.now c.args.sorts.now (map plain_sort c.loop-sort.named.items)
    (ap (map (λ (s : SortId). kore_sort c.args.sig.now s.0)) (sym (take_all _ _ enough))
    ∙ c.loop-sort.invariant)
