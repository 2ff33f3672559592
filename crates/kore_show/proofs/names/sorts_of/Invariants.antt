use Rattle.std.proofs.Common.{◌≡◌, map, take, Some}
use Rattle.kore_text.specs.Trees.{SortTree}
use Rattle.term_core.specs.declared.ids.SortId.{SortId}
use Rattle.kore_ast.specs.Plain.{plain_sort}
use Rattle.kore_show.specs.KorePatterns.{kore_sort}
use Rattle.kore_show.proofs.names.sorts_of.Given as goal

abbrev pub invariant-loop-sort : goal.invariant-loop-sort
invariant-loop-sort l = map (λ (s : SortId). kore_sort l.sig s.0) (take l.sort-index l.sorts)
    ≡ map (λ (t : SortTree). Some t) (map plain_sort l.named.items)
