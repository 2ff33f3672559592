use Rattle.std.proofs.Common.{◌≡◌, map, take, Some}
use Rattle.kore_ast.specs.Plain.{plain_sort}
use Rattle.kore_sig.specs.SortReferences.{sort_reference}
use Rattle.kore_sig.proofs.symbols.references.Given as goal

abbrev pub invariant-loop-arg : goal.invariant-loop-arg
invariant-loop-arg l = map Some l.refs.items
    ≡ map (sort_reference l.sorts l.params) (map plain_sort (take l.arg-index l.args))
