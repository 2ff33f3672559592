use Rattle.std.proofs.Common.{map, take}
use Rattle.kore_ast.specs.Plain.{pattern_tree}
use Rattle.kore_sig.specs.Attributes.{subsort_pairs}
use Rattle.kore_sig.specs.Declarations.{pair_at}
use Rattle.kore_sig.specs.Ordering.{Passes}
use Rattle.kore_sig.proofs.pairs.add_pairs.Given as goal

abbrev pub invariant-loop-attr : goal.invariant-loop-attr
invariant-loop-attr l =
    Passes l.sorts l.fn.subsorts l.subsorts (map (pair_at l.decl.at)
    (subsort_pairs (map pattern_tree (take l.attr-index l.decl.attrs.items))))
