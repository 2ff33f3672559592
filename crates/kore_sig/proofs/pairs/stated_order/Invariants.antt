use Rattle.std.proofs.Common.{[], map, take}
use Rattle.kore_ast.specs.Plain.{plain_declaration}
use Rattle.kore_sig.specs.declared.counted.Placed.{Placed}
use Rattle.kore_sig.specs.Ordering.{Passes, pairs_in}
use Rattle.kore_sig.proofs.pairs.stated_order.Given as goal

abbrev pub invariant-loop-placed : goal.invariant-loop-placed
invariant-loop-placed l =
    Passes l.sorts [] l.subsorts (pairs_in
    (map (λ (p : Placed). plain_declaration p.decl.now) (take l.placed-index l.decls)))
