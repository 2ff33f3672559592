use Rattle.std.proofs.Common.{map, take}
use Rattle.kore_ast.specs.Plain.{plain_declaration}
use Rattle.kore_sig.specs.declared.counted.Placed.{Placed}
use Rattle.kore_sig.specs.Knowing.{IsSortTable}
use Rattle.kore_sig.proofs.declared_facts.sorts_in.Given as goal

abbrev pub invariant-loop-placed : goal.invariant-loop-placed
invariant-loop-placed l =
    IsSortTable (map (λ (p : Placed). plain_declaration p.decl.now) (take l.placed-index l.decls))
    l.sorts
