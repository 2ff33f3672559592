use Rattle.std.proofs.Common.{map, take}
use Rattle.kore_ast.specs.Plain.{plain_declaration}
use Rattle.kore_sig.specs.declared.counted.Placed.{Placed}
use Rattle.kore_sig.specs.Knowing.{ac_in}
use Rattle.kore_sig.specs.Sets.{Knows}
use Rattle.kore_sig.proofs.declared_facts.ac_in.Given as goal

abbrev pub invariant-loop-placed : goal.invariant-loop-placed
invariant-loop-placed l =
    Knows l.names
    (ac_in (map (λ (p : Placed). plain_declaration p.decl.now) (take l.placed-index l.decls)))
