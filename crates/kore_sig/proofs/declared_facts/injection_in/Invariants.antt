use Rattle.std.proofs.Common.{◌≡◌, map, drop}
use Rattle.kore_ast.specs.Plain.{plain_declaration}
use Rattle.kore_sig.specs.declared.counted.Placed.{Placed}
use Rattle.kore_sig.specs.Knowing.{symbols_in}
use Rattle.kore_sig.specs.SymbolKinds.{injection_of}
use Rattle.kore_sig.proofs.declared_facts.injection_in.Given as goal

abbrev pub invariant-loop-placed : goal.invariant-loop-placed
invariant-loop-placed l =
    injection_of (symbols_in
    (map (λ (p : Placed). plain_declaration p.decl.now) (drop l.placed-index l.decls)))
    ≡ injection_of (symbols_in (map (λ (p : Placed). plain_declaration p.decl.now) l.decls))
