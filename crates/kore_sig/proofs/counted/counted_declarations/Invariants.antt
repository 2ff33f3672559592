use Rattle.std.proofs.Common.{◌≡◌, map, take}
use Rattle.std.specs.Borrow.{Bor}
use Rattle.kore_ast.specs.declared.tree.Decl.{Decl}
use Rattle.kore_ast.specs.Plain.{plain_declaration}
use Rattle.kore_sig.specs.declared.counted.Placed.{Placed}
use Rattle.kore_sig.proofs.counted.counted_declarations.Given as goal

abbrev pub invariant-loop-one : goal.invariant-loop-one
invariant-loop-one l =
    map (λ (d : Bor Decl). plain_declaration d.now) l.decls.items
    ≡ map (λ (p : Placed). plain_declaration p.decl.now) (take l.one-index l.one-items)
