use Rattle.std.proofs.Common.{◌≡◌, map, take}
use Rattle.std.specs.Prelude.{filter_map}
use Rattle.std.specs.Borrow.{Bor}
use Rattle.kore_ast.specs.Plain.{plain_declaration}
use Rattle.kore_ast.specs.declared.tree.Decl.{Decl}
use Rattle.kore_sig.specs.Declarations.{axiom_declared}
use Rattle.kore_rules.specs.AxiomsRead.{tree_at}
use Rattle.kore_rules.proofs.declared.axioms_of.Given as goal

abbrev pub invariant-loop-decl : goal.invariant-loop-decl
invariant-loop-decl l =
    map tree_at l.axioms.items
    ≡ filter_map axiom_declared
    (map (λ (d : Bor Decl). plain_declaration d.now) (take l.decl-index l.decl-items))
