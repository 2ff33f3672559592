use Rattle.std.proofs.Common.{◌∙◌, sym, ap, ◌++◌, [], List}
use Rattle.std.specs.List.{cons_option}
use Rattle.std.specs.Borrow.{Bor}
use Rattle.kore_text.specs.Trees.{AxiomDeclaration}
use Rattle.kore_ast.specs.Plain.{plain_declaration}
use Rattle.kore_ast.specs.declared.tree.Decl.{Decl}
use Rattle.kore_sig.specs.Declarations.{axiom_declared}
use Rattle.kore_rules.proofs.ReadLaws.{kept_more}
use Rattle.kore_rules.proofs.declared.axioms_of.Goals as goal

pub loop-decl-preserved : goal.loop-decl-preserved
loop-decl-preserved c =
    c.in_ok-add_axiom.ensures
    ∙ ap (λ (axioms : List AxiomDeclaration).
    axioms ++ cons_option (axiom_declared (plain_declaration c.decl-item.result.now)) [])
    c.loop-decl.invariant
    ∙
    sym (kept_more (λ (d : Bor Decl). plain_declaration
    d.now) axiom_declared c.deref-decl-items.result.now c.loop-decl.decl-index c.decl-item.result
    c.loop-decl-test.true c.decl-item.is)
