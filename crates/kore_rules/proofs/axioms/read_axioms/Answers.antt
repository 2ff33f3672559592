use Rattle.std.proofs.Common.{◌≡◌, ◌+◌, ◌∙◌, ap, sym, subst, List, ◌∷◌, map, take, drop, Option}
use Rattle.std.proofs.Common.{Some, None}
use Rattle.std.specs.Borrow.{Bor}
use Rattle.std.proofs.lemmas.Result.{err_from_is_err_and}
use Rattle.kore_text.specs.Trees.{SortTree, AxiomDeclaration}
use Rattle.kore_ast.specs.declared.tree.AxiomDecl.{AxiomDecl}
use Rattle.kore_sig.specs.FirstFault.{Fault}
use Rattle.kore_sig.proofs.ListLaws.{map_step, drop_step}
use Rattle.kore_axioms.specs.AxiomClasses.{AxiomClass, axiom_class}
use Rattle.kore_rules.specs.AxiomsRead.{HaveRead, IsFirstSort, sort_at, tree_at}
use Rattle.kore_rules.specs.FirstRefusal.{FirstOfClass, FirstOfAxioms, first_sort}
use Rattle.kore_rules.proofs.FirstLaws.{FirstBehind, refuses_into, behind_clear, behind_fault}
use Rattle.kore_rules.proofs.FirstLaws.{first_more}
use Rattle.kore_rules.proofs.axioms.read_axioms.Goals as goal

pub returns-in_err-read_axiom-clause-refused : goal.returns-in_err-read_axiom-clause-refused
returns-in_err-read_axiom-clause-refused c =
    let sig = c.args.sig.now in
    let i = c.loop-decl.decl-index in
    let a = tree_at c.decl-item.result in
    let first = sort_at c.loop-decl.first in
    let left = map tree_at (drop (i + 1) c.args.axioms.now) in
    let next : map tree_at (drop i c.args.axioms.now) ≡ a ∷ left =
    ap (map tree_at) (drop_step c.args.axioms.now i c.decl-item.result c.loop-decl-test.true
    c.decl-item.is) in
    let q = err_from_is_err_and c.from_residual-in_err-read_axiom.result
    c.from_residual-in_err-read_axiom.ensures.1 in
    rw (q.1, q.2) (refuses_into _
    (λ (f : Fault). FirstOfAxioms sig (map tree_at c.args.axioms.now) (Some f))
    c.in_err-read_axiom.field-0.0
    (λ f is. c.loop-decl.invariant.behind (Some f)
    (subst (λ (axioms : List AxiomDeclaration). FirstBehind sig first axioms (Some f)) (sym next)
    (behind_fault sig first a left f (subst
    (λ (k : AxiomClass). FirstOfClass sig first a k (Some f)) c.class_of-class.ensures is))))
    c.in_err-read_axiom.ensures.refused)

pub loop-decl-preserved : goal.loop-decl-preserved
loop-decl-preserved c =
    let sig = c.args.sig.now in
    let i = c.loop-decl.decl-index in
    let a = tree_at c.decl-item.result in
    let first = sort_at c.loop-decl.first in
    let left = map tree_at (drop (i + 1) c.args.axioms.now) in
    let next : map tree_at (drop i c.args.axioms.now) ≡ a ∷ left =
    ap (map tree_at) (drop_step c.args.axioms.now i c.decl-item.result c.loop-decl-test.true
    c.decl-item.is) in
    let more =
    map_step tree_at c.args.axioms.now i c.decl-item.result c.loop-decl-test.true
    c.decl-item.is in
    let clear : FirstOfClass sig first a (axiom_class sig a) None =
    subst (λ (k : AxiomClass). FirstOfClass sig first a k None) c.class_of-class.ensures
    c.in_ok-read_axiom.ensures.clear in
    let then : sort_at c.first_sort-first.result ≡ first_sort first (axiom_class sig a) =
    c.first_sort-first.ensures ∙ ap (first_sort first) c.class_of-class.ensures in
    record {
      read =
          subst (λ (axioms : List AxiomDeclaration). HaveRead sig axioms c.read_axiom.new.readings)
          (sym more) (c.in_ok-read_axiom.ensures.read (map tree_at (take i c.args.axioms.now))
          c.loop-decl.invariant.read);
      first =
          subst (λ (s : Option SortTree).
          IsFirstSort sig (map tree_at (take (i + 1) c.args.axioms.now)) s) (sym then)
          (subst (λ (axioms : List AxiomDeclaration).
          IsFirstSort sig axioms (first_sort first (axiom_class sig a))) (sym more)
          (first_more sig (map tree_at (take i c.args.axioms.now)) first a
          c.loop-decl.invariant.first clear));
      behind = λ r rest. c.loop-decl.invariant.behind r
          (subst (λ (axioms : List AxiomDeclaration). FirstBehind sig first axioms r) (sym next)
          (behind_clear sig first a left r clear
          (subst (λ (s : Option SortTree). FirstBehind sig s left r) then rest)));
    }
