use Rattle.std.proofs.Common.{◌≡◌, ◌∙◌, sym, ap, inl, inr}
use Rattle.kore_ast.specs.Plain.{plain_axiom_decl}
use Rattle.kore_axioms.specs.AxiomClasses.{AxiomClass as ClassOfTree, orders_sorts, passed_over}
use Rattle.kore_axioms.specs.AxiomClasses.{rewrites, equates, axiom_class}
use Rattle.kore_axioms.specs.ClassViews.{plain_class}
use Rattle.kore_shapes.specs.Shapes.{Rewriting}
use Rattle.kore_shapes.specs.Statements.{StatedEquation}
use Rattle.kore_rules.proofs.AxiomReads.{read_nothing}
use Rattle.kore_rules.proofs.axioms.read_axiom.Goals as goal

neither : (k : ClassOfTree) (w : Rewriting) → k ≡ orders_sorts → k ≡ rewrites w → ⊥
neither k w e f = let both : orders_sorts ≡ rewrites w = sym e ∙ f in let never : ⊥ = cc in never

nor : (k : ClassOfTree) (s : StatedEquation) → k ≡ orders_sorts → k ≡ equates s → ⊥
nor k s e f = let both : orders_sorts ≡ equates s = sym e ∙ f in let never : ⊥ = cc in never

neither_passed : (k : ClassOfTree) (w : Rewriting) → k ≡ passed_over → k ≡ rewrites w → ⊥
neither_passed k w e f =
    let both : passed_over ≡ rewrites w = sym e ∙ f in let never : ⊥ = cc in never

nor_passed : (k : ClassOfTree) (s : StatedEquation) → k ≡ passed_over → k ≡ equates s → ⊥
nor_passed k s e f = let both : passed_over ≡ equates s = sym e ∙ f in let never : ⊥ = cc in never

pub returns-in-OrdersSorts-clause-read : goal.returns-in-OrdersSorts-clause-read
returns-in-OrdersSorts-clause-read c = λ axioms h.
    let sig = c.args.sig.now in
    let a = plain_axiom_decl c.args.decl.now in
    elim c.in-OrdersSorts.is [
      | inl e ↦ let class : axiom_class sig a ≡ orders_sorts =
          sym c.requires.class ∙ ap plain_class e in
          read_nothing sig axioms a c.args.readings.now (λ w f.
          neither (axiom_class sig a) w class f)
          (λ s f. nor (axiom_class sig a) s class f) h
      | inr e ↦ let class : axiom_class sig a ≡ passed_over =
          sym c.requires.class ∙ ap plain_class e in
          read_nothing sig axioms a c.args.readings.now
          (λ w f. neither_passed (axiom_class sig a) w class f)
          (λ s f. nor_passed (axiom_class sig a) s class f) h
    ]
