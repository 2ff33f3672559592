use Rattle.std.proofs.Common.{length, List, [], ◌∷◌, ◌++◌, sym, ◌∙◌, ap, subst}
use Rattle.ml_kernel.specs.Theorems.{Theorem}
use Rattle.prove_term.specs.Contexts.{Context, HasGrown}
use Rattle.prove_term.specs.Injections.{IsCollapsed, IsCollapseAt}
use Rattle.prove_term.proofs.ContextLaws.{grown_lemma, grown_twice}
use Rattle.prove_term.proofs.AssumingLaws.{lemma_from}
use Rattle.prove_term.proofs.InjectionSteps.{collapse_learned, collapsed_by_axiom}
use Rattle.prove_term.proofs.context.Cx.collapse.Goals as goal

pub add_lemma-requires : goal.add_lemma-requires
add_lemma-requires c =
    lemma_from c.collapse_axiom.new.self c.in_ok-stated.stated c.in_ok-lemma.lemma
    c.in_ok-stated.ensures.stays c.in_ok-lemma.ensures.stays

pub keep_collapse-requires : goal.keep_collapse-requires
keep_collapse-requires c =
    let is : IsCollapsed c.collapse_axiom.new.self c.args.from.0 c.args.through.0 c.args.to.0
    c.in_ok-lemma.lemma =
    collapsed_by_axiom c.collapse_axiom.new.self c.args.from.0 c.args.through.0 c.args.to.0
    c.in_ok-stated.stated c.in_ok-lemma.lemma c.in_ok-stated.ensures.says
    c.in_ok-lemma.ensures.says in
    subst (λ (v : Context). IsCollapseAt v c.args.from.0 c.args.through.0 c.args.to.0
    (length c.lemmas-place.result.now)) (sym c.in_ok-add_lemma.ensures.ok)
    (collapse_learned c.collapse_axiom.new.self c.args.from.0 c.args.through.0 c.args.to.0
    (length c.lemmas-place.result.now) c.in_ok-lemma.lemma is
    (ap (λ (ts : List Theorem). length ts) c.lemmas-place.ensures))

pub returns-clause-lemma : goal.returns-clause-lemma
returns-clause-lemma c =
    let is : IsCollapsed c.collapse_axiom.new.self c.args.from.0 c.args.through.0 c.args.to.0
    c.in_ok-lemma.lemma =
    collapsed_by_axiom c.collapse_axiom.new.self c.args.from.0 c.args.through.0 c.args.to.0
    c.in_ok-stated.stated c.in_ok-lemma.lemma c.in_ok-stated.ensures.says
    c.in_ok-lemma.ensures.says in
    subst (λ (v : Context). IsCollapseAt v c.args.from.0 c.args.through.0 c.args.to.0
    (length c.lemmas-place.result.now))
    (sym (c.keep_collapse.ensures ∙ c.in_ok-add_lemma.ensures.ok))
    (collapse_learned c.collapse_axiom.new.self c.args.from.0 c.args.through.0 c.args.to.0
    (length c.lemmas-place.result.now) c.in_ok-lemma.lemma is
    (ap (λ (ts : List Theorem). length ts) c.lemmas-place.ensures))

pub returns-in_err-keep_collapse-clause-grown : goal.returns-in_err-keep_collapse-clause-grown
returns-in_err-keep_collapse-clause-grown c =
    subst (HasGrown c.args.self.now) (sym (c.keep_collapse.ensures ∙ c.in_ok-add_lemma.ensures.ok))
    (grown_twice c.args.self.now c.collapse_axiom.new.self (record c.collapse_axiom.new.self
    { lemmas = c.collapse_axiom.new.self.lemmas ++ c.in_ok-lemma.lemma ∷ [] })
    c.in_ok-stated.ensures.grown
    (grown_lemma c.collapse_axiom.new.self c.in_ok-lemma.lemma))

pub returns-clause-grown : goal.returns-clause-grown
returns-clause-grown c =
    subst (HasGrown c.args.self.now) (sym (c.keep_collapse.ensures ∙ c.in_ok-add_lemma.ensures.ok))
    (grown_twice c.args.self.now c.collapse_axiom.new.self (record c.collapse_axiom.new.self
    { lemmas = c.collapse_axiom.new.self.lemmas ++ c.in_ok-lemma.lemma ∷ [] })
    c.in_ok-stated.ensures.grown
    (grown_lemma c.collapse_axiom.new.self c.in_ok-lemma.lemma))
