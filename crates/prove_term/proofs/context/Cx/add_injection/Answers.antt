use Rattle.std.proofs.Common.{length, List, sym, ◌∙◌, ap, subst}
use Rattle.ml_kernel.specs.Theorems.{Theorem}
use Rattle.prove_term.specs.Contexts.{Context}
use Rattle.prove_term.specs.Injections.{IsInjectionAt}
use Rattle.prove_term.proofs.InjectionSteps.{injection_learned}
use Rattle.prove_term.proofs.context.Cx.add_injection.Goals as goal

pub keep_injection-requires : goal.keep_injection-requires
keep_injection-requires c =
    subst (λ (v : Context).
    IsInjectionAt v c.args.from.0 c.args.to.0 (length c.lemmas-place.result.now))
    (sym c.in_ok-add_lemma.ensures.ok)
    (injection_learned c.args.self.now c.args.from.0 c.args.to.0 (length c.lemmas-place.result.now)
    c.args.lemma c.requires.is (ap (λ (ts : List Theorem). length ts) c.lemmas-place.ensures))

pub returns-clause-lemma : goal.returns-clause-lemma
returns-clause-lemma c =
    subst (λ (v : Context).
    IsInjectionAt v c.args.from.0 c.args.to.0 (length c.lemmas-place.result.now))
    (sym (c.keep_injection.ensures ∙ c.in_ok-add_lemma.ensures.ok))
    (injection_learned c.args.self.now c.args.from.0 c.args.to.0 (length c.lemmas-place.result.now)
    c.args.lemma c.requires.is (ap (λ (ts : List Theorem). length ts) c.lemmas-place.ensures))
