use Rattle.std.proofs.Common.{length, List, sym, ◌∙◌, ap, subst}
use Rattle.ml_kernel.specs.Theorems.{Theorem}
use Rattle.prove_term.specs.Contexts.{Context}
use Rattle.prove_term.specs.EqualityLemmas.{IsEqualityAt}
use Rattle.prove_term.proofs.EqualityLaws.{equality_learned}
use Rattle.prove_term.proofs.context.Cx.equality.Goals as goal

pub keep_equality-requires : goal.keep_equality-requires
keep_equality-requires c =
    subst (λ (v : Context). IsEqualityAt v c.args.which (length c.lemmas-place.result.now))
    (sym c.in_ok-add_lemma.ensures.ok)
    (equality_learned c.args.self.now c.args.which (length c.lemmas-place.result.now)
    c.in_ok-lemma.lemma c.in_ok-lemma.ensures.says
    (ap (λ (ts : List Theorem). length ts) c.lemmas-place.ensures))

pub returns-clause-lemma : goal.returns-clause-lemma
returns-clause-lemma c =
    subst (λ (v : Context). IsEqualityAt v c.args.which (length c.lemmas-place.result.now))
    (sym (c.keep_equality.ensures ∙ c.in_ok-add_lemma.ensures.ok))
    (equality_learned c.args.self.now c.args.which (length c.lemmas-place.result.now)
    c.in_ok-lemma.lemma c.in_ok-lemma.ensures.says
    (ap (λ (ts : List Theorem). length ts) c.lemmas-place.ensures))
