use Rattle.std.proofs.Common.{◌≡◌, List, [], ap, sym, ◌∙◌, subst, refl}
use Rattle.ml_kernel.specs.Lemmas.{instance}
use Rattle.ml_kernel.specs.Theorems.{Theorem, AddsNew, all_hypotheses, all_derivations}
use Rattle.ml_kernel.specs.Premises.{theorems_of, AreKept}
use Rattle.ml_kernel.proofs.Merging.{cited-kept}
use Rattle.ml_kernel.proofs.theorems.Thm.use_lemma.Goals as goal

pub invariant_of-result : goal.invariant_of-result
invariant_of-result c =
    let first : theorems_of c.deref.result.now ≡ c.args.proofs.now =
    ap theorems_of c.deref.ensures.value ∙ c.in_ok-premises.ensures in
    let second : theorems_of c.deref-2.result.now ≡ c.args.proofs.now =
    ap theorems_of c.deref-2.ensures.value ∙ c.in_ok-premises.ensures in
    cited-kept c.args.lemma.now c.args.metas.now c.args.metas.now c.args.proofs.now
    c.in_ok-hypotheses.hypotheses.items c.in_ok-below.below.items c.in_ok-derivation.derivation
    c.in_ok-conclusion.conclusion
    c.in_ok-derivation.ensures.kept
    c.requires.no_variables
    (sym (c.in_ok-conclusion.ensures ∙ ap (instance c.args.metas.now) c.conclusion.ensures))
    c.requires.proofs
    (subst (λ (ts : List Theorem). AreKept ts) first c.in_ok-hypotheses.ensures.kept)
    (subst
    (λ (ts : List Theorem). AddsNew [] (all_hypotheses ts) c.in_ok-hypotheses.hypotheses.items)
    first c.in_ok-hypotheses.ensures.merged)
    refl
    (c.in_ok-below.ensures ∙ ap all_derivations second)
    c.in_ok-derivation.ensures.citation
