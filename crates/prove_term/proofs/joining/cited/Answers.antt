use Rattle.std.proofs.Common.{◌≡◌, ◌∷◌, [], List, ap, ◌∙◌, subst}
use Rattle.ml_pat.specs.Patterns.{Pattern}
use Rattle.ml_kernel.specs.Lemmas.{instance}
use Rattle.ml_kernel.specs.Theorems.{Theorem, IsByLemma}
use Rattle.prove_term.proofs.ResultLaws.{if_ok}
use Rattle.prove_term.proofs.InjectionLaws.{cites_conclusion}
use Rattle.prove_term.proofs.joining.cited.Goals as goal

pub returns-clause-conclusion : goal.returns-clause-conclusion
returns-clause-conclusion c =
    if_ok c.use_lemma.result
    (λ made is. λ f s t p cites.
    let images : c.deref.result.now ≡ p ∷ [] =
    c.deref.ensures.value ∙ c.in_ok-images.ensures.items
    ∙ ap (λ (q : Pattern). q ∷ []) (c.in_ok-subject.ensures p s cites.proved) in
    is ∙ ap (λ (ms : List Pattern). instance ms c.args.lemma.now.conclusion) images
    ∙ cites_conclusion f s t p c.args.lemma.now c.args.proof cites)
    c.use_lemma.ensures.conclusion

pub returns-clause-by : goal.returns-clause-by
returns-clause-by c =
    if_ok c.use_lemma.result
    (λ made by. λ f s t p cites.
    let images : c.deref.result.now ≡ p ∷ [] =
    c.deref.ensures.value ∙ c.in_ok-images.ensures.items
    ∙ ap (λ (q : Pattern). q ∷ []) (c.in_ok-subject.ensures p s cites.proved) in
    let proofs : c.deref-2.result.now ≡ c.args.proof ∷ [] =
    c.deref-2.ensures.value ∙ c.in_ok-proofs.ensures.items in
    subst (λ (ts : List Theorem). IsByLemma c.args.lemma.now (p ∷ []) ts made) proofs (subst
    (λ (ms : List Pattern). IsByLemma c.args.lemma.now ms c.deref-2.result.now made) images by))
    c.use_lemma.ensures.lemma
