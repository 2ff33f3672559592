use Rattle.std.proofs.Common.{◌≡◌, ◌∙◌, List, get_or, ap, subst}
use Rattle.ml_kernel.specs.Theorems.{Theorem}
use Rattle.prove_term.specs.EqualityLemmas.{IsEqualityAt, IsEqualityLemma}
use Rattle.prove_term.proofs.ResultLaws.{if_ok}
use Rattle.prove_term.proofs.ElementLaws.{lemma_found}
use Rattle.prove_term.proofs.EqualityLaws.{stays_cited}
use Rattle.prove_term.proofs.equalities.by_lemma.Goals as goal

pub cited-requires-clause-lemma : goal.cited-requires-clause-lemma
cited-requires-clause-lemma c =
    let at : IsEqualityAt c.equality.new.self c.args.which c.in_ok-place.place =
    c.in_ok-place.ensures.lemma in
    let found : at.lemma ≡ c.index-lemmas-place.result =
    lemma_found c.equality.new.self.lemmas c.in_ok-place.place at.lemma
    c.index-lemmas-place.result at.there
    (c.index-lemmas-place.is
    ∙ ap (λ (ts : List Theorem). get_or ts c.in_ok-place.place c.index-lemmas-place.result)
    c.lemmas.ensures) in
    subst (IsEqualityLemma c.args.which) found at.is

pub returns-clause-stays : goal.returns-clause-stays
returns-clause-stays c =
    let at : IsEqualityAt c.equality.new.self c.args.which c.in_ok-place.place =
    c.in_ok-place.ensures.lemma in
    let found : at.lemma ≡ c.index-lemmas-place.result =
    lemma_found c.equality.new.self.lemmas c.in_ok-place.place at.lemma
    c.index-lemmas-place.result at.there
    (c.index-lemmas-place.is
    ∙ ap (λ (ts : List Theorem). get_or ts c.in_ok-place.place c.index-lemmas-place.result)
    c.lemmas.ensures) in
    if_ok c.cited.result
    (λ t by. stays_cited c.equality.new.self c.args.which c.in_ok-place.place
    c.index-lemmas-place.result c.args.first.now c.args.second.now t c.args.images.now at found by)
    c.cited.ensures.stays
