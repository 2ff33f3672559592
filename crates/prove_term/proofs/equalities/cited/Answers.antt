use Rattle.std.proofs.Common.{List, sym, ◌∙◌, ap, subst}
use Rattle.std.specs.Prelude.{All}
use Rattle.std.specs.List.{AllZip}
use Rattle.ml_pat.specs.Patterns.{Pattern}
use Rattle.ml_kernel.specs.Lemmas.{instance}
use Rattle.ml_kernel.specs.Theorems.{Theorem, conclusions}
use Rattle.ml_derived.specs.Scopes.{CitesWithin}
use Rattle.prove_term.specs.EqualityLemmas.{IsEqualityHypothesis, ProvesEither}
use Rattle.prove_term.proofs.ResultLaws.{if_ok}
use Rattle.prove_term.proofs.EqualityLaws.{hypotheses_metas, conclusion_metas, proofs_conclude}
use Rattle.prove_term.proofs.EqualityLaws.{cites}
use Rattle.prove_term.proofs.equalities.cited.Goals as goal

pub proofs-requires : goal.proofs-requires
proofs-requires c =
    subst (All (IsEqualityHypothesis c.args.which)) (sym c.hypotheses.ensures.value)
    c.requires.lemma.hypotheses

pub use_lemma-requires-clause-hypotheses_metas : goal.use_lemma-requires-clause-hypotheses_metas
use_lemma-requires-clause-hypotheses_metas c =
    hypotheses_metas c.args.which _ c.args.lemma.now.hypotheses c.requires.enough
    c.requires.lemma.hypotheses

pub use_lemma-requires-clause-conclusion_metas : goal.use_lemma-requires-clause-conclusion_metas
use_lemma-requires-clause-conclusion_metas c =
    conclusion_metas c.args.which _ c.args.lemma.now c.requires.enough c.requires.lemma

pub use_lemma-requires-clause-proofs : goal.use_lemma-requires-clause-proofs
use_lemma-requires-clause-proofs c =
    let proofs : AllZip (ProvesEither c.args.first.now c.args.second.now)
    c.args.lemma.now.hypotheses c.in_ok-proofs.proofs.items =
    subst (λ (ps : List Pattern). AllZip (ProvesEither c.args.first.now c.args.second.now) ps
    c.in_ok-proofs.proofs.items) c.hypotheses.ensures.value c.in_ok-proofs.ensures in
    ap conclusions c.deref.ensures.value
    ∙ proofs_conclude c.args.which c.args.images.now c.args.first.now c.args.second.now
    c.requires.proved c.args.lemma.now.hypotheses c.in_ok-proofs.proofs.items
    c.requires.lemma.hypotheses proofs

pub returns-clause-conclusion : goal.returns-clause-conclusion
returns-clause-conclusion c =
    if_ok c.use_lemma.result
    (λ t says. says ∙ ap (instance c.args.images.now) c.requires.lemma.says)
    c.use_lemma.ensures.conclusion

pub returns-clause-stays : goal.returns-clause-stays
returns-clause-stays c =
    let proofs : AllZip (ProvesEither c.args.first.now c.args.second.now)
    c.args.lemma.now.hypotheses c.in_ok-proofs.proofs.items =
    subst (λ (ps : List Pattern). AllZip (ProvesEither c.args.first.now c.args.second.now) ps
    c.in_ok-proofs.proofs.items) c.hypotheses.ensures.value c.in_ok-proofs.ensures in
    if_ok c.use_lemma.result
    (λ t by. cites c.args.which c.args.lemma.now c.args.first.now c.args.second.now t
    c.args.images.now c.in_ok-proofs.proofs.items c.requires.lemma proofs
    (subst (λ (ts : List Theorem). CitesWithin c.args.lemma.now c.args.images.now ts t)
    c.deref.ensures.value by))
    c.use_lemma.ensures.stays
