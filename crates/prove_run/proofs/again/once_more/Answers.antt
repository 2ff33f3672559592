use Rattle.std.proofs.Common.{◌≡◌, []}
use Rattle.ml_kernel.specs.Lemmas.{instance}
use Rattle.ml_kernel.specs.Theorems.{Theorem, IsByLemma}
use Rattle.ml_image.proofs.ImageLaws.{if_ok}
use Rattle.prove_term.proofs.ResultLaws.{if_ok_two}
use Rattle.prove_run.specs.Again.{CitesLast}
use Rattle.prove_run.proofs.GoingLaws.{cited_says}
use Rattle.prove_run.proofs.LemmaLaws.{cites_last}
use Rattle.prove_run.proofs.again.once_more.Goals as goal

pub returns-clause-says : goal.returns-clause-says
returns-clause-says c =
    let last = c.args.last.now in
    if_ok (λ (t : Theorem). t.conclusion ≡ instance [] last.conclusion)
    (λ (t : Theorem). t.conclusion ≡ last.conclusion) c.use_lemma.result
    (λ t is. cited_says last.conclusion t.conclusion c.requires.metas is)
    c.use_lemma.ensures.conclusion

pub returns-clause-stays : goal.returns-clause-stays
returns-clause-stays c =
    let last = c.args.last.now in
    if_ok_two {P = λ (t : Theorem). t.conclusion ≡ instance [] last.conclusion}
    {Q = IsByLemma last [] []} {R = CitesLast last} c.use_lemma.result
    (λ t is by. cites_last last t c.requires.metas is by) c.use_lemma.ensures.conclusion
    c.use_lemma.ensures.lemma
