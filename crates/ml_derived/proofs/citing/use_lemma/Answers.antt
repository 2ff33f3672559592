use Rattle.ml_derived.proofs.CitingLaws.{citation_stays}
use Rattle.ml_derived.proofs.citing.use_lemma.Goals as goal

pub returns-clause-stays : goal.returns-clause-stays
returns-clause-stays c =
    citation_stays c.args.lemma.now c.args.metas.now c.args.proofs.now c.use_lemma.result
    c.requires.conclusion_metas c.use_lemma.ensures.conclusion c.use_lemma.ensures.lemma
