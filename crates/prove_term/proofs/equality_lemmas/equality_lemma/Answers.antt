use Rattle.prove_term.proofs.ResultLaws.{if_ok}
use Rattle.prove_term.proofs.EqualityLaws.{made_says, made_stays}
use Rattle.prove_term.proofs.equality_lemmas.equality_lemma.Goals as goal

pub returns-clause-says : goal.returns-clause-says
returns-clause-says c =
    if_ok c.made_lemma.result (λ t made. made_says c.args.which t made) c.made_lemma.ensures

pub returns-clause-stays : goal.returns-clause-stays
returns-clause-stays c =
    if_ok c.made_lemma.result (λ t made. made_stays c.args.which t made) c.made_lemma.ensures
