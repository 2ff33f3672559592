use Rattle.ml_pat.specs.Patterns.{meta}
use Rattle.prove_term.specs.EqualityLemmas.{same_metas}
use Rattle.prove_term.proofs.ResultLaws.{if_ok_two}
use Rattle.prove_term.proofs.EqualityLaws.{first_there}
use Rattle.prove_term.proofs.equality_lemmas.flip_lemma.Goals as goal

pub flip-requires : goal.flip-requires
flip-requires c = (meta 0, (meta 1, (c.in_ok-equality.ensures.conclusion, tt)))

pub returns : goal.returns
returns c =
    if_ok_two c.flip.result
    (λ t says stays. record {
      says = says (meta 0) (meta 1) c.in_ok-equality.ensures.conclusion;
      stays = λ s objects metas may.
          stays s (objects 0, tt) (
            c.in_ok-equality.ensures.stays s
                (may (same_metas 0 1) (first_there (same_metas 0 1) (same_metas 0 1)))
                (metas 0, metas 1),
            tt,
          );
    })
    c.flip.ensures.conclusion c.flip.ensures.stays
