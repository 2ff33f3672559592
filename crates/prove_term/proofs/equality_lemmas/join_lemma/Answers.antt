use Rattle.ml_pat.specs.Patterns.{meta}
use Rattle.prove_term.specs.EqualityLemmas.{same_metas}
use Rattle.prove_term.proofs.ResultLaws.{if_ok_two}
use Rattle.prove_term.proofs.EqualityLaws.{first_there, second_there}
use Rattle.prove_term.proofs.equality_lemmas.join_lemma.Goals as goal

pub join-requires : goal.join-requires
join-requires c = (
  meta 0,
  (
    meta 1,
    (
      meta 2,
      (
        c.in_ok-first.ensures.conclusion,
        (c.in_ok-second.ensures.conclusion, tt),
      ),
    ),
  ),
)

pub returns : goal.returns
returns c =
    if_ok_two c.join.result
    (λ t says stays. record {
      says =
          says (meta 0) (meta 1) (meta 2) c.in_ok-first.ensures.conclusion
          c.in_ok-second.ensures.conclusion;
      stays = λ s objects metas may.
          stays s (objects 0, tt) (
            c.in_ok-first.ensures.stays s
                (may (same_metas 0 1) (first_there (same_metas 0 1) (same_metas 1 2)))
                (metas 0, metas 1),
            (
              c.in_ok-second.ensures.stays s
                  (may (same_metas 1 2) (second_there (same_metas 0 1) (same_metas 1 2)))
                  (metas 1, metas 2),
              tt,
            ),
          );
    })
    c.join.ensures.conclusion c.join.ensures.stays
