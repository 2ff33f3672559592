use Rattle.std.proofs.Common.{sym, ◌∙◌, ap, subst}
use Rattle.ml_pat.specs.Patterns.{Pattern, app, equal, meta}
use Rattle.ml_kernel.specs.Lemmas.{HasNoVariable}
use Rattle.ml_derived.specs.Scopes.{IsOver}
use Rattle.prove_term.specs.EqualityLemmas.{same_metas}
use Rattle.prove_term.proofs.ResultLaws.{if_ok_two}
use Rattle.prove_term.proofs.EqualityLaws.{first_there}
use Rattle.prove_term.proofs.equality_lemmas.cong_arg_lemma.Goals as goal

pub cong_arg-requires-clause-equality : goal.cong_arg-requires-clause-equality
cong_arg-requires-clause-equality c =
    (meta 1, (meta 2, (c.in_ok-equality.ensures.conclusion, tt)))

pub cong_arg-requires-clause-closed : goal.cong_arg-requires-clause-closed
cong_arg-requires-clause-closed c = subst HasNoVariable (sym c.in_ok-function.ensures) tt

pub returns : goal.returns
returns c =
    if_ok_two c.cong_arg.result
    (λ t says stays. record {
      says =
          says (meta 1) (meta 2) c.in_ok-equality.ensures.conclusion
          ∙ ap (λ (p : Pattern). equal (app p (meta 1)) (app p (meta 2))) c.in_ok-function.ensures;
      stays = λ s objects metas may.
          stays s (subst (IsOver s) (sym c.in_ok-function.ensures) (metas 0), (objects 0, tt)) (
            c.in_ok-equality.ensures.stays s
                (may (same_metas 1 2) (first_there (same_metas 1 2) (same_metas 1 2)))
                (metas 1, metas 2),
            tt,
          );
    })
    c.cong_arg.ensures.conclusion c.cong_arg.ensures.stays
