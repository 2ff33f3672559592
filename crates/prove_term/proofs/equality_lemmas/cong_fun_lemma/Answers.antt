use Rattle.std.proofs.Common.{sym, ◌∙◌, ap, subst}
use Rattle.ml_pat.specs.Patterns.{Pattern, app, equal, meta}
use Rattle.ml_kernel.specs.Lemmas.{HasNoVariable}
use Rattle.ml_derived.specs.Scopes.{IsOver}
use Rattle.prove_term.specs.EqualityLemmas.{same_metas}
use Rattle.prove_term.proofs.ResultLaws.{if_ok_two}
use Rattle.prove_term.proofs.EqualityLaws.{first_there}
use Rattle.prove_term.proofs.equality_lemmas.cong_fun_lemma.Goals as goal

pub cong_fun-requires-clause-equality : goal.cong_fun-requires-clause-equality
cong_fun-requires-clause-equality c =
    (meta 0, (meta 1, (c.in_ok-equality.ensures.conclusion, tt)))

pub cong_fun-requires-clause-closed : goal.cong_fun-requires-clause-closed
cong_fun-requires-clause-closed c = subst HasNoVariable (sym c.in_ok-argument.ensures) tt

pub returns : goal.returns
returns c =
    if_ok_two c.cong_fun.result
    (λ t says stays. record {
      says =
          says (meta 0) (meta 1) c.in_ok-equality.ensures.conclusion
          ∙ ap (λ (p : Pattern). equal (app (meta 0) p) (app (meta 1) p)) c.in_ok-argument.ensures;
      stays = λ s objects metas may.
          stays s (subst (IsOver s) (sym c.in_ok-argument.ensures) (metas 2), (objects 0, tt)) (
            c.in_ok-equality.ensures.stays s
                (may (same_metas 0 1) (first_there (same_metas 0 1) (same_metas 0 1)))
                (metas 0, metas 1),
            tt,
          );
    })
    c.cong_fun.ensures.conclusion c.cong_fun.ensures.stays
