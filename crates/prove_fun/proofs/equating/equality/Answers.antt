use Rattle.std.proofs.Common.{sym, ◌∙◌, ap, subst}
use Rattle.ml_pat.specs.Patterns.{Pattern, equal}
use Rattle.prove_term.proofs.ResultLaws.{if_ok_two}
use Rattle.prove_fun.specs.Evaluating.{Equates}
use Rattle.prove_fun.proofs.equating.equality.Goals as goal

pub returns-in-Some : goal.returns-in-Some
returns-in-Some c = λ cx a over known. subst (Equates cx a c.args.image.now) c.in-Some.is known

pub returns-in-None : goal.returns-in-None
returns-in-None c =
    if_ok_two c.eq_refl.result
    (λ t says stays. λ cx a over known.
    record {
      says =
          says
          ∙ ap (λ (p : Pattern). equal p c.args.image.now)
          (sym (subst (Equates cx a c.args.image.now) c.in-None.is known));
      stays = λ s has. stays s (over s has, tt) tt;
    })
    c.eq_refl.ensures.conclusion c.eq_refl.ensures.stays
