use Rattle.std.proofs.Common.{◌≡◌, sym, ◌∙◌, ap, subst}
use Rattle.ml_pat.specs.Patterns.{imp, bot}
use Rattle.ml_derived.specs.Scopes.{IsOver}
use Rattle.prove_term.proofs.ResultLaws.{if_ok}
use Rattle.refute.proofs.supposing.denied.Goals as goal

pub returns-clause-stays : goal.returns-clause-stays
returns-clause-stays c =
    let is : c.in_ok-denial.denial ≡ imp c.args.e.now bot =
    c.in_ok-denial.ensures ∙ ap (imp c.args.e.now) c.in_ok-bot.ensures in
    if_ok c.bot_to_not.result
    (λ t stays s hp ht. stays s tt (
      c.in_ok-second.ensures.stays s (hp.0, (subst (IsOver s) (sym is) (hp.1.0, tt), tt)) tt,
      tt,
    ))
    c.bot_to_not.ensures.stays
