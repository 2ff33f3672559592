use Rattle.std.proofs.Common.{Option, sym, subst}
use Rattle.ml_kernel.specs.Theorems.{Theorem}
use Rattle.prove_term.specs.Naming.{IsEqualityOf}
use Rattle.prove_term.proofs.NamingSteps.{refl_equals}
use Rattle.prove_term.proofs.ResultLaws.{if_ok_two}
use Rattle.prove_term.proofs.naming.equality_of.Goals as goal

pub returns-in-None-clause-says : goal.returns-in-None-clause-says
returns-in-None-clause-says c =
    if_ok_two c.eq_refl.result
    (λ t says stays. subst (λ (o : Option Theorem). IsEqualityOf c.args.image.now o t)
    (sym c.in-None.is) (refl_equals c.args.image.now t c.requires.closed says stays))
    c.eq_refl.ensures.conclusion c.eq_refl.ensures.stays
