use Rattle.std.proofs.Common.{Option, sym, subst}
use Rattle.ml_kernel.specs.Theorems.{Theorem}
use Rattle.prove_term.proofs.ResultLaws.{if_ok}
use Rattle.prove_term.proofs.ContextLaws.{grown_none}
use Rattle.prove_step.specs.Turning.{CanTurn, IsTurned, StaysTurned}
use Rattle.prove_step.proofs.TurningLaws.{as_it_was, citing_stays}
use Rattle.prove_step.proofs.turning.turned.Goals as goal

pub turned_by-requires-clause-lemma : goal.turned_by-requires-clause-lemma
turned_by-requires-clause-lemma c = c.in_ok-lemma-in-Some.ensures.lemma.is

pub turned_by-requires-clause-can : goal.turned_by-requires-clause-can
turned_by-requires-clause-can c =
    subst (λ (o : Option Theorem). CanTurn c.args.side o c.args.step) c.in-Some.is c.requires.can

pub returns-in_ok-lemma-in-Some-clause-stays : goal.returns-in_ok-lemma-in-Some-clause-stays
returns-in_ok-lemma-in-Some-clause-stays c =
    if_ok c.turned_by.result
    (λ t stays. subst (λ (o : Option Theorem). StaysTurned c.side_lemma.new.cx o c.args.step t)
    (sym c.in-Some.is)
    (citing_stays c.side_lemma.new.cx c.args.side c.in_ok-lemma-in-Some.lemma c.in-Some.e
    c.args.step t c.in_ok-lemma-in-Some.ensures.lemma stays))
    c.turned_by.ensures.stays

pub returns-in-None-clause-conclusion : goal.returns-in-None-clause-conclusion
returns-in-None-clause-conclusion c =
    subst (λ (o : Option Theorem). IsTurned c.args.side o c.args.step c.args.step)
    (sym c.in-None.is) (as_it_was c.args.side c.args.step)

pub returns-in-None-clause-stays : goal.returns-in-None-clause-stays
returns-in-None-clause-stays c = λ s has first within. within

pub returns-in-None-clause-grown : goal.returns-in-None-clause-grown
returns-in-None-clause-grown c = grown_none c.args.cx.now
