use Rattle.std.proofs.Common.{Bool, sym, subst}
use Rattle.prove_term.specs.Naming.{IsNamedTerm}
use Rattle.prove_term.proofs.NamingSteps.{named_first, named_last}
use Rattle.prove_term.proofs.ResultLaws.{if_ok_two}
use Rattle.prove_term.proofs.naming.with_name.Goals as goal

pub returns-then-first-clause-says : goal.returns-then-first-clause-says
returns-then-first-clause-says c =
    if_ok_two c.name_first.result
    (λ t says stays. subst (λ (b : Bool).
    IsNamedTerm c.args.cx.now c.name_first.new.cx b c.args.image.now c.args.part t)
    (sym c.if-first.true)
    (named_first c.args.cx.now c.name_first.new.cx c.args.image.now c.args.part
    c.in_ok-equality.equality t c.name_first.ensures.grown c.requires.closed
    c.in_ok-equality.ensures.says says stays))
    c.name_first.ensures.conclusion c.name_first.ensures.stays

pub returns-clause-says : goal.returns-clause-says
returns-clause-says c =
    if_ok_two c.name_last.result
    (λ t says stays. subst (λ (b : Bool).
    IsNamedTerm c.args.cx.now c.name_last.new.cx b c.args.image.now c.args.part t)
    (sym c.if-first.false)
    (named_last c.args.cx.now c.name_last.new.cx c.args.image.now c.args.part
    c.in_ok-equality.equality t c.name_last.ensures.grown c.requires.closed
    c.in_ok-equality.ensures.says says stays))
    c.name_last.ensures.conclusion c.name_last.ensures.stays
