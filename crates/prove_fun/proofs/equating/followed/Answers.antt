use Rattle.std.proofs.Common.{subst}
use Rattle.prove_term.proofs.ResultLaws.{if_ok_two}
use Rattle.prove_fun.specs.Evaluating.{Equates}
use Rattle.prove_fun.proofs.Equalities.{closed_sides, joinable, joined_says}
use Rattle.prove_fun.proofs.equating.followed.Goals as goal

pub join-requires-clause-joinable : goal.join-requires-clause-joinable
join-requires-clause-joinable c =
    let h = c.requires.3 in
    joinable c.args.cx.now c.requires.0 c.requires.1 c.requires.2 c.args.first
    c.in-Some.equality h.closed.0 h.one
    (subst (Equates c.args.cx.now c.requires.1 c.requires.2) c.in-Some.is h.two)

pub join-requires-clause-closed : goal.join-requires-clause-closed
join-requires-clause-closed c =
    let h = c.requires.3 in
    closed_sides c.args.cx.now c.requires.1 c.requires.2 c.in-Some.equality h.closed.1.0
    h.closed.1.1
    (subst (Equates c.args.cx.now c.requires.1 c.requires.2) c.in-Some.is h.two)

pub returns-in-Some-clause-says : goal.returns-in-Some-clause-says
returns-in-Some-clause-says c =
    if_ok_two c.join.result
    (λ t joins stays. λ p q r h. joined_says c.args.cx.now c.join.new.cx p q r c.args.first
    c.in-Some.equality t c.join.ensures.grown h.one
    (subst (Equates c.args.cx.now q r) c.in-Some.is h.two) joins stays)
    c.join.ensures.conclusion c.join.ensures.stays
