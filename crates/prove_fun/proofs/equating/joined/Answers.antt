use Rattle.std.proofs.Common.{subst}
use Rattle.prove_fun.specs.Evaluating.{Equates}
use Rattle.prove_fun.proofs.Equalities.{closed_sides, joinable, joined_says}
use Rattle.prove_fun.proofs.equating.joined.Goals as goal

pub join-requires-clause-joinable : goal.join-requires-clause-joinable
join-requires-clause-joinable c =
    let h = c.requires.3 in
    joinable c.args.cx.now c.requires.0 c.requires.1 c.requires.2 c.in-Some-Some.d
    c.in-Some-Some.e h.closed.0
    (subst (Equates c.args.cx.now c.requires.0 c.requires.1) c.in-Some-Some.is-0 h.one)
    (subst (Equates c.args.cx.now c.requires.1 c.requires.2) c.in-Some-Some.is-1 h.two)

pub join-requires-clause-closed : goal.join-requires-clause-closed
join-requires-clause-closed c =
    let h = c.requires.3 in
    closed_sides c.args.cx.now c.requires.1 c.requires.2 c.in-Some-Some.e h.closed.1.0 h.closed.1.1
    (subst (Equates c.args.cx.now c.requires.1 c.requires.2) c.in-Some-Some.is-1 h.two)

pub returns-in_ok-join-in-Some-Some-clause-says : goal.returns-in_ok-join-in-Some-Some-clause-says
returns-in_ok-join-in-Some-Some-clause-says c = λ p q r h.
    joined_says c.args.cx.now c.join.new.cx p q r c.in-Some-Some.d c.in-Some-Some.e
    c.in_ok-join-in-Some-Some.field-0 c.in_ok-join-in-Some-Some.ensures.grown
    (subst (Equates c.args.cx.now p q) c.in-Some-Some.is-0 h.one)
    (subst (Equates c.args.cx.now q r) c.in-Some-Some.is-1 h.two)
    c.in_ok-join-in-Some-Some.ensures.conclusion c.in_ok-join-in-Some-Some.ensures.stays
