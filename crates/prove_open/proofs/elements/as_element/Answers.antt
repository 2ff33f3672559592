use Rattle.prove_term.proofs.ResultLaws.{if_ok_two}
use Rattle.prove_open.proofs.GroundLaws.{term_sorted, term_under}
use Rattle.prove_open.proofs.KnownLaws.{is_term}
use Rattle.prove_open.proofs.elements.as_element.Goals as goal

pub fun_of-requires-clause-sorted : goal.fun_of-requires-clause-sorted
fun_of-requires-clause-sorted c =
    let (sorts, p, ready, element, known) = c.requires.known in
    term_sorted c.args.cx.now.program.sig sorts c.args.given.now p c.in-Term.term
    (is_term c.args.cx.now sorts c.args.given.now p c.args.known.now c.in-Term.term c.in-Term.is
    known) element

pub returns-in_ok-fact-in-Term-clause-is : goal.returns-in_ok-fact-in-Term-clause-is
returns-in_ok-fact-in-Term-clause-is c =
    if_ok_two c.lift.result
    (λ t says stays sorts p known. term_under c.args.cx.now c.fun_of.new.cx sorts
    c.args.given.now p c.in-Term.term c.in_ok-fact-in-Term.fact t
    c.in_ok-fact-in-Term.ensures.grown
    (is_term c.args.cx.now sorts c.args.given.now p c.args.known.now c.in-Term.term c.in-Term.is
    known)
    c.in_ok-fact-in-Term.ensures.says c.in_ok-fact-in-Term.ensures.stays
    c.requires.known.2.given.over says stays)
    c.lift.ensures.conclusion c.lift.ensures.stays
