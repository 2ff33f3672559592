use Rattle.std.proofs.Common.{rules, ◌≡◌, [], ◌∷◌}
use Rattle.prove_term.proofs.ResultLaws.{if_ok_two}
use Rattle.prove_open.proofs.RaisingLaws.{IsTaken, subsort_fits, taken_some, taken_raises}
use Rattle.prove_open.proofs.RaisingLaws.{element_grown}
use Rattle.prove_open.proofs.injections.raised.Goals as goal

pub at_patterns-requires : goal.at_patterns-requires
at_patterns-requires c =
    let only : c.deref.result.now ≡ c.args.fact.now ∷ [] = search rules in
    subsort_fits c.subsort_from.new.self c.args.h.now c.args.k c.args.from.0 c.args.to.0
    c.requires.element.0 c.in_ok-total.total.conclusion c.args.fact.now c.deref.result.now only
    c.in_ok-total.ensures.says
    (element_grown c.args.cx.now c.subsort_from.new.self c.args.h.now c.args.k c.args.from.0
    c.requires.element.0 c.args.fact.now c.in_ok-total.ensures.grown c.requires.element.1)

pub one_under-requires : goal.one_under-requires
one_under-requires c =
    let only : c.deref.result.now ≡ c.args.fact.now ∷ [] = search rules in
    let taken : IsTaken c.subsort_from.new.self c.args.h.now c.args.k c.args.from.0 c.args.to.0
    c.in_ok-total.total c.args.fact.now c.in_ok-some.some c.deref.result.now =
    record {
      says = c.in_ok-total.ensures.says;
      total_stays = c.in_ok-total.ensures.stays;
      only = only;
      holds = c.in_ok-some.ensures.conclusion;
      stays = c.in_ok-some.ensures.stays;
    } in
    taken_some c.subsort_from.new.self c.args.h.now c.args.k c.args.from.0 c.args.to.0
    c.requires.element.0 c.in_ok-total.total c.args.fact.now c.in_ok-some.some c.deref.result.now
    taken
    (element_grown c.args.cx.now c.subsort_from.new.self c.args.h.now c.args.k c.args.from.0
    c.requires.element.0 c.args.fact.now c.in_ok-total.ensures.grown c.requires.element.1)

pub returns-clause-raises : goal.returns-clause-raises
returns-clause-raises c =
    let only : c.deref.result.now ≡ c.args.fact.now ∷ [] = search rules in
    let taken : IsTaken c.subsort_from.new.self c.args.h.now c.args.k c.args.from.0 c.args.to.0
    c.in_ok-total.total c.args.fact.now c.in_ok-some.some c.deref.result.now =
    record {
      says = c.in_ok-total.ensures.says;
      total_stays = c.in_ok-total.ensures.stays;
      only = only;
      holds = c.in_ok-some.ensures.conclusion;
      stays = c.in_ok-some.ensures.stays;
    } in
    if_ok_two c.one_under.result
    (λ made one stays. taken_raises c.args.cx.now c.subsort_from.new.self c.args.h.now c.args.k
    c.args.from.0 c.args.to.0 c.in_ok-total.total c.args.fact.now c.in_ok-some.some made
    c.deref.result.now c.in_ok-total.ensures.grown taken one stays)
    c.one_under.ensures.conclusion c.one_under.ensures.stays
