use Rattle.std.proofs.Common.{◌<◌, ℕ, length, get_or, sym, arith}
use Rattle.std.proofs.lemmas.List.{get_or_default}
use Rattle.term_core.specs.RulePatterns.{sort_numbers}
use Rattle.prove_term.proofs.InjectionSteps.{length-numbers}
use Rattle.prove_open.proofs.GivenLaws.{variable_low, left_start, left_conjoined, left_next}
use Rattle.prove_open.proofs.GivenLaws.{left_end}
use Rattle.prove_open.proofs.givens.facts_of.Goals as goal

pub loop-x-init : goal.loop-x-init
loop-x-init c =
    left_start (sort_numbers c.args.sorts.now) c.args.variables.now c.args.h.now
    (length c.args.sorts.now) c.in_ok-rest.rest c.in_ok-facts.facts.items
    (sym (length-numbers c.args.sorts.now)) c.in_ok-facts.ensures c.in_ok-rest.ensures.conclusion
    c.in_ok-rest.ensures.stays

pub loop-x-preserved : goal.loop-x-preserved
loop-x-preserved c =
    let x : ℕ = get_or c.args.variables.now c.loop-x.x-index 0 in
    let low : x < length (sort_numbers c.args.sorts.now) =
    omega (
      arith,
      length-numbers c.args.sorts.now,
      variable_low (length c.args.sorts.now) c.args.variables.now c.loop-x.x-index
          c.requires.variables c.loop-x-test.true,
    ) in
    left_next (sort_numbers c.args.sorts.now) c.args.variables.now c.args.h.now c.loop-x.x-index x
    c.loop-x.rest c.in_ok-first.field-0 c.in_ok-rest-2.rest c.loop-x.facts.items
    c.requires.hypothesis c.loop-x.invariant c.loop-x-test.true
    (get_or_default c.args.variables.now c.loop-x.x-index 0 x c.loop-x-test.true) low
    c.in_ok-first.ensures.conclusion c.in_ok-first.ensures.stays
    c.in_ok-rest-2.ensures.conclusion c.in_ok-rest-2.ensures.stays

pub first-requires : goal.first-requires
first-requires c =
    let x : ℕ = get_or c.args.variables.now c.loop-x.x-index 0 in
    left_conjoined (sort_numbers c.args.sorts.now) c.args.variables.now c.args.h.now
    c.loop-x.x-index x c.loop-x.rest c.loop-x.facts.items c.requires.hypothesis
    c.loop-x.invariant c.loop-x-test.true
    (get_or_default c.args.variables.now c.loop-x.x-index 0 x c.loop-x-test.true)

pub second-requires : goal.second-requires
second-requires c =
    let x : ℕ = get_or c.args.variables.now c.loop-x.x-index 0 in
    left_conjoined (sort_numbers c.args.sorts.now) c.args.variables.now c.args.h.now
    c.loop-x.x-index x c.loop-x.rest c.loop-x.facts.items c.requires.hypothesis
    c.loop-x.invariant c.loop-x-test.true
    (get_or_default c.args.variables.now c.loop-x.x-index 0 x c.loop-x-test.true)

pub returns : goal.returns
returns c =
    left_end (sort_numbers c.args.sorts.now) c.args.variables.now c.args.h.now c.loop-x.x-index
    c.loop-x.rest c.loop-x.facts.items (omega (arith, c.loop-x-test.false)) c.loop-x.invariant
