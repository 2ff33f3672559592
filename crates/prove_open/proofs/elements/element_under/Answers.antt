use Rattle.term_core.specs.RulePatterns.{plain_pattern, sort_numbers}
use Rattle.prove_term.proofs.ResultLaws.{if_ok}
use Rattle.prove_open.specs.Elements.{HasElement}
use Rattle.prove_open.proofs.GatheringLaws.{has_element_grown}
use Rattle.prove_open.proofs.ScopeLaws.{stays_no_hypotheses}
use Rattle.prove_open.proofs.elements.element_under.Goals as goal

pub element-requires-clause-ready : goal.element-requires-clause-ready
element-requires-clause-ready c = record {
  well_sorted = c.requires.well_sorted;
  given = c.requires.given;
}

pub returns-clause-says : goal.returns-clause-says
returns-clause-says c =
    if_ok c.element.result (λ t is sort covered. (is sort covered).says) c.element.ensures.is

pub returns-clause-no_hypotheses : goal.returns-clause-no_hypotheses
returns-clause-no_hypotheses c =
    let e : HasElement c.element.new.cx.program.sig (sort_numbers c.args.sorts.now)
    c.args.given.now (plain_pattern c.args.pat.now) =
    has_element_grown c.args.cx.now c.element.new.cx (sort_numbers c.args.sorts.now)
    c.args.given.now (plain_pattern c.args.pat.now) c.element.ensures.grown c.requires.covered in
    if_ok c.element.result
    (λ t is. stays_no_hypotheses c.element.new.cx t (is e.0 e.1).stays) c.element.ensures.is

pub returns-clause-stays : goal.returns-clause-stays
returns-clause-stays c =
    let e : HasElement c.element.new.cx.program.sig (sort_numbers c.args.sorts.now)
    c.args.given.now (plain_pattern c.args.pat.now) =
    has_element_grown c.args.cx.now c.element.new.cx (sort_numbers c.args.sorts.now)
    c.args.given.now (plain_pattern c.args.pat.now) c.element.ensures.grown c.requires.covered in
    if_ok c.element.result (λ t is. (is e.0 e.1).stays) c.element.ensures.is
