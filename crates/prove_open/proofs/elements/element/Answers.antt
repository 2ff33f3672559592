use Rattle.term_core.specs.RulePatterns.{plain_pattern, sort_numbers}
use Rattle.prove_term.proofs.ResultLaws.{if_ok}
use Rattle.prove_open.proofs.GatheringLaws.{has_element_grown, ready_grown}
use Rattle.prove_open.proofs.elements.element.Goals as goal

pub as_element-requires : goal.as_element-requires
as_element-requires c = record {
  known = (
    sort_numbers c.args.sorts.now,
    plain_pattern c.args.pat.now,
    ready_grown c.args.cx.now c.known.new.cx (sort_numbers c.args.sorts.now) c.args.given.now
        c.in_ok-known.ensures.grown c.requires.ready,
    has_element_grown c.args.cx.now c.known.new.cx (sort_numbers c.args.sorts.now)
        c.args.given.now (plain_pattern c.args.pat.now) c.in_ok-known.ensures.grown
        c.requires.covered,
    c.in_ok-known.ensures.is,
  );
}

pub returns-clause-is : goal.returns-clause-is
returns-clause-is c =
    if_ok c.as_element.result
    (λ t is. is (sort_numbers c.args.sorts.now) (plain_pattern c.args.pat.now)
    c.in_ok-known.ensures.is) c.as_element.ensures.is
