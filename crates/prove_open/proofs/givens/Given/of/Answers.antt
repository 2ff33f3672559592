use Rattle.term_core.specs.RulePatterns.{sort_numbers}
use Rattle.prove_open.proofs.GivenLaws.{given_of}
use Rattle.prove_open.proofs.givens.Given.of.Goals as goal

pub returns-clause-given : goal.returns-clause-given
returns-clause-given c =
    given_of c.hypothesis.new.cx (sort_numbers c.args.sorts.now) c.args.variables.now
    (record { hypothesis = c.in_ok-hypothesis.hypothesis; facts = c.in_ok-facts.facts })
    c.in_ok-hypothesis.ensures.image c.in_ok-facts.ensures
