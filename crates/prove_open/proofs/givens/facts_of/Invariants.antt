use Rattle.term_core.specs.RulePatterns.{sort_numbers}
use Rattle.prove_open.proofs.GivenLaws.{IsLeft}
use Rattle.prove_open.proofs.givens.facts_of.Given as goal

abbrev pub invariant-loop-x : goal.invariant-loop-x
invariant-loop-x l = IsLeft (sort_numbers l.sorts) l.variables l.h l.x-index l.rest l.facts.items
