use Rattle.std.proofs.Common.{rules, ◌≡◌, ◌++◌, length, false, arith}
use Rattle.term_core.specs.RulePatterns.{plain_pattern, sort_numbers}
use Rattle.prove_open.specs.FactSides.{side_parts}
use Rattle.prove_open.proofs.GatheringLaws.{ready_grown}
use Rattle.prove_open.proofs.FactsTaken.{have_grown}
use Rattle.prove_open.proofs.fact_sides.both_facts.Goals as goal

pub side_facts-requires-2-clause-ready : goal.side_facts-requires-2-clause-ready
side_facts-requires-2-clause-ready c =
    ready_grown c.args.cx.now c.side_facts.new.cx (sort_numbers c.args.sorts.now)
    c.args.given.now c.in_ok-facts.ensures.grown c.requires.ready

pub returns-clause-have : goal.returns-clause-have
returns-clause-have c =
    let are : c.append.new.self.items
    ≡ c.in_ok-facts.facts.items ++ c.in_ok-more.more.items = search rules in
    let many : length c.in_ok-facts.facts.items ≡ c.len-count.result =
    omega (arith, c.len-count.ensures) in
    record {
      first = c.in_ok-facts.facts.items;
      second = c.in_ok-more.more.items;
      are = are;
      many = many;
      lefts =
          have_grown c.side_facts.new.cx c.side_facts-2.new.cx (sort_numbers c.args.sorts.now)
          c.args.given.now (side_parts false (plain_pattern c.args.left.now))
          c.in_ok-facts.facts.items c.in_ok-more.ensures.grown c.in_ok-facts.ensures.have;
      rights = c.in_ok-more.ensures.have;
    }
