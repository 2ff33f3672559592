use Rattle.std.proofs.Common.{rules, ◌≡◌, ◌++◌}
use Rattle.term_core.specs.RulePatterns.{sort_numbers}
use Rattle.prove_open.proofs.GatheringLaws.{ready_grown, have_elements_grown, elements_grown}
use Rattle.prove_open.proofs.elements.both_elements.Goals as goal

pub all_elements-requires-2-clause-ready : goal.all_elements-requires-2-clause-ready
all_elements-requires-2-clause-ready c =
    ready_grown c.args.cx.now c.all_elements.new.cx (sort_numbers c.args.sorts.now)
    c.args.given.now c.in_ok-facts.ensures.grown c.requires.ready

pub all_elements-requires-2-clause-covered : goal.all_elements-requires-2-clause-covered
all_elements-requires-2-clause-covered c =
    have_elements_grown c.args.cx.now c.all_elements.new.cx (sort_numbers c.args.sorts.now)
    c.args.given.now c.args.right.now c.in_ok-facts.ensures.grown c.requires.right

pub returns-clause-are : goal.returns-clause-are
returns-clause-are c =
    let are : c.append.new.self.items
    ≡ c.in_ok-facts.facts.items ++ c.in_ok-more.more.items = search rules in
    record {
      first = c.in_ok-facts.facts.items;
      second = c.in_ok-more.more.items;
      are = are;
      lefts =
          elements_grown c.all_elements.new.cx c.all_elements-2.new.cx
          (sort_numbers c.args.sorts.now) c.args.given.now c.args.left.now
          c.in_ok-facts.facts.items c.in_ok-more.ensures.grown c.in_ok-facts.ensures.are;
      rights = c.in_ok-more.ensures.are;
    }
