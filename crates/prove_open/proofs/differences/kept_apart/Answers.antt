use Rattle.term_core.specs.Patterns.{application}
use Rattle.term_core.specs.PatternLists.{plain_patterns}
use Rattle.term_core.specs.RulePatterns.{plain_pattern, sort_numbers}
use Rattle.prove_term.proofs.ResultLaws.{if_ok}
use Rattle.prove_open.specs.FactSides.{is_application}
use Rattle.prove_open.proofs.FactParts.{both_first, both_second, covered_as, differ_as, kept_as}
use Rattle.prove_open.proofs.differences.kept_apart.Goals as goal

pub constructor_of-requires : goal.constructor_of-requires
constructor_of-requires c =
    both_first (is_application (plain_pattern c.args.left.now))
    (is_application (plain_pattern c.args.right.now)) c.requires.clash.both_is

pub constructor_of-requires-2 : goal.constructor_of-requires-2
constructor_of-requires-2 c =
    both_second (is_application (plain_pattern c.args.left.now))
    (is_application (plain_pattern c.args.right.now)) c.requires.clash.both_is

pub constructors_apart-requires-clause-ready : goal.constructors_apart-requires-clause-ready
constructors_apart-requires-clause-ready c = c.requires.ready

pub constructors_apart-requires-clause-covered : goal.constructors_apart-requires-clause-covered
constructors_apart-requires-clause-covered c =
    covered_as c.args.cx.now.program.sig (sort_numbers c.args.sorts.now) c.args.given.now
    (plain_pattern c.args.left.now) (plain_pattern c.args.right.now)
    (application c.constructor_of.result.0.0 (plain_patterns c.constructor_of.result.1.now))
    (application c.constructor_of-2.result.0.0 (plain_patterns c.constructor_of-2.result.1.now))
    c.constructor_of.ensures c.constructor_of-2.ensures c.requires.clash.covered

pub constructors_apart-requires-clause-differ : goal.constructors_apart-requires-clause-differ
constructors_apart-requires-clause-differ c =
    differ_as c.args.cx.now.program.sig.subsorts (plain_pattern c.args.left.now)
    (plain_pattern c.args.right.now) c.constructor_of.result.0.0 c.constructor_of-2.result.0.0
    (plain_patterns c.constructor_of.result.1.now)
    (plain_patterns c.constructor_of-2.result.1.now) c.constructor_of.ensures
    c.constructor_of-2.ensures c.requires.clash.differ

pub constructors_apart-requires-clause-no_ac : goal.constructors_apart-requires-clause-no_ac
constructors_apart-requires-clause-no_ac c = c.requires.clash.free

pub returns-clause-apart : goal.returns-clause-apart
returns-clause-apart c =
    if_ok c.constructors_apart.result
    (λ made kept. kept_as c.constructors_apart.new.cx c.args.given.now.hypothesis
    (plain_pattern c.args.left.now) (plain_pattern c.args.right.now)
    (application c.constructor_of.result.0.0 (plain_patterns c.constructor_of.result.1.now))
    (application c.constructor_of-2.result.0.0 (plain_patterns c.constructor_of-2.result.1.now))
    made c.constructor_of.ensures c.constructor_of-2.ensures kept)
    c.constructors_apart.ensures.apart
