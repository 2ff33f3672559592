use Rattle.std.proofs.Common.{◌≡◌, ◌+◌, length}
use Rattle.term_core.specs.RulePatterns.{sort_numbers}
use Rattle.guard_body.specs.Arguments.{AreMatched}
use Rattle.guard_body.proofs.FoundLists.{all_match, found_none, found_some, one_more, stops}
use Rattle.guard_body.proofs.matches.all_found.Goals as goal

pub loop-argument-preserved : goal.loop-argument-preserved
loop-argument-preserved c =
    let both : (length c.push.new.self.items ≡ c.loop-argument.argument-index + 1)
    × AreMatched c.args.sig.now (sort_numbers c.args.sorts.now) c.args.arguments.now
    c.push.new.self.items =
    one_more c.args.sig.now (sort_numbers c.args.sorts.now) c.args.arguments.now
    c.loop-argument.all.items c.push.new.self.items c.loop-argument.argument-index
    c.argument-item.result c.in-Some.subst c.loop-argument-test.true c.argument-item.is
    c.loop-argument.invariant.many c.loop-argument.invariant.matched
    c.in_ok-push-in-Some.ensures.items
    (found_some c.args.sig.now (sort_numbers c.args.sorts.now) c.argument-item.result
    c.in_ok-subst.field-0 c.in-Some.subst c.in-Some.is c.in_ok-subst.ensures) in
    record { many = both.0; matched = both.1 }

pub returns : goal.returns
returns c =
    all_match c.args.sig.now (sort_numbers c.args.sorts.now) c.args.arguments.now
    c.loop-argument.all.items c.loop-argument.argument-index c.loop-argument-test.false
    c.loop-argument.auto.argument-index-end c.loop-argument.invariant.many
    c.loop-argument.invariant.matched

pub returns-in-None : goal.returns-in-None
returns-in-None c =
    stops c.args.sig.now (sort_numbers c.args.sorts.now) c.args.arguments.now
    c.loop-argument.all.items c.loop-argument.argument-index c.argument-item.result
    c.loop-argument-test.true c.argument-item.is c.loop-argument.invariant.many
    c.loop-argument.invariant.matched
    (found_none c.args.sig.now (sort_numbers c.args.sorts.now) c.argument-item.result
    c.in_ok-subst.field-0 c.in-None.is c.in_ok-subst.ensures)
