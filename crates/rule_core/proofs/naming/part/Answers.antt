use Rattle.term_core.specs.PatternLists.{plain_patterns}
use Rattle.term_core.specs.RulePatterns.{plain_pattern}
use Rattle.rule_core.specs.NamedParts.{part_of}
use Rattle.rule_core.proofs.NamingLaws.{first_within, first_part, child_there, child_goes_on}
use Rattle.rule_core.proofs.NamingLaws.{way_ends}
use Rattle.rule_core.proofs.naming.part.Goals as goal

pub bounds-pats-at : goal.bounds-pats-at
bounds-pats-at c = first_within c.args.pats.now c.args.at.now c.requires

pub loop-i-init : goal.loop-i-init
loop-i-init c =
    first_part c.args.pats.now c.args.at.now c.index-pats-at.result c.requires c.index-pats-at.is

pub child-part-requires : goal.child-part-requires
child-part-requires c =
    child_there c.args.at.now c.loop-i.i (plain_pattern c.loop-i.part.now)
    (part_of (plain_patterns c.args.pats.now) c.args.at.now) c.loop-i-test.true c.requires
    c.loop-i.invariant

pub loop-i-preserved : goal.loop-i-preserved
loop-i-preserved c =
    child_goes_on c.args.at.now c.loop-i.i (plain_pattern c.loop-i.part.now)
    (plain_pattern c.child-part.result.now)
    (part_of (plain_patterns c.args.pats.now) c.args.at.now) c.loop-i-test.true
    c.loop-i.invariant c.child-part.ensures

pub returns : goal.returns
returns c =
    way_ends c.args.at.now c.loop-i.i (plain_pattern c.loop-i.part.now)
    (part_of (plain_patterns c.args.pats.now) c.args.at.now) c.loop-i-test.false
    c.loop-i.invariant
