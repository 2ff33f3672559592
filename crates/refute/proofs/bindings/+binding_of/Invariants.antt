use Rattle.std.proofs.Common.{◌+◌, ◌*◌}
use Rattle.std.specs.Prelude.{option_copied}
use Rattle.term_core.specs.Forests.{children}
use Rattle.term_core.specs.PatternLists.{plain_patterns}
use Rattle.term_core.specs.RulePatterns.{plain_pattern}
use Rattle.term_core.proofs.PatternLaws.{depth, depths}
use Rattle.refute.proofs.Findings.{FindsNoneBefore}
use Rattle.refute.proofs.bindings.+binding_of.Given as goal

abbrev pub decreases-binding_of : goal.decreases-binding_of
decreases-binding_of l = 2 * depth (plain_pattern l.pat.now)

abbrev pub decreases-binding_among : goal.decreases-binding_among
decreases-binding_among l = 2 * depths (plain_patterns l.args.now) + 1

abbrev pub invariant-binding_among-loop-i : goal.invariant-binding_among-loop-i
invariant-binding_among-loop-i l =
    FindsNoneBefore l.subsorts l.x (option_copied l.but) l.args (children l.term) l.i
