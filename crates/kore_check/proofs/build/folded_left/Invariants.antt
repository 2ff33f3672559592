use Rattle.std.proofs.Common.{◌≡◌, map, reverse, vec_len}
use Rattle.term_core.specs.RulePatterns.{plain_pattern, sort_numbers as numbers_of}
use Rattle.kore_check.specs.Building.{fold_left_from, left_pattern}
use Rattle.kore_check.proofs.build.folded_left.Given as goal

abbrev pub invariant-loop-next : goal.invariant-loop-next
invariant-loop-next l =
    fold_left_from l.head.kind l.head.sym.0 (numbers_of l.head.sorts.items) (plain_pattern l.made)
    (map plain_pattern (reverse l.rest.items))
    ≡ left_pattern l.head.kind l.head.sym.0 (numbers_of l.head.sorts.items)
    (map plain_pattern l.fn.args.items)

abbrev pub decreases-loop-next : goal.decreases-loop-next
decreases-loop-next l = vec_len l.rest
