use Rattle.std.proofs.Common.{◌≡◌, ◌++◌, ◌∷◌, [], map, vec_len}
use Rattle.term_core.specs.RulePatterns.{plain_pattern, sort_numbers as numbers_of}
use Rattle.kore_check.specs.Building.{right_pattern}
use Rattle.kore_check.proofs.build.folded_right.Given as goal

abbrev pub invariant-loop-earlier : goal.invariant-loop-earlier
invariant-loop-earlier l =
    right_pattern l.head.kind l.head.sym.0 (numbers_of l.head.sorts.items)
    (map plain_pattern l.rest.items ++ plain_pattern l.made ∷ [])
    ≡ right_pattern l.head.kind l.head.sym.0 (numbers_of l.head.sorts.items)
    (map plain_pattern l.fn.args.items)

abbrev pub decreases-loop-earlier : goal.decreases-loop-earlier
decreases-loop-earlier l = vec_len l.rest
