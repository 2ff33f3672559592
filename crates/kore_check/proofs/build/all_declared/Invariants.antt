use Rattle.std.proofs.Common.{◌≡◌, ◌++◌, drop, map, List, ℕ}
use Rattle.std.specs.Prelude.{option_map}
use Rattle.kore_ast.specs.Plain.{plain_sort}
use Rattle.term_core.specs.RulePatterns.{sort_numbers as numbers_of}
use Rattle.kore_check.specs.PatternSorts.{sort_numbers}
use Rattle.kore_check.proofs.build.all_declared.Given as goal

abbrev pub invariant-loop-sort : goal.invariant-loop-sort
invariant-loop-sort l =
    option_map (λ (ns : List ℕ). numbers_of l.declared.items ++ ns)
    (sort_numbers l.sig (map plain_sort (drop l.sort-index l.sorts)))
    ≡ sort_numbers l.sig (map plain_sort l.sorts)
