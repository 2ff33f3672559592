use Rattle.std.proofs.Common.{◌≡◌, drop, map}
use Rattle.std.specs.Prelude.{is_some, ◌&&◌, flat_map}
use Rattle.kore_ast.specs.Plain.{plain_sort}
use Rattle.kore_check.specs.PatternSorts.{sort_numbers}
use Rattle.kore_check.specs.PatternFaults.{sort_faults}
use Rattle.kore_check.specs.Notes.{after}
use Rattle.kore_check.proofs.sorts.check_sorts.Given as goal

abbrev pub invariant-loop-sort : goal.invariant-loop-sort
invariant-loop-sort l = record {
  all : (l.all_declared
      && is_some (sort_numbers l.sig (map plain_sort (drop l.sort-index l.sorts))))
      ≡ is_some (sort_numbers l.sig (map plain_sort l.sorts));
  first : after l.first (flat_map (sort_faults l.sig) (map plain_sort (drop l.sort-index l.sorts)))
      ≡ after l.initial.first (flat_map (sort_faults l.sig) (map plain_sort l.sorts));
}
