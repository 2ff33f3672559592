use Rattle.std.proofs.Common.{◌≡◌, map, drop}
use Rattle.std.specs.Prelude.{flat_map}
use Rattle.kore_ast.specs.Plain.{plain_sort}
use Rattle.kore_sig.specs.Noted.{noted, leads_by_number, first_by_number}
use Rattle.kore_sig.specs.SignatureFaults.{reference_faults}
use Rattle.kore_sig.specs.UnknownSorts.{unknown_sort_at}
use Rattle.kore_sig.proofs.references.first_unknown.Given as goal

abbrev pub invariant-loop-arg : goal.invariant-loop-arg
invariant-loop-arg l =
    noted leads_by_number (unknown_sort_at l.first)
    (flat_map (reference_faults l.sorts l.params) (map plain_sort (drop l.arg-index l.args)))
    ≡ first_by_number (flat_map (reference_faults l.sorts l.params) (map plain_sort l.args))
