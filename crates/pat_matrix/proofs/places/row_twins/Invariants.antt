use Rattle.std.proofs.Common.{◌≡◌, ◌++◌, map}
use Rattle.term_core.specs.RulePatterns.{plain_pattern}
use Rattle.pat_matrix.specs.Occurrences.{row_twins, twins}
use Rattle.pat_matrix.specs.PlaceView.{occurrences_of, twins_of}
use Rattle.pat_matrix.proofs.places.row_twins.Given as goal

abbrev pub invariant-loop-occurrence : goal.invariant-loop-occurrence
invariant-loop-occurrence l =
    twins_of l.found.items
    ++ twins (occurrences_of l.seen.items) (occurrences_of l.occurrence-iterator.rest.items)
    ≡ row_twins (map plain_pattern l.row)
