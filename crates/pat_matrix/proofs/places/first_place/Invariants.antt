use Rattle.std.proofs.Common.{◌≡◌, drop}
use Rattle.pat_matrix.specs.Occurrences.{first_place}
use Rattle.pat_matrix.specs.PlaceView.{occurrences_of}
use Rattle.pat_matrix.proofs.places.first_place.Given as goal

abbrev pub invariant-loop-occurrence : goal.invariant-loop-occurrence
invariant-loop-occurrence l =
    first_place l.var (occurrences_of (drop l.occurrence-index l.seen))
    ≡ first_place l.var (occurrences_of l.seen)
