use Rattle.std.proofs.Common.{◌≡◌, drop}
use Rattle.pat_matrix.specs.Occurrences.{twins_agree}
use Rattle.pat_matrix.specs.PlaceView.{twins_of}
use Rattle.match_tree.proofs.trial.row_matches.Given as goal

abbrev pub invariant-loop-twin : goal.invariant-loop-twin
invariant-loop-twin g l =
    twins_agree l.subjects (twins_of (drop l.twin-index l.twins))
    ≡ twins_agree l.subjects (twins_of l.twins)
