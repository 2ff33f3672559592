use Rattle.std.proofs.Common.{◌≤◌, List, ℕ, take}
use Rattle.std.specs.List.{flat_map}
use Rattle.std.specs.Borrow.{Bor}
use Rattle.desk_io.specs.Sent.{Appends}
use Rattle.kore_prove.proofs.report.send_pieces.Given as goal

abbrev pub invariant-loop-piece : goal.invariant-loop-piece
invariant-loop-piece g l = record {
  appends : Appends (g.E.Sink.state l.initial.err).bytes (g.E.Sink.state l.err).bytes
      (flat_map (λ (piece : Bor (List ℕ)). piece.now) (take l.piece-index l.pieces));
  counts : (g.E.Sink.state l.initial.err).faults ≤ (g.E.Sink.state l.err).faults;
}
