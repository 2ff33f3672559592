use Rattle.std.proofs.Common.{take}
use Rattle.pat_matrix.specs.Groups.{IsSplit}
use Rattle.pat_matrix.proofs.matrix.Matrix.split.Given as goal

abbrev pub invariant-loop-row : goal.invariant-loop-row
invariant-loop-row l = IsSplit l.self l.position (take l.row-index l.rows) l.split
