-- Labels of the places of a tree: what is left to do there.
use Rattle.std.specs.Prelude.{ℕ, List}
use Rattle.pat_matrix.specs.Rows.{Row}
use Rattle.pat_matrix.specs.MatchTrees.{Findings}

-- the number of the first row that is not done with, what was found, and the rows that are left
pub record Label : Type 0 where
  pub from : ℕ
  pub found : Findings
  pub rows : List Row
