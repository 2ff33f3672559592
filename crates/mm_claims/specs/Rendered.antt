-- What a renderer keeps of what it wrote.
use Rattle.std.specs.Prelude.{ℕ, Bool, true, false, List, [], ◌++◌}
use Rattle.mm_claims.specs.Blocks.{Stated}

-- Whether the header was written; how many names were declared, which are those with the first
-- numbers; how many claims were stated; those claims that may always be cited; and the last claim
-- of a run, which may be cited until the next one is stated.
pub record Rendered : Type 0 where
  pub begun : Bool
  pub named : ℕ
  pub count : ℕ
  pub stated : List Stated
  pub last : List Stated

-- what may be cited
abbrev pub all_stated : Rendered → List Stated
all_stated k = k.stated ++ k.last

abbrev pub nothing_rendered : Rendered
nothing_rendered = record { begun = false; named = 0; count = 0; stated = []; last = [] }

-- only the header was written
abbrev pub header_rendered : Rendered
header_rendered = record { begun = true; named = 0; count = 0; stated = []; last = [] }
