-- How much of a file has been read at most.
use Rattle.std.specs.Prelude.{◌≡◌, ℕ, ◌≤◌, ◌⊎◌, List, [], Option, Some, None}
use Rattle.desk_io.specs.Told.{Told}
use Rattle.desk_io.specs.Changes.{Leaves}

-- nothing is unread; or the file of that name is open, and all but its first bytes are unread, and
-- these are at most this many
abbrev pub LeavesMost : Option Told → Option Told → List ℕ → ℕ → Type 0
LeavesMost None new name most = Unit {0}
LeavesMost (Some old) new name most = (new ≡ Some (record old { unread = [] }))
    ⊎ ((n : ℕ) × (n ≤ most) × Leaves (Some old) new name n)
