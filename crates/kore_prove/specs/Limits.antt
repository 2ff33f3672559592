-- The limits on the bytes of a file, and what a file holds within such a limit.
use Rattle.std.specs.Prelude.{ℕ, ◌≤◌, List, length, Option}
use Rattle.desk_io.specs.Told.{Told, Holds}

-- the greatest numbers of bytes of a definition and of a term
abbrev pub definition_limit : ℕ
definition_limit = 33554432

abbrev pub term_limit : ℕ
term_limit = 1048576

-- the file of that name holds these bytes, and they are within the limit
abbrev pub HoldsWithin : Option Told → List ℕ → ℕ → List ℕ → Type 0
HoldsWithin told name limit bytes = Holds told name bytes × (length bytes ≤ limit)
