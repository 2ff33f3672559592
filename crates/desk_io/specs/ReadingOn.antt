-- How the parts of a reading change the unread bytes of the opened file.
use Rattle.std.specs.Prelude.{◌≡◌, ℕ, ◌≤◌, List, [], ◌++◌, length, drop, Option, Some, None}
use Rattle.desk_io.specs.Told.{Told}
use Rattle.desk_io.specs.Changes.{Passed}

-- these bytes were all that was unread, and nothing is unread now
abbrev pub Drains : Option Told → Option Told → List ℕ → Type 0
Drains None new bytes = Unit {0}
Drains (Some old) new bytes = (old.unread ≡ bytes) × (new ≡ Some (record old { unread = [] }))

-- the first n unread bytes have been read
abbrev pub PassedMany : Option Told → Option Told → ℕ → Type 0
PassedMany None new n = Unit {0}
PassedMany (Some old) new n =
    (n ≤ length old.unread) × (new ≡ Some (record old { unread = drop n old.unread }))

-- at most this many of the first unread bytes have been read
abbrev pub PassedAtMost : Option Told → Option Told → ℕ → Type 0
PassedAtMost None new most = Unit {0}
PassedAtMost (Some old) new most =
    (n : ℕ) × (n ≤ most) × (new ≡ Some (record old { unread = drop n old.unread }))

-- a list grew by bytes that were the first unread ones and have now been read
abbrev pub PassedTo : Option Told → Option Told → List ℕ → List ℕ → Type 0
PassedTo told told' list list' =
    (bytes : List ℕ) × (list' ≡ list ++ bytes) × Passed told told' bytes
